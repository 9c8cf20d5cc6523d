use Rattle.std.proofs.Common.{◌≡◌, ◌-◌, ◌^◌, ◌<◌, List, min, sym, ap, ◌∙◌, subst, arith}
use Rattle.tk_types.specs.declared.value.Param.{Param}
use Rattle.tk_matrix.specs.Product.{product_count}
use Rattle.tk_matrix.specs.Combinations.{list_count}
use Rattle.tk_matrix.proofs.Counting.{combination_count-empty, combination_count-full, own_count}
use Rattle.tk_matrix.proofs.size.capped_count.Goals as goal

pub returns-then-count_product-eq0 : goal.returns-then-count_product-eq0
returns-then-count_product-eq0 c =
    let e : product_count c.as_slice-params.result.now ≡ 0 = omega arith in
    omega (arith, combination_count-empty c.args.matrix.now (ap product_count (sym c.as_slice-params.ensures) ∙ e))

pub returns : goal.returns
returns c =
    let matrix = c.args.matrix.now in
    let P : List Param → Type 0 = λ ps. 0 < product_count ps in
    let some : 0 < product_count c.as_slice-params.result.now = omega arith in
    let full = combination_count-full matrix (subst P c.as_slice-params.ensures some) in
    let listed = c.capped_list_count.ensures ∙ ap (λ ps. min (list_count ps) (2 ^ 64 - 1)) c.as_slice-params.ensures in
    let own = own_count matrix _ _ c.count_own-own.result c.as_slice-params.ensures c.as_slice.ensures c.count_own-own.ensures in
    omega (arith, full, listed, own)

use Rattle.std.proofs.Common.{◌<◌, List, sym, subst}
use Rattle.tk_types.specs.declared.value.Param.{Param}
use Rattle.tk_matrix.specs.Product.{product_count}
use Rattle.tk_matrix.proofs.Counting.{product_count-positive}
use Rattle.tk_matrix.proofs.listing.combination.Goals as goal

pub own_entry-requires : goal.own_entry-requires
own_entry-requires c =
    let P : List Param → Type 0 = λ ps. 0 < product_count ps in
    subst P (sym c.as_slice-params.ensures) (product_count-positive c.args.matrix.now c.args.index c.requires.below)

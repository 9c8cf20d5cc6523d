use Rattle.std.proofs.Common.{◌≡◌, ◌<◌, ◌++◌, drop}
use Rattle.tk_matrix.specs.Product.{product_count}
use Rattle.tk_matrix.proofs.Digits.{product_at}
use Rattle.tk_matrix.proofs.product.chosen.Given as goal

-- what is made, and the rest of the number read by the parameters that are left, is the combination
abbrev pub invariant-loop-param : goal.invariant-loop-param
invariant-loop-param l =
    (0 < product_count (drop l.param-index l.params)) × (l.made ++ product_at l.rest (drop l.param-index l.params) ≡ product_at l.fn.index l.params)

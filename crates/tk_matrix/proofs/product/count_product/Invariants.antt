use Rattle.std.proofs.Common.{◌≡◌, ◌-◌, ◌^◌, min, take}
use Rattle.tk_matrix.specs.Product.{product_count}
use Rattle.tk_matrix.proofs.product.count_product.Given as goal

-- the count so far is that of the parameters so far, up to the cap
abbrev pub invariant-loop-param : goal.invariant-loop-param
invariant-loop-param l = l.count ≡ min (product_count (take l.param-index l.params)) (2 ^ 64 - 1)

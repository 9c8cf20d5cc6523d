use Rattle.std.proofs.Common.{◌≡◌, ℕ, List, IfSome, Some, bytes_eq}
use Rattle.std.specs.HashMap.{get_by}
use Rattle.tk_types.specs.Value.{value_named}
use Rattle.tk_bind.proofs.param_index.long_values.Given as goal

-- each value so far is that of its name
abbrev pub invariant-loop-item : goal.invariant-loop-item
invariant-loop-item l = (name : List ℕ) → IfSome (get_by (λ k. bytes_eq name k.now) l.long) (λ value. value_named name l.params ≡ Some value)

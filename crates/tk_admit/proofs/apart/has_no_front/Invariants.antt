use Rattle.std.proofs.Common.{◌≡◌, ℕ, ◌<◌, false, get_or, take}
use Rattle.tk_types.specs.Names.{is_in}
use Rattle.tk_admit.proofs.apart.has_no_front.Given as goal

-- no front that ends before a `-` of those seen is one of the names
abbrev pub invariant-loop-at : goal.invariant-loop-at
invariant-loop-at l = (k : ℕ) → k < l.at → get_or l.name k 0 ≡ 45 → is_in l.names (take k l.name) ≡ false

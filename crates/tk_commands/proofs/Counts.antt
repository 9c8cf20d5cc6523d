-- Counts of faults over writes that take bytes.
use Rattle.std.proofs.Common.{◌≡◌, ℕ, List, arith}
use Rattle.std.specs.Prelude.{if◌then◌else◌}
use Rattle.std.proofs.lemmas.Bool.Decides.{nat_tests}
use Rattle.tk_edge.specs.Causes.{raised}
use Rattle.tk_edge.specs.Streams.{takes_nothing}

-- a write that took something has not failed
pub none_failed : (piece : List ℕ) (taken first before now : ℕ)
    → (taken ≡ 0 → ⊥) → before ≡ first → now ≡ (if takes_nothing piece taken then raised before else before) → now ≡ first
none_failed piece taken first before now some same is = grind (arith, nat_tests)

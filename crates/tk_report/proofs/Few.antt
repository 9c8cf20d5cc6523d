-- A run has few children of one task.
use Rattle.std.proofs.Common.{◌<◌, ◌^◌, ℕ, List, [], ◌∷◌, length, arith, inl, inr}
use Rattle.std.specs.Prelude.{nat_eq}
use Rattle.std.specs.List.{AllByRecursion}
use Rattle.std.proofs.lemmas.Bool.{cases_Bool}
use Rattle.std.proofs.lemmas.List.Elements.{recursion_from_All}
use Rattle.tk_journal.specs.declared.object.RunState.{RunState}
use Rattle.tk_journal.specs.declared.object.Scheduled.{Scheduled}
use Rattle.tk_journal.specs.Effects.{bindings_for}
use Rattle.tk_report.specs.Objects.{HasFewChildren}

few_among : (place : ℕ) (scheduled : List Scheduled) → AllByRecursion (λ (part : Scheduled). length part.bindings < 2 ^ 32) scheduled → length (bindings_for place scheduled) < 2 ^ 32
few_among place [] all = omega arith
few_among place (s ∷ ss) all = elim (cases_Bool (nat_eq s.task place)) [
  | inl hit ↦ rw hit all.0
  | inr miss ↦ rw miss (few_among place ss all.1)
]

pub few_for : (run : RunState) (place : ℕ) → HasFewChildren run → length (bindings_for place run.scheduled) < 2 ^ 32
few_for run place few = few_among place run.scheduled (recursion_from_All (λ (part : Scheduled). length part.bindings < 2 ^ 32) run.scheduled few)

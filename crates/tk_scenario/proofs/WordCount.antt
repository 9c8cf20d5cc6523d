-- An event has at most five words.
use Rattle.std.proofs.Common.{◌≡◌, ℕ, ◌≤◌, List, [], ◌∷◌, length, None, refl, arith}
use Rattle.tk_scenario.specs.declared.actors.Counts.{Counts}
use Rattle.tk_scenario.specs.Event.{event_by}

pub event_by-many : (counts : Counts) (reading : ℕ) (words : List (List ℕ)) → 6 ≤ length words → event_by counts reading words ≡ None
event_by-many counts reading [] many = absurd (omega arith)
event_by-many counts reading (a ∷ []) many = absurd (omega arith)
event_by-many counts reading (a ∷ b ∷ []) many = absurd (omega arith)
event_by-many counts reading (a ∷ b ∷ c ∷ []) many = absurd (omega arith)
event_by-many counts reading (a ∷ b ∷ c ∷ d ∷ []) many = absurd (omega arith)
event_by-many counts reading (a ∷ b ∷ c ∷ d ∷ e ∷ []) many = absurd (omega arith)
event_by-many counts reading (a ∷ b ∷ c ∷ d ∷ e ∷ f ∷ words) many = refl

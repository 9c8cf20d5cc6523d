-- How long a history is at a position.
use Rattle.std.proofs.Common.{◌≡◌, ℕ, suc, ◌≤◌, List, [], ◌∷◌, length, inl, inr, arith}
use Rattle.std.specs.Prelude.{nat_le}
use Rattle.std.proofs.lemmas.Bool.{cases_Bool, leb-true, leb-false}
use Rattle.tk_journal.specs.declared.entry.Entry.{Entry}
use Rattle.tk_journal.specs.History.{past}

pub length_past : (place : ℕ) (history : List Entry) → place ≤ length history → length (past place history) ≡ place
length_past place [] le = omega (arith, le)
length_past place (e ∷ older) le = elim (cases_Bool (nat_le (suc (length older)) place)) [
  | inl hit ↦ let above = leb-true (suc (length older)) place hit in rw hit (omega (arith, above, le))
  | inr miss ↦ let below = leb-false (suc (length older)) place miss in rw miss (length_past place older (omega (arith, below)))
]

-- What stands between a member's turns: its entries are covered by its gate's answers and have its clock's readings.
use Rattle.std.specs.Prelude.{◌≡◌, ℕ, List, ◌++◌, Option, Some, None, Bool, ⊤}
use Rattle.tk_edge.specs.declared.gate.GateTurn.{GateTurn}
use Rattle.tk_journal.specs.declared.entry.Fronts.{Fronts}
use Rattle.tk_journal.specs.declared.entry.Entry.{Entry}
use Rattle.tk_rounds.specs.Covered.{IsCovered, AreCovered}
use Rattle.tk_rounds.specs.Timed.{AreTimed, AreBetween}

-- by these answers and these readings
pub record Follows (mine : Entry → Bool) (answers : List GateTurn) (readings : List ℕ) (fronts : Fronts) (history : List Entry) : Type 0 where
  pub covered : AreCovered mine answers history
  pub reached : IsCovered answers history fronts
  pub timed : AreTimed mine answers readings history

-- what is told now is `new` and what was told before, where anything is told
abbrev pub IsToldSince : {X : Type 0} → Option (List X) → List X → Option (List X) → Type 0
IsToldSince None new now = now ≡ None
IsToldSince (Some before) new now = now ≡ Some (new ++ before)

-- the same of a list that may be told no longer
abbrev pub IsToldWhile : {X : Type 0} → Option (List X) → List X → Option (List X) → Type 0
IsToldWhile before new None = ⊤
IsToldWhile None new (Some now) = ⊥
IsToldWhile (Some before) new (Some now) = now ≡ new ++ before

-- what a member's gate and clock told at one moment
pub record Told : Type 0 where
  pub answers : Option (List GateTurn)
  pub readings : Option (List ℕ)
  pub last : ℕ

-- So it is by what gate and clock gave since a moment. Where they tell their answers and readings these are what they told.
pub record FollowsSince (mine : Entry → Bool) (since now : Told) (fronts : Fronts) (history : List Entry) : Type 0 where
  pub answers : List GateTurn
  pub readings : List ℕ
  pub follows : Follows mine answers readings fronts history
  pub gave : IsToldSince since.answers answers now.answers
  pub took : IsToldWhile since.readings readings now.readings
  pub between : AreBetween since.last readings now.last

abbrev pub told_by : {K : Type 0} → {G : Type 0} → (G → Option (List GateTurn)) → (K → Option (List ℕ)) → (K → ℕ) → G → K → Told
told_by answers readings last gate clock = record { answers = answers gate; readings = readings clock; last = last clock }

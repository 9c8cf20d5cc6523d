-- What texts ask, and that fewer texts ask the same.
use Rattle.std.specs.Prelude.{◌≡◌, ℕ, Bool, true, ◌||◌, List, [], ◌∷◌, All, Contains}
use Rattle.std.specs.List.{list_any}
use Rattle.tk_vars.specs.declared.reference.Reference.{Reference}
use Rattle.tk_vars.specs.declared.piece.Piece.{Piece}
use Rattle.tk_vars.specs.declared.piece.Piece.TheVariants.{Ref}
use Rattle.tk_vars.specs.Reading.{Reads, HasReading}
use Rattle.tk_resolve.specs.declared.due.Due.{Due}
use Rattle.tk_resolve.specs.Due.{DueText, is_as_strict}
use Rattle.tk_resolve.specs.Misuse.{any_use, passes}

-- what passes the test where something is due passes it where something stricter is due
abbrev pub HoldsStricter : (Due → Reference → Bool) → Type 0
HoldsStricter test = (due other : Due) (r : Reference) → is_as_strict due other ≡ true → test other r ≡ true → test due r ≡ true

-- each of the texts has a reading
abbrev pub ReadsDue : List DueText → Type 0
ReadsDue texts = All (λ (t : DueText). HasReading t.1) texts

-- a reference that is written alone is read as itself
abbrev pub IsAlone : Reference → Type 0
IsAlone r = Reads r.spelling (Ref r ∷ [])

-- of this spelling as much is asked, or more
abbrev pub IsAsked : List DueText → Due → List ℕ → Type 0
IsAsked asks due spelling = (known : Due) × Contains asks (known, spelling) × (is_as_strict known due ≡ true)

-- what was asked before is asked after, and what these pieces ask where this is due
pub record Adds (due : Due) (pieces : List Piece) (before after : List DueText) : Type 0 where
  pub reads : ReadsDue before → ReadsDue after
  pub asked : (test : Due → Reference → Bool) → HoldsStricter test → any_use test after ≡ (any_use test before || list_any (passes (test due)) pieces)

-- the fewer texts ask the same as all: they have a reading where those have, and some reference of these passes a test just where one of those does
pub record AsksTheSame (all fewer : List DueText) : Type 0 where
  pub reads : ReadsDue all → ReadsDue fewer
  pub same : ReadsDue all → (test : Due → Reference → Bool) → HoldsStricter test → any_use test fewer ≡ any_use test all

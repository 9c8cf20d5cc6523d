-- Why parameters aren't bound and why a text has no value. Want of memory says nothing.
use Rattle.std.specs.Prelude.{◌≡◌, ℕ, List, Result, Err}
use Rattle.tk_bind.specs.declared.refusal.BindError.{BindError}
use Rattle.tk_bind.specs.declared.refusal.BindError.TheVariants.{Missing, WrongKind, Memory as BindMemory}
use Rattle.tk_bind.specs.declared.refusal.SubstituteError.{SubstituteError}
use Rattle.tk_bind.specs.declared.refusal.SubstituteError.TheVariants.{Unavailable, Memory as SubstituteMemory}

abbrev pub IsBindRefusal : {X : Type 0} → Result X BindError → BindError → Type 0
IsBindRefusal answer BindMemory = Unit {0}
IsBindRefusal answer (Missing name) = answer ≡ Err (Missing name)
IsBindRefusal answer (WrongKind name) = answer ≡ Err (WrongKind name)

abbrev pub IsUnavailable : {X : Type 0} → Result X (List ℕ) → SubstituteError → Type 0
IsUnavailable answer SubstituteMemory = Unit {0}
IsUnavailable answer (Unavailable reference) = answer ≡ Err reference

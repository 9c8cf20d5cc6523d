-- Why a text is refused.
use Rattle.std.specs.Prelude.{◌≡◌, ℕ, List, Some}
use Rattle.tk_vars.specs.declared.error.ScanError.{ScanError}
use Rattle.tk_vars.specs.declared.error.ScanError.TheVariants.{BadReference, Memory}
use Rattle.tk_vars.specs.Offset.{bad_offset}
use Rattle.tk_vars.specs.Reading.{IsBadOffset}

-- the text has this bad offset; want of memory says nothing of the text
abbrev pub IsRefusal : List ℕ → ScanError → Type 0
IsRefusal text (BadReference offset) = IsBadOffset text offset
IsRefusal text Memory = Unit {0}

-- the same, by the offset as it is computed
abbrev pub TellsOffset : List ℕ → ScanError → Type 0
TellsOffset text (BadReference offset) = bad_offset text ≡ Some offset
TellsOffset text Memory = Unit {0}

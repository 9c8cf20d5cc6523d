-- What the references of a text refer to.
use Rattle.std.specs.Prelude.{ℕ, ◌||◌, if◌then◌else◌, List, [], ◌∷◌, ◌++◌, map, Option, Some, None, codes, decimal, bytes_eq, filter_map, unwrap_or}
use Rattle.std.specs.List.{join_with_byte}
use Rattle.tk_vars.specs.declared.part.Part.{Part}
use Rattle.tk_vars.specs.declared.part.Part.TheVariants.{Name, Index, Star}
use Rattle.tk_vars.specs.declared.reference.Reference.{Reference}
use Rattle.tk_vars.specs.declared.piece.Piece.{Piece}
use Rattle.tk_vars.specs.declared.piece.Piece.TheVariants.{Plain, Ref}
use Rattle.tk_vars.specs.Reading.{pieces_of, ends_with_star}

pub data Target : Type 0 where
  -- a parameter, and the selector
  param : List ℕ → List Part → Target
  -- a task, a result of it, and the selector
  result : List ℕ → List ℕ → List Part → Target
  -- a context, status or path variable
  word : List ℕ → Target

-- a part as a name and in the key of a word: its name, or an index or `[*]` as it is written, which is the name of nothing
abbrev pub key_part : Part → List ℕ
key_part (Name n) = n
key_part (Index i) = codes "[" ++ decimal i ++ codes "]"
key_part Star = codes "[*]"

-- the key of a word: its parts with a dot between each two
abbrev pub key_of : List Part → List ℕ
key_of parts = join_with_byte 46 (map key_part parts)

-- `params` PART SELECTOR, and `tasks` or `finally` TASK `results` PART SELECTOR, without their heads
abbrev pub param_target : List Part → Option Target
param_target (p ∷ selector) = Some (param (key_part p) selector)
param_target [] = None

abbrev pub result_target : List Part → Option Target
result_target (Name task ∷ Name field ∷ p ∷ selector) = if bytes_eq field (codes "results") then Some (result task (key_part p) selector) else None
result_target parts = None

-- what a reference with these parts refers to
abbrev pub target_of : List Part → Target
target_of (Name head ∷ parts) =
    let found = if bytes_eq head (codes "params") then param_target parts else (if bytes_eq head (codes "tasks") || bytes_eq head (codes "finally") then result_target parts else None) in
    unwrap_or found (word (key_of (Name head ∷ parts)))
target_of parts = word (key_of parts)

-- the references of a text
abbrev pub referenced : Piece → Option Reference
referenced (Plain text) = None
referenced (Ref reference) = Some reference

abbrev pub references_of : List ℕ → List Reference
references_of text = filter_map referenced (pieces_of text)

-- the reference that is the whole text and ends with `[*]`
abbrev pub whole_of : List Piece → Option Reference
whole_of (Ref reference ∷ []) = if ends_with_star reference.parts then Some reference else None
whole_of pieces = None

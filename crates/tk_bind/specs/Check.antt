-- What is wrong with a text in a scope.
use Rattle.std.specs.Prelude.{◌≡◌, ℕ, Bool, not, List, [], ◌∷◌, Option, Some, find, option_map}
use Rattle.tk_types.specs.First.{first_of}
use Rattle.tk_vars.specs.declared.reference.Reference.{Reference}
use Rattle.tk_vars.specs.Offset.{bad_offset}
use Rattle.tk_vars.specs.Target.{references_of}
use Rattle.tk_bind.specs.declared.refusal.CheckError.{CheckError}
use Rattle.tk_bind.specs.declared.refusal.CheckError.TheVariants.{BadReference, Unknown, WrongType, Memory}
use Rattle.tk_bind.specs.declared.scope.Scope.{Scope}
use Rattle.tk_bind.specs.Scope.{is_visible, is_well_typed}

-- the first reference of a text that fails a test, as it is written
abbrev pub first_failing : (Reference → Bool) → List ℕ → Option (List ℕ)
first_failing test text = option_map (λ (r : Reference). r.spelling) (find (λ r. not (test r)) (references_of text))

-- the text has no reading; or else a reference isn't visible; or else one is used against its type
abbrev pub text_fault : Scope → Bool → List ℕ → Option CheckError
text_fault scope whole text =
    first_of
    (option_map BadReference (bad_offset text)
    ∷ option_map Unknown (first_failing (is_visible scope) text)
    ∷ option_map WrongType (first_failing (is_well_typed scope whole) text)
    ∷ [])

-- it is refused for this; want of memory says nothing of the text
abbrev pub IsCheckRefusal : Option CheckError → CheckError → Type 0
IsCheckRefusal fault Memory = Unit {0}
IsCheckRefusal fault (BadReference offset) = fault ≡ Some (BadReference offset)
IsCheckRefusal fault (Unknown reference) = fault ≡ Some (Unknown reference)
IsCheckRefusal fault (WrongType reference) = fault ≡ Some (WrongType reference)

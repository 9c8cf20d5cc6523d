-- What is wrong with a text, by its parts.
use Rattle.std.proofs.Common.{◌≡◌, ℕ, Bool, not, List, Option, Some, None, find, option_map, option_copied, refl, ap, sym, ◌∙◌}
use Rattle.std.specs.Option.{option_or}
use Rattle.std.specs.List.{filter_map}
use denote.Ref.{Bor}
use Rattle.tk_vars.specs.declared.piece.Piece.{Piece}
use Rattle.tk_vars.specs.declared.reference.Reference.{Reference}
use Rattle.tk_vars.specs.Offset.{bad_offset}
use Rattle.tk_vars.specs.Reading.{pieces_of}
use Rattle.tk_vars.specs.Target.{referenced}
use Rattle.tk_bind.specs.declared.refusal.CheckError.{CheckError}
use Rattle.tk_bind.specs.declared.refusal.CheckError.TheVariants.{BadReference, Unknown, WrongType}
use Rattle.tk_bind.specs.declared.scope.Scope.{Scope}
use Rattle.tk_bind.specs.Check.{text_fault}
use Rattle.tk_bind.specs.Scope.{is_visible, is_well_typed}

-- the first of the three
abbrev fault_of : Option ℕ → Option Reference → Option Reference → Option CheckError
fault_of bad unknown mistyped =
    option_or (option_map BadReference bad)
    (option_or (option_map Unknown (option_map (λ (r : Reference). r.spelling) unknown)) (option_or (option_map WrongType (option_map (λ (r : Reference). r.spelling) mistyped)) None))

-- the first reference of a text that fails a test
abbrev pub failing : (Reference → Bool) → List ℕ → Option Reference
failing test text = find (λ r. not (test r)) (filter_map referenced (pieces_of text))

-- what is found among the pieces is the first of the text
pub failing_found : (test : Reference → Bool) (text : List ℕ) (slice pieces : List Piece) (found : Option (Bor Reference)) (answer : Option Reference) → slice ≡ pieces → pieces ≡ pieces_of text → option_copied found ≡ find (λ r. not (test r)) (filter_map referenced slice) → option_copied found ≡ answer → failing test text ≡ answer
failing_found test text slice pieces found answer same read is a = ap (λ ps. find (λ r. not (test r)) (filter_map referenced ps)) (sym read ∙ sym same) ∙ (sym is ∙ a)

text_fault-parts : (scope : Scope) (whole : Bool) (text : List ℕ) → text_fault scope whole text ≡ fault_of (bad_offset text) (failing (is_visible scope) text) (failing (is_well_typed scope whole) text)
text_fault-parts scope whole text = refl

pub text_fault-none : (scope : Scope) (whole : Bool) (text : List ℕ) → bad_offset text ≡ None → failing (is_visible scope) text ≡ None → failing (is_well_typed scope whole) text ≡ None → text_fault scope whole text ≡ None
text_fault-none scope whole text good seen typed =
    text_fault-parts scope whole text
    ∙ (ap (λ bad. fault_of bad (failing (is_visible scope) text) (failing (is_well_typed scope whole) text)) good
    ∙ (ap (λ unknown. fault_of None unknown (failing (is_well_typed scope whole) text)) seen ∙ ap (λ mistyped. fault_of None None mistyped) typed))

pub text_fault-unknown : (scope : Scope) (whole : Bool) (text : List ℕ) (r : Reference) → bad_offset text ≡ None → failing (is_visible scope) text ≡ Some r → text_fault scope whole text ≡ Some (Unknown r.spelling)
text_fault-unknown scope whole text r good unknown =
    text_fault-parts scope whole text
    ∙ (ap (λ bad. fault_of bad (failing (is_visible scope) text) (failing (is_well_typed scope whole) text)) good
    ∙ ap (λ found. fault_of None found (failing (is_well_typed scope whole) text)) unknown)

pub text_fault-mistyped : (scope : Scope) (whole : Bool) (text : List ℕ) (r : Reference) → bad_offset text ≡ None → failing (is_visible scope) text ≡ None → failing (is_well_typed scope whole) text ≡ Some r → text_fault scope whole text ≡ Some (WrongType r.spelling)
text_fault-mistyped scope whole text r good seen mistyped =
    text_fault-parts scope whole text
    ∙ (ap (λ bad. fault_of bad (failing (is_visible scope) text) (failing (is_well_typed scope whole) text)) good
    ∙ (ap (λ unknown. fault_of None unknown (failing (is_well_typed scope whole) text)) seen ∙ ap (λ found. fault_of None None found) mistyped))

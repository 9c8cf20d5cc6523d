-- What is wrong with a text that has a reading is what is wrong with its pieces, and with one that names nothing it is nothing.
use Rattle.std.proofs.Common.{◌≡◌, ◌∙◌, ℕ, Bool, List, None, not, ◌∷◌, [], find, is_some, map, option_map, ap}
use Rattle.tk_types.specs.Fault.{bad_reference, unknown_variable, unknown_task, wrong_type}
use Rattle.tk_types.specs.First.{first_of, refused_if}
use Rattle.tk_types.specs.Place.{Place}
use Rattle.tk_vars.specs.Offset.{bad_offset}
use Rattle.tk_vars.specs.Reading.{pieces_of}
use Rattle.tk_vars.specs.Target.{references_of}
use Rattle.tk_vars.specs.declared.reference.Reference.{Reference}
use Rattle.tk_bind.specs.declared.scope.Scope.{Scope}
use Rattle.tk_bind.specs.Scope.{is_visible, is_well_typed}
use Rattle.tk_validate.specs.Scoped.{pieces_finding, visible_finding, tasks_finding, types_finding}
use Rattle.tk_validate.specs.Texts.{text_finding, unknown_of}

pub by_pieces : (firsts : List (List ℕ)) (scope : Scope) (whole : Bool) (at : Place) (text : List ℕ) → bad_offset text ≡ None → text_finding firsts scope whole at text ≡ pieces_finding firsts scope whole (pieces_of text) at
unfolding text_finding
by_pieces firsts scope whole at text good =
    ap (λ o. first_of (option_map (bad_reference at) o ∷ visible_finding scope (pieces_of text) at ∷ tasks_finding firsts scope (pieces_of text) at ∷ types_finding scope whole (pieces_of text) at ∷ [])) good

pub plain_text : (firsts : List (List ℕ)) (scope : Scope) (whole : Bool) (at : Place) (text : List ℕ) → bad_offset text ≡ None → references_of text ≡ [] → text_finding firsts scope whole at text ≡ None
plain_text firsts scope whole at text good none =
    by_pieces firsts scope whole at text good
    ∙ ap (λ rs. first_of (
    option_map (unknown_variable at) (option_map (λ (r : Reference). r.spelling) (find (λ r. not (is_visible scope r)) rs))
    ∷ option_map (unknown_task at) (first_of (map (unknown_of firsts scope) rs))
    ∷ refused_if (is_some (option_map (λ (r : Reference). r.spelling) (find (λ r. not (is_well_typed scope whole r)) rs))) (wrong_type at)
    ∷ []
    )) none

-- Whether texts have values.
use Rattle.std.proofs.Common.{◌≡◌, ℕ, ◌∷◌, [], List, Option, Some, None, is_ok, is_some, ok_or, option_and_then, refl, sym, ap, ◌∙◌}
use Rattle.tk_vars.specs.declared.piece.Piece.{Piece}
use Rattle.tk_vars.specs.declared.reference.Reference.{Reference}
use Rattle.tk_vars.specs.Reading.{pieces_of}
use Rattle.tk_vars.specs.Target.{whole_of}
use Rattle.tk_bind.specs.declared.env.Env.{Env}
use Rattle.tk_bind.specs.Substitute.{on_ok, as_list, element, joined_text, reference_value, spliced_texts}

is_ok-ok_or : {T E : Type 0} (o : Option T) (e : E) → is_ok (ok_or o e) ≡ is_some o
is_ok-ok_or None e = refl
is_ok-ok_or (Some x) e = refl

-- a text that is a whole `[*]`, as an element
pub whole_element : (env : Env) (text : List ℕ) (pieces : List Piece) (reference : Reference) → pieces ≡ pieces_of text → Some reference ≡ whole_of pieces → is_some (option_and_then as_list (reference_value env reference)) ≡ is_ok (element env text)
whole_element env text pieces reference read whole =
    sym (is_ok-ok_or (option_and_then as_list (reference_value env reference)) reference.spelling)
    ∙ (ap (λ (w : Option Reference). is_ok {E = List ℕ} (elim w [ None ↦ on_ok (λ t. t ∷ []) (joined_text env pieces) | Some r ↦ ok_or (option_and_then as_list (reference_value env r)) r.spelling ])) whole
    ∙ ap (λ ps. is_ok (spliced_texts env ps)) read)

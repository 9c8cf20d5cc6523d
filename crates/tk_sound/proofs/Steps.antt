-- Where no reference lacks what is due, each text of a step has a value.
use Rattle.std.proofs.Common.{◌≡◌, ℕ, Bool, true, false, not, ◌||◌, List, [], ◌∷◌, ◌++◌, length, map, Option, Some, None, Result, Ok, Err, refl, sym, ap, ◌∙◌, arith}
use Rattle.std.specs.Prelude.{All, filter_map, flat_map, if◌then◌else◌, is_ok, is_some, nat_le, ok_or, option_and_then, option_to_list}
use Rattle.std.specs.List.{AllByRecursion, list_all, list_any}
use Rattle.std.proofs.lemmas.Bool.{and_from, lt-leb, or_parts}
use Rattle.std.proofs.lemmas.List.{map-append}
use Rattle.std.proofs.lemmas.List.Elements.{All-head, All-tail}
use Rattle.std.proofs.lemmas.List.Folds.{list_any-append}
use Rattle.tk_types.specs.declared.task.Step.{Step}
use Rattle.tk_types.specs.declared.value.Pair.{Pair}
use Rattle.tk_types.specs.Lists.{all_ok}
use Rattle.tk_vars.specs.declared.piece.Piece.{Piece}
use Rattle.tk_vars.specs.declared.piece.Piece.TheVariants.{Plain, Ref}
use Rattle.tk_vars.specs.declared.reference.Reference.{Reference}
use Rattle.tk_vars.specs.Reading.{HasReading, ends_with_star, is_star, pieces_of, star_alone}
use Rattle.tk_vars.specs.Target.{referenced, references_of, target_of}
use Rattle.tk_bind.specs.declared.env.Env.{Env}
use Rattle.tk_bind.specs.Fits.{step_elements, step_has_values, step_single_texts, step_texts}
use Rattle.tk_bind.specs.Substitute.{as_list, as_text, element, joined_text, on_ok, piece_text, reference_value, spliced_texts, substituted}
use Rattle.tk_resolve.specs.Due.{DueText, dues, element_dues, single_dues, step_dues}
use Rattle.tk_resolve.specs.Misuse.{any_lacks, lacks, passes}
use Rattle.tk_admit.proofs.Steps.{all_first, all_second}
use Rattle.tk_sound.proofs.Stars.{plain_target, star_target}
use Rattle.tk_sound.proofs.Values.{HasNoStar, IsSeen, alone, in_list, one_text, plain_element, star_element}

-- the references of a text are seen
abbrev pub SeesAll : Env → List ℕ → Type 0
SeesAll env text = All (λ (r : Reference). IsSeen env (target_of r.parts)) (references_of text)

-- what holds of each piece
record IsRight (env : Env) (due : DueText) (r : Reference) : Type 0 where
  seen : IsSeen env (target_of r.parts)
  has : lacks env [] due.0 r ≡ false

abbrev Right : Env → DueText → Piece → Type 0
Right env due (Plain text) = Unit {0}
Right env due (Ref r) = IsRight env due r

pieces_right : (env : Env) (due : DueText) (pieces : List Piece) → All (λ (r : Reference). IsSeen env (target_of r.parts)) (filter_map referenced pieces)
    → list_any (passes (lacks env [] due.0)) pieces ≡ false → AllByRecursion (Right env due) pieces
pieces_right env due [] seen none = tt
pieces_right env due (Plain text ∷ pieces) seen none = (tt, pieces_right env due pieces seen none)
pieces_right env due (Ref r ∷ pieces) seen none =
    let P : Reference → Type 0 = λ s. IsSeen env (target_of s.parts) in
    let parts = or_parts (lacks env [] due.0 r) (list_any (passes (lacks env [] due.0)) pieces) none in
    (record { seen = All-head P r (filter_map referenced pieces) seen; has = parts.0 }, pieces_right env due pieces (All-tail P r (filter_map referenced pieces) seen) parts.1)

-- results
ok_from : {T E : Type 0} (o : Option T) (e : E) → is_some o ≡ true → is_ok (ok_or o e) ≡ true
ok_from None e is = absurd (let f : ⊥ = cc in f)
ok_from (Some x) e is = refl

ok_mapped : {T U E : Type 0} (f : T → U) (r : Result T E) → is_ok r ≡ true → is_ok (on_ok f r) ≡ true
ok_mapped f (Ok x) is = refl
ok_mapped f (Err e) is = absurd (let g : ⊥ = cc in g)

ok_cons : {T E : Type 0} (x : T) (r : Result (List T) E) → is_ok r ≡ true → is_ok (elim r [ Ok xs ↦ Ok (x ∷ xs) | Err e ↦ Err e ]) ≡ true
ok_cons x (Ok xs) is = refl
ok_cons x (Err e) is = absurd (let f : ⊥ = cc in f)

ok_first : {T E : Type 0} (r : Result T E) (rs : List (Result T E)) → is_ok r ≡ true → is_ok (all_ok rs) ≡ true → is_ok (all_ok (r ∷ rs)) ≡ true
ok_first (Ok x) rs here rest = ok_cons x (all_ok rs) rest
ok_first (Err e) rs here rest = absurd (let f : ⊥ = cc in f)

-- the pieces of a text have texts
joined_ok : (env : Env) (pieces : List Piece) → AllByRecursion (λ p. is_ok (piece_text env p) ≡ true) pieces → is_ok (all_ok (map (piece_text env) pieces)) ≡ true
joined_ok env [] each = refl
joined_ok env (p ∷ pieces) each = ok_first (piece_text env p) (map (piece_text env) pieces) each.0 (joined_ok env pieces each.1)

text_ok : (env : Env) (pieces : List Piece) → AllByRecursion (λ p. is_ok (piece_text env p) ≡ true) pieces → is_ok (joined_text env pieces) ≡ true
text_ok env pieces each = ok_mapped (flat_map (λ (t : List ℕ). t)) (all_ok (map (piece_text env) pieces)) (joined_ok env pieces each)

-- a text where one text is due
single_pieces : (env : Env) (pieces : List Piece) → AllByRecursion (Right env alone.0) pieces → AllByRecursion (λ p. is_ok (piece_text env p) ≡ true) pieces
single_pieces env [] right = tt
single_pieces env (Plain text ∷ pieces) right = (refl, single_pieces env pieces right.1)
single_pieces env (Ref r ∷ pieces) right =
    (ok_from (option_and_then as_text (reference_value env r)) r.spelling (one_text env (target_of r.parts) right.0.seen right.0.has), single_pieces env pieces right.1)

single_has : (env : Env) (text : List ℕ) → SeesAll env text → list_any (passes (lacks env [] alone.0.0)) (pieces_of text) ≡ false → is_ok (substituted env text) ≡ true
single_has env text seen none = text_ok env (pieces_of text) (single_pieces env (pieces_of text) (pieces_right env alone.0 (pieces_of text) seen none))

-- an element of a list, of which no piece is a `[*]`
plain_pieces : (env : Env) (pieces : List Piece) → list_any is_star pieces ≡ false → AllByRecursion (Right env in_list.0) pieces → AllByRecursion (λ p. is_ok (piece_text env p) ≡ true) pieces
plain_pieces env [] plain right = tt
plain_pieces env (Plain text ∷ pieces) plain right = (refl, plain_pieces env pieces plain right.1)
plain_pieces env (Ref r ∷ pieces) plain right =
    let parts = or_parts (ends_with_star r.parts) (list_any is_star pieces) plain in
    (ok_from (option_and_then as_text (reference_value env r)) r.spelling (plain_element env (target_of r.parts) right.0.seen (plain_target r.parts parts.0) right.0.has), plain_pieces env pieces parts.1 right.1)

plain_ok : (env : Env) (pieces : List Piece) → list_any is_star pieces ≡ false → AllByRecursion (Right env in_list.0) pieces → is_ok (on_ok (λ (t : List ℕ). t ∷ []) (joined_text env pieces)) ≡ true
plain_ok env pieces plain right = ok_mapped (λ (t : List ℕ). t ∷ []) (joined_text env pieces) (text_ok env pieces (plain_pieces env pieces plain right))

not_either : (a b : Bool) → (not a || b) ≡ true → b ≡ false → a ≡ false
not_either true b e f = cc
not_either false b e f = refl

no_star : (p q : Piece) (pieces : List Piece) → star_alone (p ∷ q ∷ pieces) ≡ true → list_any is_star (p ∷ q ∷ pieces) ≡ false
no_star p q pieces whole = not_either (list_any is_star (p ∷ q ∷ pieces)) (nat_le (length (p ∷ q ∷ pieces)) 1) whole (lt-leb (length (p ∷ q ∷ pieces)) 1 (omega arith))

-- one that is a `[*]` as a whole, or a reference alone
abbrev alone_texts : Env → Reference → Bool → Result (List (List ℕ)) (List ℕ)
alone_texts env r star =
    elim (if star then Some r else None) [
      | None ↦ on_ok (λ (t : List ℕ). t ∷ []) (joined_text env (Ref r ∷ []))
      | Some reference ↦ ok_or (option_and_then as_list (reference_value env reference)) reference.spelling
    ]

alone_ok : (env : Env) (r : Reference) (star : Bool) → ends_with_star r.parts ≡ star → HasNoStar env → AllByRecursion (Right env in_list.0) (Ref r ∷ []) → is_ok (alone_texts env r star) ≡ true
alone_ok env r true is none right =
    ok_from (option_and_then as_list (reference_value env r)) r.spelling (star_element env (target_of r.parts) none right.0.seen (star_target r.parts is) right.0.has)
alone_ok env r false is none right = plain_ok env (Ref r ∷ []) (ap (λ b. b || false) is) right

spliced_ok : (env : Env) (pieces : List Piece) → HasNoStar env → star_alone pieces ≡ true → AllByRecursion (Right env in_list.0) pieces → is_ok (spliced_texts env pieces) ≡ true
spliced_ok env [] none whole right = refl
spliced_ok env (Plain text ∷ []) none whole right = plain_ok env (Plain text ∷ []) refl right
spliced_ok env (Ref r ∷ []) none whole right = alone_ok env r (ends_with_star r.parts) refl none right
spliced_ok env (Plain text ∷ q ∷ pieces) none whole right = plain_ok env (Plain text ∷ q ∷ pieces) (no_star (Plain text) q pieces whole) right
spliced_ok env (Ref r ∷ q ∷ pieces) none whole right = plain_ok env (Ref r ∷ q ∷ pieces) (no_star (Ref r) q pieces whole) right

element_has : (env : Env) (text : List ℕ) → HasNoStar env → HasReading text → SeesAll env text → list_any (passes (lacks env [] in_list.0.0)) (pieces_of text) ≡ false → is_ok (element env text) ≡ true
element_has env text none reading seen lacking =
    spliced_ok env (pieces_of text) none reading.alone (pieces_right env in_list.0 (pieces_of text) seen lacking)

-- lists of texts
elements_have : (env : Env) (texts : List (List ℕ)) → HasNoStar env → All HasReading texts → All (SeesAll env) texts → any_lacks env [] (dues in_list.0.0 texts) ≡ false → is_ok (all_ok (map (element env) texts)) ≡ true
elements_have env [] none readings seen lacking = refl
elements_have env (t ∷ texts) none readings seen lacking =
    let parts = or_parts (list_any (passes (lacks env [] in_list.0.0)) (pieces_of t)) (any_lacks env [] (dues in_list.0.0 texts)) lacking in
    ok_first (element env t) (map (element env) texts) (element_has env t none (All-head HasReading t texts readings) (All-head (SeesAll env) t texts seen) parts.0)
    (elements_have env texts none (All-tail HasReading t texts readings) (All-tail (SeesAll env) t texts seen) parts.1)

singles_have : (env : Env) (texts : List (List ℕ)) → All (SeesAll env) texts → any_lacks env [] (dues alone.0.0 texts) ≡ false → list_all (λ text. is_ok (substituted env text)) texts ≡ true
singles_have env [] seen lacking = refl
singles_have env (t ∷ texts) seen lacking =
    let parts = or_parts (list_any (passes (lacks env [] alone.0.0)) (pieces_of t)) (any_lacks env [] (dues alone.0.0 texts)) lacking in
    and_from _ _ (single_has env t (All-head (SeesAll env) t texts seen) parts.0) (singles_have env texts (All-tail (SeesAll env) t texts seen) parts.1)

-- what is due in a step
pair_dues : (pairs : List Pair) → map (λ (p : Pair). (alone.0.0, p.value)) pairs ≡ dues alone.0.0 (map (λ (p : Pair). p.value) pairs)
pair_dues [] = refl
pair_dues (p ∷ pairs) = ap (λ (ts : List DueText). (alone.0.0, p.value) ∷ ts) (pair_dues pairs)

elements_due : (step : Step) → element_dues step ≡ dues in_list.0.0 (step_elements step)
elements_due step = sym (map-append (λ (t : List ℕ). (in_list.0.0, t)) step.command step.args)

singles_due : (step : Step) → single_dues step ≡ dues alone.0.0 (step_single_texts step)
singles_due step =
    let one : List ℕ → DueText = λ t. (alone.0.0, t) in
    let script = option_to_list step.script in
    let values = map (λ (p : Pair). p.value) step.env in
    let dir = option_to_list step.dir in
    ap (λ (ts : List DueText). map one script ++ ts ++ map one dir) (pair_dues step.env)
    ∙ (ap (λ (ts : List DueText). ts ++ map one dir) (sym (map-append one script values)) ∙ sym (map-append one (script ++ values) dir))

lacks_both : (env : Env) (xs ys : List DueText) → any_lacks env [] (xs ++ ys) ≡ (any_lacks env [] xs || any_lacks env [] ys)
lacks_both env xs ys = list_any-append (λ (t : DueText). list_any (passes (lacks env [] t.0)) (pieces_of t.1)) xs ys

step_has : (env : Env) (step : Step) → HasNoStar env → All HasReading (step_texts step) → All (SeesAll env) (step_texts step) → any_lacks env [] (step_dues step) ≡ false → step_has_values env step ≡ true
step_has env step none readings seen lacking =
    let elements = step_elements step in
    let singles = step_single_texts step in
    let parts = or_parts (any_lacks env [] (element_dues step)) (any_lacks env [] (single_dues step)) (sym (lacks_both env (element_dues step) (single_dues step)) ∙ lacking) in
    and_from _ _
    (ok_mapped (flat_map (λ (ts : List (List ℕ)). ts)) (all_ok (map (element env) elements))
    (elements_have env elements none (all_first HasReading elements singles readings) (all_first (SeesAll env) elements singles seen) (ap (any_lacks env []) (sym (elements_due step)) ∙ parts.0)))
    (singles_have env singles (all_second (SeesAll env) elements singles seen) (ap (any_lacks env []) (sym (singles_due step)) ∙ parts.1))

pub steps_have : (env : Env) (steps : List Step) → HasNoStar env → All (λ (s : Step). All HasReading (step_texts s)) steps → All (λ (s : Step). All (SeesAll env) (step_texts s)) steps
    → any_lacks env [] (flat_map step_dues steps) ≡ false → list_all (step_has_values env) steps ≡ true
steps_have env [] none readings seen lacking = refl
steps_have env (s ∷ steps) none readings seen lacking =
    let P : Step → Type 0 = λ t. All HasReading (step_texts t) in
    let Q : Step → Type 0 = λ t. All (SeesAll env) (step_texts t) in
    let parts = or_parts (any_lacks env [] (step_dues s)) (any_lacks env [] (flat_map step_dues steps)) (sym (lacks_both env (step_dues s) (flat_map step_dues steps)) ∙ lacking) in
    and_from _ _ (step_has env s none (All-head P s steps readings) (All-head Q s steps seen) parts.0)
    (steps_have env steps none (All-tail P s steps readings) (All-tail Q s steps seen) parts.1)

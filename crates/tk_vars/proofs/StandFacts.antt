-- Whether a reference stands at the beginning of a text.
use Rattle.std.proofs.Common.{◌≡◌, ℕ, suc, ◌+◌, ◌<◌, List, [], ◌∷◌, ◌++◌, length, drop, get_or, refl, sym, ◌∙◌, ap, subst, Bool, true, false, ◌&&◌, ◌||◌, not, Option, Some, None, arith, append_assoc, length-append}
use Rattle.std.specs.Prelude.{bytes_eq, nat_eq, take_while, ◌==◌, MatchOption, IfSome, IfNone, ◌≢◌}
use Rattle.std.specs.List.{list_all, starts_with}
use Rattle.std.proofs.lemmas.Bool.{eqb-true, eq-eqb, ne_eqb}
use Rattle.std.proofs.lemmas.List.{append-nil}
use Rattle.tk_vars.specs.declared.reference.Reference.{Reference}
use Rattle.tk_vars.specs.Grammar.{is_reference}
use Rattle.tk_vars.specs.Reading.{reference_of, reference_at, ends_with_star}
use Rattle.tk_vars.specs.Steps.{begins_with, in_reference, stands_first, IsFirstReference, IsSplitAt}
use denote.Ref.{Bor}
use Rattle.tk_vars.proofs.TextFacts.{and_first, and_second, same_text, take_while-stops}
use Rattle.tk_vars.proofs.TailFacts.{and_both, never, same_bytes, and_false}
use Rattle.tk_vars.proofs.BadOffset.{prefix_and_rest, starts_with-append}

no_true : false ≡ true → ⊥
no_true e = cc

-- no byte is this one
pub none_is : (k : ℕ) (xs : List ℕ) → ((i : ℕ) → i < length xs → get_or xs i 0 ≡ k → ⊥) → list_all (λ c. not (c == k)) xs ≡ true
none_is k [] other = refl
none_is k (x ∷ xs) other =
    and_both (not (x == k)) (list_all (λ c. not (c == k)) xs) (ap not (ne_eqb x k (other 0 (omega arith)))) (none_is k xs (λ i lt e. other (suc i) (omega arith) e))

-- a reference stands where its `)` is found
pub record IsFound (after inner rest : List ℕ) : Type 0 where
  pub found : reference_at (36 ∷ after) ≡ reference_of inner
  pub whole : 36 ∷ after ≡ (reference_of inner).spelling ++ rest

pub found_reference : (after front inner rest : List ℕ) → after ≡ front ++ 41 ∷ rest → list_all in_reference front ≡ true → front ≡ 40 ∷ inner → IsFound after inner rest
found_reference after front inner rest after_is inside front_is =
    let text : after ≡ 40 ∷ inner ++ 41 ∷ rest = after_is ∙ ap (λ f. f ++ 41 ∷ rest) front_is in
    let within : list_all in_reference inner ≡ true = and_second (in_reference 40) (list_all in_reference inner) (subst (λ f. list_all in_reference f ≡ true) front_is inside) in
    let taken : take_while in_reference (inner ++ 41 ∷ rest) ≡ inner = take_while-stops in_reference inner (41 ∷ rest) within refl in
    record {
      found = ap (λ t. reference_at (36 ∷ t)) text ∙ ap reference_of taken;
      whole = ap (λ t. 36 ∷ t) text ∙ ap (λ t. 36 ∷ 40 ∷ t) (sym (append_assoc inner (41 ∷ []) rest));
    }

-- a front is the whole text where nothing follows
front_is_whole : (front rest text : List ℕ) → text ≡ front ++ rest → bytes_eq front text ≡ (length rest == 0)
front_is_whole front [] text e = same_bytes front text (sym (e ∙ append-nil front))
front_is_whole front (b ∷ bs) text e =
    never (bytes_eq front text) (λ same. let long : length front ≡ length front + length (b ∷ bs) = ap length (same_text front text same) ∙ (ap length e ∙ length-append front (b ∷ bs)) in absurd (omega arith))
    ∙ sym (ne_eqb (length (b ∷ bs)) 0 (λ none. omega arith))

found_test : (is_first : Bool) (after inner rest : List ℕ) → IsFound after inner rest
    → stands_first is_first (36 ∷ after) ≡ (is_reference (reference_of inner) && (not (ends_with_star (reference_of inner).parts) || (is_first && (length rest == 0))))
found_test is_first after inner rest found =
    let text : List ℕ = 36 ∷ after in
    let test : Reference → Bool = λ r. (starts_with nat_eq text r.spelling && is_reference r) && (not (ends_with_star r.parts) || (is_first && bytes_eq r.spelling text)) in
    let r : Reference = reference_of inner in
    let there : starts_with nat_eq text r.spelling ≡ true = ap (λ t. starts_with nat_eq t r.spelling) found.whole ∙ starts_with-append r.spelling rest in
    ap test found.found
    ∙ (ap (λ t. (t && is_reference r) && (not (ends_with_star r.parts) || (is_first && bytes_eq r.spelling text))) there
    ∙ ap (λ t. is_reference r && (not (ends_with_star r.parts) || (is_first && t))) (front_is_whole r.spelling rest text found.whole))

pub first_reference : (is_first : Bool) (after front inner rest : List ℕ) (reference : Reference) → after ≡ front ++ 41 ∷ rest → list_all in_reference front ≡ true → front ≡ 40 ∷ inner
    → is_reference (reference_of inner) ≡ true → reference ≡ reference_of inner → (not (ends_with_star reference.parts) || (is_first && (length rest == 0))) ≡ true
    → IsFirstReference is_first (36 ∷ after) reference rest
first_reference is_first after front inner rest reference after_is inside front_is ok reference_is may =
    let found : IsFound after inner rest = found_reference after front inner rest after_is inside front_is in
    let may_it : (not (ends_with_star (reference_of inner).parts) || (is_first && (length rest == 0))) ≡ true = ap (λ (r : Reference). not (ends_with_star r.parts) || (is_first && (length rest == 0))) (sym reference_is) ∙ may in
    record {
      stands = found_test is_first after inner rest found ∙ and_both (is_reference (reference_of inner)) (not (ends_with_star (reference_of inner).parts) || (is_first && (length rest == 0))) ok may_it;
      first_is = reference_is ∙ sym found.found;
      text_is = found.whole ∙ ap (λ (r : Reference). r.spelling ++ rest) (sym reference_is);
    }

pub no_reference : (is_first : Bool) (after front inner rest : List ℕ) → after ≡ front ++ 41 ∷ rest → list_all in_reference front ≡ true → front ≡ 40 ∷ inner
    → is_reference (reference_of inner) ≡ false → stands_first is_first (36 ∷ after) ≡ false
no_reference is_first after front inner rest after_is inside front_is bad =
    found_test is_first after inner rest (found_reference after front inner rest after_is inside front_is)
    ∙ ap (λ t. t && (not (ends_with_star (reference_of inner).parts) || (is_first && (length rest == 0)))) bad

pub no_place : (is_first : Bool) (after front inner rest : List ℕ) (reference : Reference) → after ≡ front ++ 41 ∷ rest → list_all in_reference front ≡ true → front ≡ 40 ∷ inner
    → reference ≡ reference_of inner → (not (ends_with_star reference.parts) || (is_first && (length rest == 0))) ≡ false → stands_first is_first (36 ∷ after) ≡ false
no_place is_first after front inner rest reference after_is inside front_is reference_is bad =
    found_test is_first after inner rest (found_reference after front inner rest after_is inside front_is)
    ∙ (ap (λ (r : Reference). is_reference (reference_of inner) && (not (ends_with_star r.parts) || (is_first && (length rest == 0)))) (sym reference_is)
    ∙ (ap (λ t. is_reference (reference_of inner) && t) bad ∙ and_false (is_reference (reference_of inner))))

-- where no `)` stands, or no `(` behind the `$`, no reference does

refused_first : (is_first : Bool) (text : List ℕ) → (starts_with nat_eq text (reference_at text).spelling ≡ true → ⊥) → stands_first is_first text ≡ false
refused_first is_first text bad =
    ap (λ t. (t && is_reference (reference_at text)) && (not (ends_with_star (reference_at text).parts) || (is_first && bytes_eq (reference_at text).spelling text)))
    (never (starts_with nat_eq text (reference_at text).spelling) bad)

no_end_in : (xs rest : List ℕ) → list_all in_reference (xs ++ 41 ∷ rest) ≡ true → ⊥
no_end_in [] rest e = no_true e
no_end_in (x ∷ xs) rest e = no_end_in xs rest (and_second (in_reference x) (list_all in_reference (xs ++ 41 ∷ rest)) e)

pub no_end : (is_first : Bool) (after : List ℕ) → list_all in_reference after ≡ true → stands_first is_first (36 ∷ after) ≡ false
no_end is_first after inside = refused_first is_first (36 ∷ after) bad
  where
    inner : List ℕ
    inner = take_while in_reference (drop 1 after)

    bad : starts_with nat_eq (36 ∷ after) (36 ∷ 40 ∷ inner ++ 41 ∷ []) ≡ true → ⊥
    bad e =
        let rest : List ℕ = drop (length (36 ∷ 40 ∷ inner ++ 41 ∷ [])) (36 ∷ after) in
        let text : 36 ∷ after ≡ 36 ∷ ((40 ∷ inner ++ 41 ∷ []) ++ rest) = prefix_and_rest (36 ∷ 40 ∷ inner ++ 41 ∷ []) (36 ∷ after) e in
        let behind : after ≡ (40 ∷ inner ++ 41 ∷ []) ++ rest = ap (drop 1) text in
        let same : (40 ∷ inner ++ 41 ∷ []) ++ rest ≡ (40 ∷ inner) ++ 41 ∷ rest = append_assoc (40 ∷ inner) (41 ∷ []) rest in
        no_end_in (40 ∷ inner) rest (subst (λ t. list_all in_reference t ≡ true) (behind ∙ same) inside)

pub no_beginning : (is_first : Bool) (after front rest : List ℕ) → after ≡ front ++ 41 ∷ rest → begins_with 40 front ≡ false → stands_first is_first (36 ∷ after) ≡ false
no_beginning is_first after front rest after_is other = refused_first is_first (36 ∷ after) (λ e. bad front other (subst (λ t. starts_with nat_eq (36 ∷ t) (36 ∷ 40 ∷ inner ++ 41 ∷ []) ≡ true) after_is e))
  where
    inner : List ℕ
    inner = take_while in_reference (drop 1 after)

    bad : (f : List ℕ) → begins_with 40 f ≡ false → starts_with nat_eq (36 ∷ f ++ 41 ∷ rest) (36 ∷ 40 ∷ inner ++ 41 ∷ []) ≡ true → ⊥
    bad [] none e = no_true e
    bad (b ∷ bs) none e =
        let first : 40 ≡ b = eqb-true 40 b (and_first (nat_eq 40 b) (starts_with nat_eq (bs ++ 41 ∷ rest) (inner ++ 41 ∷ [])) e) in
        no_true (sym none ∙ eq-eqb b 40 (sym first))

-- what `split_once` says

abbrev pub Parted : ℕ → List ℕ → Option (Bor (List ℕ) × Bor (List ℕ)) → Type 0
Parted byte text r = MatchOption r ((i : ℕ) → i < length text → get_or text i 0 ≢ byte) (λ x. (text ≡ x.0.now ++ (byte ∷ x.1.now)) × ((i : ℕ) → i < length x.0.now → get_or x.0.now i 0 ≢ byte))

pub split_found : (byte : ℕ) (text : List ℕ) (r : Option (Bor (List ℕ) × Bor (List ℕ))) → Parted byte text r → IfSome r (λ s. IsSplitAt byte text s.0.now s.1.now)
split_found byte text None parted = tt
split_found byte text (Some s) parted = record { text_is = parted.0; other = none_is byte s.0.now parted.1 }

pub split_none : (byte : ℕ) (text : List ℕ) (r : Option (Bor (List ℕ) × Bor (List ℕ))) → Parted byte text r → IfNone r (list_all (λ b. not (b == byte)) text ≡ true)
split_none byte text None parted = none_is byte text parted
split_none byte text (Some s) parted = tt

pub strip_found : (text : List ℕ) (r : Option (Bor (List ℕ))) → MatchOption r ((rest : List ℕ) → text ≢ 40 ∷ rest) (λ x. text ≡ 40 ∷ x.now) → MatchOption r (begins_with 40 text ≡ false) (λ x. text ≡ 40 ∷ x.now)
strip_found text None other = another text other
  where
    another : (t : List ℕ) → ((rest : List ℕ) → t ≢ 40 ∷ rest) → begins_with 40 t ≡ false
    another [] h = refl
    another (b ∷ bs) h = ne_eqb b 40 (λ e. h bs (ap (λ c. c ∷ bs) e))
strip_found text (Some x) found = found

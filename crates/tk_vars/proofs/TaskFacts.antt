-- A text in which no reference to a task begins has none.
use Rattle.std.proofs.Common.{◌≡◌, ℕ, zero, suc, ◌-◌, List, [], ◌∷◌, ◌++◌, length, take, drop, refl, sym, ◌∙◌, ap, subst, Bool, true, false, ◌||◌, not, filter_map, append_assoc}
use Rattle.std.specs.Prelude.{◌==◌, bytes_eq, codes, nat_eq, take_while}
use Rattle.std.specs.List.{list_any, list_all, starts_with, prefix_len}
use Rattle.std.specs.Char.{is_ascii_alphabetic}
use Rattle.std.proofs.lemmas.Bool.{eqb-true, eq-eqb}
use Rattle.std.proofs.lemmas.List.{take-append-drop}
use Rattle.tk_vars.specs.declared.piece.Piece.{Piece}
use Rattle.tk_vars.specs.declared.piece.Piece.TheVariants.{Plain, Ref}
use Rattle.tk_vars.specs.Grammar.{must_stand}
use Rattle.tk_vars.specs.Reading.{reference_at, with_byte, pieces_from}
use Rattle.tk_vars.specs.Steps.{begins_with, in_reference, IsSplitAt}
use Rattle.tk_vars.specs.Target.{referenced}
use Rattle.tk_vars.specs.Task.{names_task, begins_task, begins_task_within}
use Rattle.tk_vars.proofs.BadOffset.{other_byte_first, starts_with-append}
use Rattle.tk_vars.proofs.HeadFacts.{not_due}
use Rattle.tk_vars.proofs.OneReading.{at_reference, at_plain}
use Rattle.tk_vars.proofs.TailFacts.{never}
use Rattle.tk_vars.proofs.TextFacts.{and_first, and_second, same_text}

no_true : false ≡ true → ⊥
no_true e = cc

or_first : (x y : Bool) → (x || y) ≡ false → x ≡ false
or_first true y e = e
or_first false y e = refl

or_second : (x y : Bool) → (x || y) ≡ false → y ≡ false
or_second true y e = cc
or_second false y e = e

negated : (x : Bool) → not x ≡ true → x ≡ false
negated true e = cc
negated false e = refl

-- a reference begins at a `$`

other_begins : (c : ℕ) (cs : List ℕ) → not (c == 36) ≡ true → begins_task (c ∷ cs) ≡ false
other_begins c cs other = rw (flipped (nat_eq 36 c) refl) refl
  where
    flipped : (r : Bool) → nat_eq 36 c ≡ r → r ≡ false
    flipped false e = refl
    flipped true e = absurd (no_true (sym (negated (c == 36) other) ∙ eq-eqb c 36 (sym (eqb-true 36 c e))))

no_task_before : (front rest : List ℕ) → list_all (λ b. not (b == 36)) front ≡ true → begins_task_within (front ++ rest) ≡ begins_task_within rest
no_task_before [] rest none = refl
no_task_before (c ∷ cs) rest none =
    rw (other_begins c (cs ++ rest) (and_first (not (c == 36)) (list_all (λ b. not (b == 36)) cs) none)) (no_task_before cs rest (and_second (not (c == 36)) (list_all (λ b. not (b == 36)) cs) none))

pub no_dollar_no_task : (text : List ℕ) → list_all (λ b. not (b == 36)) text ≡ true → begins_task_within text ≡ false
no_dollar_no_task [] none = refl
no_dollar_no_task (c ∷ cs) none =
    rw (other_begins c cs (and_first (not (c == 36)) (list_all (λ b. not (b == 36)) cs) none)) (no_dollar_no_task cs (and_second (not (c == 36)) (list_all (λ b. not (b == 36)) cs) none))

-- a reference with this head begins with it

abbrev inner_of : List ℕ → List ℕ
inner_of text = take_while in_reference text

headed_begins : (needle text : List ℕ) → bytes_eq (take_while is_ascii_alphabetic (inner_of text)) needle ≡ true → starts_with nat_eq (36 ∷ 40 ∷ text) (36 ∷ 40 ∷ needle) ≡ true
headed_begins needle text e =
    let inner : List ℕ = inner_of text in
    let n : ℕ = prefix_len is_ascii_alphabetic inner in
    let m : ℕ = prefix_len in_reference text in
    let head : take n inner ≡ needle = same_text (take n inner) needle e in
    let front : inner ≡ needle ++ drop n inner = sym (take-append-drop n inner) ∙ ap (λ h. h ++ drop n inner) head in
    let whole : text ≡ needle ++ (drop n inner ++ drop m text) =
    sym (take-append-drop m text) ∙ (ap (λ i. i ++ drop m text) front ∙ append_assoc needle (drop n inner) (drop m text)) in
    ap (λ t. starts_with nat_eq (36 ∷ 40 ∷ t) (36 ∷ 40 ∷ needle)) whole ∙ starts_with-append (36 ∷ 40 ∷ needle) (drop n inner ++ drop m text)

other_head : (text : List ℕ) → begins_task (36 ∷ 40 ∷ text) ≡ false → names_task (reference_at (36 ∷ 40 ∷ text)) ≡ false
other_head text none =
    let head : List ℕ = take_while is_ascii_alphabetic (inner_of text) in
    let tasks : bytes_eq head (codes "tasks") ≡ false =
    never (bytes_eq head (codes "tasks")) (λ e. no_true (sym (or_first (starts_with nat_eq (36 ∷ 40 ∷ text) (codes "$(tasks")) (starts_with nat_eq (36 ∷ 40 ∷ text) (codes "$(finally")) none) ∙ headed_begins (codes "tasks") text e)) in
    let finally : bytes_eq head (codes "finally") ≡ false =
    never (bytes_eq head (codes "finally")) (λ e. no_true (sym (or_second (starts_with nat_eq (36 ∷ 40 ∷ text) (codes "$(tasks")) (starts_with nat_eq (36 ∷ 40 ∷ text) (codes "$(finally")) none) ∙ headed_begins (codes "finally") text e)) in
    ap (λ r. r || bytes_eq head (codes "finally")) tasks ∙ finally

-- where a reference must stand, `$(` does

dollar_first : (b : ℕ) (bs : List ℕ) → must_stand (b ∷ bs) ≡ true → b ≡ 36
dollar_first b bs due = by_test (b == 36) refl
  where
    by_test : (r : Bool) → (b == 36) ≡ r → b ≡ 36
    by_test true e = eqb-true b 36 e
    by_test false e = absurd (no_true (sym (other_byte_first b bs (ap not e)) ∙ due))

parenthesis_second : (bs : List ℕ) → must_stand (36 ∷ bs) ≡ true → begins_with 40 bs ≡ true
parenthesis_second bs due = by_test (begins_with 40 bs) refl
  where
    by_test : (r : Bool) → begins_with 40 bs ≡ r → r ≡ true
    by_test true e = refl
    by_test false e = absurd (no_true (sym (not_due bs e) ∙ due))

behind_dollar : (bs : List ℕ) → begins_with 40 bs ≡ true → begins_task (36 ∷ bs) ≡ false → names_task (reference_at (36 ∷ bs)) ≡ false
behind_dollar [] opens none = absurd (no_true opens)
behind_dollar (c ∷ cs) opens none =
    let same : c ≡ 40 = eqb-true c 40 opens in
    subst (λ d. names_task (reference_at (36 ∷ d ∷ cs)) ≡ false) (sym same) (other_head cs (subst (λ d. begins_task (36 ∷ d ∷ cs) ≡ false) same none))

other_reference : (b : ℕ) (bs : List ℕ) → must_stand (b ∷ bs) ≡ true → begins_task (b ∷ bs) ≡ false → names_task (reference_at (b ∷ bs)) ≡ false
other_reference b bs due none =
    let same : b ≡ 36 = dollar_first b bs due in
    subst (λ d. names_task (reference_at (d ∷ bs)) ≡ false) (sym same)
    (behind_dollar bs (parenthesis_second bs (subst (λ d. must_stand (d ∷ bs) ≡ true) same due)) (subst (λ d. begins_task (d ∷ bs) ≡ false) same none))

-- the references of the whole text

abbrev any_task : List Piece → Bool
any_task pieces = list_any names_task (filter_map referenced pieces)

with_byte_same : (b : ℕ) (ps : List Piece) → filter_map referenced (with_byte b ps) ≡ filter_map referenced ps
with_byte_same b [] = refl
with_byte_same b (Plain word ∷ ps) = refl
with_byte_same b (Ref reference ∷ ps) = refl

pub no_task_from : (skip : ℕ) (text : List ℕ) → begins_task_within text ≡ false → any_task (pieces_from skip text) ≡ false
no_task_from zero [] none = refl
no_task_from (suc skip) [] none = refl
no_task_from (suc skip) (b ∷ bs) none = no_task_from skip bs (or_second (begins_task (b ∷ bs)) (begins_task_within bs) none)
no_task_from zero (b ∷ bs) none =
    by_test (must_stand (b ∷ bs)) refl (λ k. no_task_from k bs (or_second (begins_task (b ∷ bs)) (begins_task_within bs) none))
  where
    by_test : (due : Bool) → must_stand (b ∷ bs) ≡ due → ((k : ℕ) → any_task (pieces_from k bs) ≡ false) → any_task (pieces_from 0 (b ∷ bs)) ≡ false
    by_test true e later =
        let reference = reference_at (b ∷ bs) in
        ap any_task (at_reference b bs e)
        ∙ (ap (λ r. r || any_task (pieces_from (length reference.spelling - 1) bs)) (other_reference b bs e (or_first (begins_task (b ∷ bs)) (begins_task_within bs) none)) ∙ later (length reference.spelling - 1))
    by_test false e later = ap any_task (at_plain b bs e) ∙ (ap (list_any names_task) (with_byte_same b (pieces_from 0 bs)) ∙ later 0)

-- the places of a text are its first `$` and those behind it
pub at_dollar : (text front after : List ℕ) → IsSplitAt 36 text front after → begins_task_within text ≡ (begins_task (36 ∷ after) || begins_task_within after)
at_dollar text front after split = ap begins_task_within split.text_is ∙ no_task_before front (36 ∷ after) split.other

-- The table allows a head with what follows exactly where the whole is a reference, and then what follows is parts in a row.
use Rattle.std.proofs.Common.{◌≡◌, ℕ, List, [], ◌∷◌, ◌++◌, map, length, drop, refl, sym, ◌∙◌, ap, subst, Bool, true, false, ◌&&◌, ◌||◌}
use Rattle.std.specs.Prelude.{bytes_eq, codes, flat_map, take_while, if◌then◌else◌}
use Rattle.std.specs.Char.{is_ascii_alphabetic}
use Rattle.std.specs.List.{list_any, AllByRecursion}
use Rattle.std.proofs.Math.Seq.{drop-append_seam}
use Rattle.std.proofs.lemmas.List.{append-nil}
use Rattle.tk_vars.specs.declared.part.Part.{Part}
use Rattle.tk_vars.specs.declared.part.Part.TheVariants.{Name, Index, Star}
use Rattle.tk_vars.specs.declared.reference.Reference.{Reference}
use Rattle.tk_vars.specs.Grammar.{Slot, word, name, part, parts, selector, forms, joins, dotted, quoted, indexed, part_spellings, parts_spellings, selector_spellings, slots_spellings, is_reference}
use Rattle.tk_vars.specs.Reading.{parts_from, reference_of}
use Rattle.tk_vars.specs.Steps.{SplitsAt, is_tail, is_allowed}
use Rattle.tk_vars.proofs.TextFacts.{and_second, same_text, take_while-stops, each-joins, each-if, from_each}
use Rattle.tk_vars.proofs.TailFacts.{same_test, same_bytes, same_rest, list_any-append}
use Rattle.tk_vars.proofs.BracketFacts.{same_end, or_cases, or_second}

no_true : false ≡ true → ⊥
no_true e = cc

-- the head and what follows are one of the spellings

spelled_test : (head tail w : List ℕ) → bytes_eq (codes "$(" ++ (head ++ tail) ++ codes ")") (codes "$(" ++ head ++ w ++ codes ")") ≡ bytes_eq tail w
spelled_test head tail w =
    same_test (bytes_eq ((head ++ tail) ++ 41 ∷ []) ((head ++ w) ++ 41 ∷ [])) (bytes_eq tail w)
    (λ e. same_bytes tail w (same_rest head tail w (same_end (head ++ tail) (head ++ w) 41 (same_text ((head ++ tail) ++ 41 ∷ []) ((head ++ w) ++ 41 ∷ []) e))))
    (λ e. same_bytes ((head ++ tail) ++ 41 ∷ []) ((head ++ w) ++ 41 ∷ []) (ap (λ z. (head ++ z) ++ 41 ∷ []) (same_text tail w e)))

each_spelled : (head tail : List ℕ) (ws : List (List ℕ))
    → list_any (bytes_eq (codes "$(" ++ (head ++ tail) ++ codes ")")) (map (λ rest. codes "$(" ++ head ++ rest ++ codes ")") ws) ≡ list_any (bytes_eq tail) ws
each_spelled head tail [] = refl
each_spelled head tail (w ∷ ws) =
    ap (λ t. t || list_any (bytes_eq (codes "$(" ++ (head ++ tail) ++ codes ")")) (map (λ rest. codes "$(" ++ head ++ rest ++ codes ")") ws)) (spelled_test head tail w)
    ∙ ap (λ t. bytes_eq tail w || t) (each_spelled head tail ws)

each_form : (head tail : List ℕ) (ps : List Part) (fs : List (List ℕ × List Slot))
    → list_any (bytes_eq (codes "$(" ++ (head ++ tail) ++ codes ")"))
    (flat_map (λ (form : List ℕ × List Slot). if bytes_eq head form.0 then map (λ rest. codes "$(" ++ head ++ rest ++ codes ")") (slots_spellings form.1 ps) else []) fs)
    ≡ list_any (λ (form : List ℕ × List Slot). bytes_eq head form.0 && list_any (bytes_eq tail) (slots_spellings form.1 ps)) fs
each_form head tail ps [] = refl
each_form head tail ps (f ∷ fs) =
    list_any-append (bytes_eq (codes "$(" ++ (head ++ tail) ++ codes ")")) (if bytes_eq head f.0 then map (λ rest. codes "$(" ++ head ++ rest ++ codes ")") (slots_spellings f.1 ps) else [])
    (flat_map (λ (form : List ℕ × List Slot). if bytes_eq head form.0 then map (λ rest. codes "$(" ++ head ++ rest ++ codes ")") (slots_spellings form.1 ps) else []) fs)
    ∙ (ap (λ t. list_any (bytes_eq (codes "$(" ++ (head ++ tail) ++ codes ")")) (if bytes_eq head f.0 then map (λ rest. codes "$(" ++ head ++ rest ++ codes ")") (slots_spellings f.1 ps) else []) || t) (each_form head tail ps fs)
    ∙ ap (λ t. t || list_any (λ (form : List ℕ × List Slot). bytes_eq head form.0 && list_any (bytes_eq tail) (slots_spellings form.1 ps)) fs) (by_test (bytes_eq head f.0)))
  where
    by_test : (same : Bool) → list_any (bytes_eq (codes "$(" ++ (head ++ tail) ++ codes ")")) (if same then map (λ rest. codes "$(" ++ head ++ rest ++ codes ")") (slots_spellings f.1 ps) else [])
        ≡ (same && list_any (bytes_eq tail) (slots_spellings f.1 ps))
    by_test true = each_spelled head tail (slots_spellings f.1 ps)
    by_test false = refl

abbrev pub made_of : List ℕ → List ℕ → Reference
made_of head tail = record { spelling = codes "$(" ++ (head ++ tail) ++ codes ")"; parts = Name head ∷ parts_from 0 tail }

-- the reference that is read is made of the head and what follows
pub reference_of_split : (inner head tail : List ℕ) → SplitsAt is_ascii_alphabetic inner head tail → reference_of inner ≡ made_of head tail
reference_of_split inner head tail split =
    let first : take_while is_ascii_alphabetic (head ++ tail) ≡ head = take_while-stops is_ascii_alphabetic head tail split.within split.stops in
    let with_head : List ℕ → Reference = λ h. record { spelling = codes "$(" ++ (head ++ tail) ++ codes ")"; parts = Name h ∷ parts_from 0 (drop (length h) (head ++ tail)) } in
    let with_tail : List ℕ → Reference = λ t. record { spelling = codes "$(" ++ (head ++ tail) ++ codes ")"; parts = Name head ∷ parts_from 0 t } in
    ap reference_of split.text_is ∙ (ap with_head first ∙ ap with_tail (drop-append_seam head tail))

pub allowed_reference : (inner head tail : List ℕ) → SplitsAt is_ascii_alphabetic inner head tail → is_allowed head tail ≡ is_reference (reference_of inner)
allowed_reference inner head tail split = sym (ap is_reference (reference_of_split inner head tail split) ∙ each_form head tail (parts_from 0 tail) forms)

-- what slots allow is parts in a row

abbrev InPart : Part → List ℕ → Type 0
InPart p x = list_any (bytes_eq x) (part_spellings p) ≡ true

abbrev InParts : List Part → List ℕ → Type 0
InParts ps x = list_any (bytes_eq x) (parts_spellings ps) ≡ true

or_first : (a b : Bool) → a ≡ true → (a || b) ≡ true
or_first true b e = refl
or_first false b e = absurd (no_true e)

each_weaker : (P Q : List ℕ → Type 0) → ((x : List ℕ) → P x → Q x) → (xs : List (List ℕ)) → AllByRecursion P xs → AllByRecursion Q xs
each_weaker P Q weaker [] all = tt
each_weaker P Q weaker (x ∷ xs) all = (weaker x all.0, each_weaker P Q weaker xs all.1)

each_member : (xs : List (List ℕ)) → AllByRecursion (λ x. list_any (bytes_eq x) xs ≡ true) xs
each_member [] = tt
each_member (x ∷ xs) = (
  or_first (bytes_eq x x) (list_any (bytes_eq x) xs) (same_bytes x x refl),
  each_weaker (λ y. list_any (bytes_eq y) xs ≡ true) (λ y. (bytes_eq y x || list_any (bytes_eq y) xs) ≡ true) (λ y e. or_second (bytes_eq y x) (list_any (bytes_eq y) xs) e) xs (each_member xs),
)

in_front : (s : List ℕ) (xs ys : List (List ℕ)) → list_any (bytes_eq s) xs ≡ true → list_any (bytes_eq s) (xs ++ ys) ≡ true
in_front s xs ys e = list_any-append (bytes_eq s) xs ys ∙ or_first (list_any (bytes_eq s) xs) (list_any (bytes_eq s) ys) e

in_back : (s : List ℕ) (xs ys : List (List ℕ)) → list_any (bytes_eq s) ys ≡ true → list_any (bytes_eq s) (xs ++ ys) ≡ true
in_back s xs ys e = list_any-append (bytes_eq s) xs ys ∙ or_second (list_any (bytes_eq s) xs) (list_any (bytes_eq s) ys) e

in_map : (x y : List ℕ) (ys : List (List ℕ)) → list_any (bytes_eq y) ys ≡ true → list_any (bytes_eq (x ++ y)) (map (λ z. x ++ z) ys) ≡ true
in_map x y [] e = absurd (no_true e)
in_map x y (z ∷ zs) e =
    or_cases (bytes_eq y z) (list_any (bytes_eq y) zs) e
    (λ same. or_first (bytes_eq (x ++ y) (x ++ z)) (list_any (bytes_eq (x ++ y)) (map (λ w. x ++ w) zs)) (same_bytes (x ++ y) (x ++ z) (ap (λ w. x ++ w) (same_text y z same))))
    (λ later. or_second (bytes_eq (x ++ y) (x ++ z)) (list_any (bytes_eq (x ++ y)) (map (λ w. x ++ w) zs)) (in_map x y zs later))

in_joins : (x y : List ℕ) (xs ys : List (List ℕ)) → list_any (bytes_eq x) xs ≡ true → list_any (bytes_eq y) ys ≡ true → list_any (bytes_eq (x ++ y)) (joins xs ys) ≡ true
in_joins x y [] ys e f = absurd (no_true e)
in_joins x y (v ∷ vs) ys e f =
    or_cases (bytes_eq x v) (list_any (bytes_eq x) vs) e
    (λ same. in_front (x ++ y) (map (λ w. v ++ w) ys) (joins vs ys) (subst (λ z. list_any (bytes_eq (x ++ y)) (map (λ w. z ++ w) ys) ≡ true) (same_text x v same) (in_map x y ys f)))
    (λ later. in_back (x ++ y) (map (λ w. v ++ w) ys) (joins vs ys) (in_joins x y vs ys later f))

dotted_in : (n : List ℕ) → AllByRecursion (InPart (Name n)) (dotted n)
dotted_in n = each_weaker (λ x. list_any (bytes_eq x) (dotted n) ≡ true) (InPart (Name n)) (λ x e. in_front x (dotted n) (quoted n) e) (dotted n) (each_member (dotted n))

joined_in : (p : Part) (ps : List Part) (xs ys : List (List ℕ)) → AllByRecursion (InPart p) xs → AllByRecursion (InParts ps) ys → AllByRecursion (InParts (p ∷ ps)) (joins xs ys)
joined_in p ps xs ys = each-joins (InPart p) (InParts ps) (InParts (p ∷ ps)) xs ys (λ x y e f. in_joins x y (part_spellings p) (parts_spellings ps) e f)

alone_in : (p : Part) (xs : List (List ℕ)) → AllByRecursion (InPart p) xs → AllByRecursion (InParts (p ∷ [])) xs
alone_in p xs all =
    each_weaker (InPart p) (InParts (p ∷ [])) (λ x e. subst (λ z. list_any (bytes_eq z) (joins (part_spellings p) ([] ∷ [])) ≡ true) (append-nil x) (in_joins x [] (part_spellings p) ([] ∷ []) e refl)) xs all

selector_in : (ps : List Part) → AllByRecursion (InParts ps) (selector_spellings ps)
selector_in [] = (refl, tt)
selector_in (Name key ∷ []) = alone_in (Name key) (dotted key) (dotted_in key)
selector_in (Index i ∷ []) = alone_in (Index i) (indexed i) (each_member (indexed i))
selector_in (Star ∷ []) = (refl, tt)
selector_in _ = tt

slots_in : (slots : List Slot) (ps : List Part) → AllByRecursion (InParts ps) (slots_spellings slots ps)
slots_in [] [] = (refl, tt)
slots_in (word w ∷ slots) (Name n ∷ ps) =
    each-if (InParts (Name n ∷ ps)) (bytes_eq n w) (joins (dotted n) (slots_spellings slots ps)) (λ same. joined_in (Name n) ps (dotted n) (slots_spellings slots ps) (dotted_in n) (slots_in slots ps))
slots_in (name ∷ slots) (Name n ∷ ps) = joined_in (Name n) ps (dotted n) (slots_spellings slots ps) (dotted_in n) (slots_in slots ps)
slots_in (part ∷ slots) (p ∷ ps) = joined_in p ps (part_spellings p) (slots_spellings slots ps) (each_member (part_spellings p)) (slots_in slots ps)
slots_in (parts ∷ []) ps = each_member (parts_spellings ps)
slots_in (selector ∷ []) ps = selector_in ps
slots_in _ _ = tt

slots_are_parts : (slots : List Slot) (tail : List ℕ) → is_tail slots tail ≡ true → is_tail (parts ∷ []) tail ≡ true
slots_are_parts slots tail e = from_each (InParts (parts_from 0 tail)) tail (slots_spellings slots (parts_from 0 tail)) (slots_in slots (parts_from 0 tail)) e

some_form : (head tail : List ℕ) (fs : List (List ℕ × List Slot)) → list_any (λ (form : List ℕ × List Slot). bytes_eq head form.0 && is_tail form.1 tail) fs ≡ true → is_tail (parts ∷ []) tail ≡ true
some_form head tail [] e = absurd (no_true e)
some_form head tail (f ∷ fs) e =
    or_cases (bytes_eq head f.0 && is_tail f.1 tail) (list_any (λ (form : List ℕ × List Slot). bytes_eq head form.0 && is_tail form.1 tail) fs) e
    (λ here. slots_are_parts f.1 tail (and_second (bytes_eq head f.0) (is_tail f.1 tail) here)) (λ later. some_form head tail fs later)

-- a reference has parts in a row behind its head
pub reference_tail : (inner head tail : List ℕ) → SplitsAt is_ascii_alphabetic inner head tail → is_reference (reference_of inner) ≡ true → is_tail (parts ∷ []) tail ≡ true
reference_tail inner head tail split ok = some_form head tail forms (allowed_reference inner head tail split ∙ ok)

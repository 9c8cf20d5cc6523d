-- A reference is found where it stands, whatever follows.
use Rattle.std.proofs.Common.{◌≡◌, ℕ, List, [], ◌∷◌, ◌++◌, map, length, drop, refl, sym, ◌∙◌, ap, subst, Bool, true, false, ◌&&◌, ◌||◌, not, append_assoc}
use Rattle.std.specs.Prelude.{bytes_eq, take_while, codes, ◌==◌, nat_eq, if◌then◌else◌}
use Rattle.std.specs.Char.{is_ascii_alphabetic}
use Rattle.std.specs.List.{list_any, list_all, starts_with, AllByRecursion}
use Rattle.std.proofs.Math.Seq.{drop-append_seam}
use Rattle.std.proofs.lemmas.Bool.{eqb-true}
use Rattle.std.proofs.lemmas.List.{append-nil}
use Rattle.tk_vars.specs.declared.part.Part.{Part}
use Rattle.tk_vars.specs.declared.part.Part.TheVariants.{Name, Index, Star}
use Rattle.tk_vars.specs.declared.reference.Reference.{Reference}
use Rattle.tk_vars.specs.Grammar.{Slot, forms, heads, must_stand, is_reference, slots_spellings, reference_spellings}
use Rattle.tk_vars.specs.Reading.{parts_from, reference_of, reference_at}
use Rattle.tk_vars.proofs.TextFacts.{and_first, and_second, same_text, all_pass, other_byte, append-all, take_while-stops, each-map, each-flat_map, each-if, from_each}
use Rattle.tk_vars.specs.Steps.{in_reference, opens}
use Rattle.tk_vars.proofs.PartFacts.{is_inner, SpellsParts, slots_spell}

-- what the table's rows have in common
pub record IsForm (form : List ℕ × List Slot) : Type 0 where
  pub letters : list_all is_ascii_alphabetic form.0 ≡ true
  pub not_bare : slots_spellings form.1 [] ≡ []
  pub due_at_dot : (rest : List ℕ) → must_stand (codes "$(" ++ form.0 ++ 46 ∷ rest) ≡ true
  pub due_at_bracket : (rest : List ℕ) → must_stand (codes "$(" ++ form.0 ++ 91 ∷ rest) ≡ true

pub each_form : AllByRecursion IsForm forms
each_form = (
  record { letters = refl; not_bare = refl; due_at_dot = λ rest. refl; due_at_bracket = λ rest. refl },
  (
    record { letters = refl; not_bare = refl; due_at_dot = λ rest. refl; due_at_bracket = λ rest. refl },
    (
      record { letters = refl; not_bare = refl; due_at_dot = λ rest. refl; due_at_bracket = λ rest. refl },
      (
        record { letters = refl; not_bare = refl; due_at_dot = λ rest. refl; due_at_bracket = λ rest. refl },
        (
          record { letters = refl; not_bare = refl; due_at_dot = λ rest. refl; due_at_bracket = λ rest. refl },
          (
            record { letters = refl; not_bare = refl; due_at_dot = λ rest. refl; due_at_bracket = λ rest. refl },
            (
              record { letters = refl; not_bare = refl; due_at_dot = λ rest. refl; due_at_bracket = λ rest. refl },
              (
                record { letters = refl; not_bare = refl; due_at_dot = λ rest. refl; due_at_bracket = λ rest. refl },
                (
                  record { letters = refl; not_bare = refl; due_at_dot = λ rest. refl; due_at_bracket = λ rest. refl },
                  (
                    record { letters = refl; not_bare = refl; due_at_dot = λ rest. refl; due_at_bracket = λ rest. refl },
                    (
                      record { letters = refl; not_bare = refl; due_at_dot = λ rest. refl; due_at_bracket = λ rest. refl },
                      (
                        record { letters = refl; not_bare = refl; due_at_dot = λ rest. refl; due_at_bracket = λ rest. refl },
                        (
                          record { letters = refl; not_bare = refl; due_at_dot = λ rest. refl; due_at_bracket = λ rest. refl },
                          (record { letters = refl; not_bare = refl; due_at_dot = λ rest. refl; due_at_bracket = λ rest. refl }, tt),
                        ),
                      ),
                    ),
                  ),
                ),
              ),
            ),
          ),
        ),
      ),
    ),
  ),
)

-- the text is the spelling of a reference with these parts, and is read as such whatever follows
pub record SpellsReference (parts : List Part) (s : List ℕ) : Type 0 where
  pub due : (rest : List ℕ) → must_stand (s ++ rest) ≡ true
  pub found : (rest : List ℕ) → reference_at (s ++ rest) ≡ record { spelling = s; parts = parts }
  pub begins : (bs : List ℕ) × (s ≡ 36 ∷ bs) × (list_all (λ c. not (c == 36)) bs ≡ true)

-- parts that are there are spelled by a text that opens
opened : (p : Part) (ps : List Part) (w : List ℕ) → SpellsParts (p ∷ ps) w → opens w ≡ true
opened p ps [] spells = let e : [] ≡ p ∷ ps = spells.parsed in cc
opened p ps (b ∷ bs) spells = flip (b == 46 || b == 91) spells.follows
  where
    flip : (r : Bool) → not r ≡ false → r ≡ true
    flip true e = refl
    flip false e = cc

-- a reference must stand at its own text
due_with : (form : List ℕ × List Slot) (b : ℕ) (rest : List ℕ) → IsForm form → (b == 46 || b == 91) ≡ true → must_stand (codes "$(" ++ form.0 ++ b ∷ rest) ≡ true
due_with form b rest ok e = go (b == 46) refl e
  where
    go : (r : Bool) → (b == 46) ≡ r → (r || b == 91) ≡ true → must_stand (codes "$(" ++ form.0 ++ b ∷ rest) ≡ true
    go true dot e = subst (λ c. must_stand (codes "$(" ++ form.0 ++ c ∷ rest) ≡ true) (sym (eqb-true b 46 dot)) (ok.due_at_dot rest)
    go false other e = subst (λ c. must_stand (codes "$(" ++ form.0 ++ c ∷ rest) ≡ true) (sym (eqb-true b 91 e)) (ok.due_at_bracket rest)

not_letter : (b : ℕ) → (b == 46 || b == 91) ≡ true → is_ascii_alphabetic b ≡ false
not_letter b e = go (b == 46) refl e
  where
    go : (r : Bool) → (b == 46) ≡ r → (r || b == 91) ≡ true → is_ascii_alphabetic b ≡ false
    go true dot e = rw (eqb-true b 46 dot) refl
    go false other e = rw (eqb-true b 91 e) refl

spelled : (form : List ℕ × List Slot) (p : Part) (ps : List Part) (w : List ℕ) → IsForm form → SpellsParts (p ∷ ps) w
    → SpellsReference (Name form.0 ∷ p ∷ ps) (codes "$(" ++ form.0 ++ w ++ codes ")")
spelled form p ps [] ok spells = let e : [] ≡ p ∷ ps = spells.parsed in cc
spelled form p ps (b ∷ bs) ok spells =
    let head : List ℕ = form.0 in
    let w : List ℕ = b ∷ bs in
    let opening : (b == 46 || b == 91) ≡ true = opened p ps w spells in
    let letters_inside : list_all in_reference head ≡ true = all_pass is_ascii_alphabetic in_reference (λ c e. rw (other_byte is_ascii_alphabetic 41 refl c e) refl) head ok.letters in
    let other : ℕ → Bool = λ c. not (c == 36) in
    let letters_other : list_all other head ≡ true = all_pass is_ascii_alphabetic other (λ c e. rw (other_byte is_ascii_alphabetic 36 refl c e) refl) head ok.letters in
    let no_dollar : list_all other ((40 ∷ head) ++ w ++ codes ")") ≡ true =
    append-all other ((40 ∷ head) ++ w) (codes ")") (append-all other (40 ∷ head) w letters_other (all_pass is_inner other (λ c e. and_second (in_reference c) (not (c == 36)) e) w spells.inside)) refl in
    record {
      due = λ rest.
          let text : (codes "$(" ++ head ++ w ++ codes ")") ++ rest ≡ codes "$(" ++ head ++ b ∷ (bs ++ codes ")" ++ rest) = simp append_assoc in
          subst (λ t. must_stand t ≡ true) (sym text) (due_with form b (bs ++ codes ")" ++ rest) ok opening);
      found = λ rest.
          let body : ((head ++ w) ++ codes ")") ++ rest ≡ (head ++ w) ++ 41 ∷ rest = append_assoc (head ++ w) (codes ")") rest in
          let inner : take_while in_reference (((head ++ w) ++ codes ")") ++ rest) ≡ head ++ w =
          ap (take_while in_reference) body ∙ take_while-stops in_reference (head ++ w) (41 ∷ rest) (append-all in_reference head w letters_inside (all_pass is_inner in_reference (λ c e. and_first (in_reference c) (not (c == 36)) e) w spells.inside)) refl in
          let first : take_while is_ascii_alphabetic (head ++ w) ≡ head = take_while-stops is_ascii_alphabetic head w ok.letters (not_letter b opening) in
          let others : parts_from 0 (drop (length head) (head ++ w)) ≡ p ∷ ps = ap (parts_from 0) (drop-append_seam head w) ∙ spells.parsed in
          let with_head : List ℕ → Reference = λ h. record { spelling = codes "$(" ++ (head ++ w) ++ codes ")"; parts = Name h ∷ parts_from 0 (drop (length h) (head ++ w)) } in
          let with_parts : List Part → Reference = λ qs. record { spelling = codes "$(" ++ (head ++ w) ++ codes ")"; parts = Name head ∷ qs } in
          ap reference_of inner ∙ (ap with_head first ∙ ap with_parts others);
      begins = ((40 ∷ head) ++ w ++ codes ")", refl, no_dollar);
    }

-- each spelling of a reference spells it
row_spells : (form : List ℕ × List Slot) (head : List ℕ) (ps : List Part) → IsForm form → head ≡ form.0
    → AllByRecursion (SpellsReference (Name head ∷ ps)) (map (λ w. codes "$(" ++ head ++ w ++ codes ")") (slots_spellings form.1 ps))
row_spells form head [] ok same = rw ok.not_bare tt
row_spells form head (p ∷ ps) ok same =
    subst (λ h. AllByRecursion (SpellsReference (Name h ∷ p ∷ ps)) (map (λ w. codes "$(" ++ h ++ w ++ codes ")") (slots_spellings form.1 (p ∷ ps)))) (sym same)
    (each-map (SpellsParts (p ∷ ps)) (SpellsReference (Name form.0 ∷ p ∷ ps)) (λ w. codes "$(" ++ form.0 ++ w ++ codes ")") (slots_spellings form.1 (p ∷ ps)) (λ w spells. spelled form p ps w ok spells)
    (slots_spell form.1 (p ∷ ps)))

each_spells : (parts : List Part) → AllByRecursion (SpellsReference parts) (reference_spellings parts)
each_spells [] = tt
each_spells (Name head ∷ ps) =
    each-flat_map IsForm (SpellsReference (Name head ∷ ps)) (λ (form : List ℕ × List Slot). if bytes_eq head form.0 then map (λ w. codes "$(" ++ head ++ w ++ codes ")") (slots_spellings form.1 ps) else []) forms
    (λ form ok. each-if (SpellsReference (Name head ∷ ps)) (bytes_eq head form.0) (map (λ w. codes "$(" ++ head ++ w ++ codes ")") (slots_spellings form.1 ps)) (λ same. row_spells form head ps ok (same_text head form.0 same)))
    each_form
each_spells (Index i ∷ ps) = tt
each_spells (Star ∷ ps) = tt

-- a reference of the table is found where it stands
pub reference_spells : (reference : Reference) → is_reference reference ≡ true → SpellsReference reference.parts reference.spelling
reference_spells reference ok = from_each (SpellsReference reference.parts) reference.spelling (reference_spellings reference.parts) (each_spells reference.parts) ok

-- what follows a text changes nothing of whether a reference must stand at its head, where it is empty or begins with `$`

refused : (r : Bool) → not r ≡ true → r ≡ false
refused true e = sym e
refused false e = refl

dollarless_prefix : (needle xs rest : List ℕ) → list_all (λ c. not (c == 36)) needle ≡ true → starts_with nat_eq (xs ++ 36 ∷ rest) needle ≡ starts_with nat_eq xs needle
dollarless_prefix [] xs rest all = refl
dollarless_prefix (n ∷ ns) [] rest all = rw (refused (n == 36) (and_first (not (n == 36)) (list_all (λ c. not (c == 36)) ns) all)) refl
dollarless_prefix (n ∷ ns) (x ∷ xs) rest all = ap (λ r. nat_eq n x && r) (dollarless_prefix ns xs rest (and_second (not (n == 36)) (list_all (λ c. not (c == 36)) ns) all))

-- a text that is empty or begins with `$`
abbrev pub is_front : List ℕ → Bool
is_front [] = true
is_front (b ∷ bs) = b == 36

same_prefix : (needle xs rest : List ℕ) → is_front rest ≡ true → list_all (λ c. not (c == 36)) needle ≡ true → starts_with nat_eq (xs ++ rest) needle ≡ starts_with nat_eq xs needle
same_prefix needle xs [] front all = ap (λ t. starts_with nat_eq t needle) (append-nil xs)
same_prefix needle xs (r ∷ rest) front all =
    subst (λ c. starts_with nat_eq (xs ++ c ∷ rest) needle ≡ starts_with nat_eq xs needle) (sym (eqb-true r 36 front)) (dollarless_prefix needle xs rest all)

any_agrees : {X : Type 0} (P : X → Type 0) (f g : X → Bool) (xs : List X) → ((x : X) → P x → f x ≡ g x) → AllByRecursion P xs → list_any f xs ≡ list_any g xs
any_agrees P f g [] same all = refl
any_agrees P f g (x ∷ xs) same all = rw (same x all.0, any_agrees P f g xs same all.1) refl

abbrev letters_only : List ℕ → Type 0
letters_only head = list_all is_ascii_alphabetic head ≡ true

each_head : AllByRecursion letters_only heads
each_head = (refl, (refl, (refl, (refl, (refl, (refl, (refl, tt)))))))

-- the byte behind the head isn't `$` either
dollarless : (head : List ℕ) (end : ℕ) → letters_only head → not (end == 36) ≡ true → list_all (λ c. not (c == 36)) (40 ∷ head ++ end ∷ []) ≡ true
dollarless head end letters other =
    append-all (λ c. not (c == 36)) head (end ∷ []) (all_pass is_ascii_alphabetic (λ c. not (c == 36)) (λ c e. rw (other_byte is_ascii_alphabetic 36 refl c e) refl) head letters) (rw other refl)

head-append : (b : ℕ) (bs rest : List ℕ) → is_front rest ≡ true → (head : List ℕ) (end : ℕ) → letters_only head → not (end == 36) ≡ true
    → starts_with nat_eq (b ∷ bs ++ rest) (36 ∷ 40 ∷ head ++ end ∷ []) ≡ starts_with nat_eq (b ∷ bs) (36 ∷ 40 ∷ head ++ end ∷ [])
head-append b bs rest front head end letters other = ap (λ r. nat_eq 36 b && r) (same_prefix (40 ∷ head ++ end ∷ []) bs rest front (dollarless head end letters other))

abbrev due_at : List ℕ → List ℕ → Bool
due_at text head = starts_with nat_eq text (codes "$(" ++ head ++ codes ".") || starts_with nat_eq text (codes "$(" ++ head ++ codes "[")

pub must_stand-append : (b : ℕ) (bs rest : List ℕ) → is_front rest ≡ true → must_stand (b ∷ bs ++ rest) ≡ must_stand (b ∷ bs)
must_stand-append b bs rest front =
    any_agrees letters_only (due_at (b ∷ bs ++ rest)) (due_at (b ∷ bs)) heads
    (λ head letters. rw (head-append b bs rest front head 46 letters refl, head-append b bs rest front head 91 letters refl) refl)
    each_head

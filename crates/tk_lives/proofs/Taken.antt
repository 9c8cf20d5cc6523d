-- How entries of a file and of an input fit together.
use Rattle.std.proofs.Common.{◌≡◌, ◌++◌, ℕ, suc, List, [], ◌∷◌, drop, Option, Some, None, true, false, refl, sym, ◌∙◌, ap, inl, inr, subst}
use Rattle.std.specs.Prelude.{All, Bool, bytes_eq, not, option_map, if◌then◌else◌}
use Rattle.std.specs.Cmp.Lexicographic.{bytes_decides}
use Rattle.std.proofs.lemmas.List.{append-nil}
use Rattle.std.proofs.lemmas.List.Elements.{All-nil, All-cons, All-head, All-tail}
use Rattle.tk_journal.specs.declared.entry.Entry.{Entry}
use Rattle.tk_journal.specs.Legal.{is_admit}
use Rattle.tk_payload.specs.Fits.{IsEntry}
use Rattle.tk_payload.specs.Forms.{entry_text}
use Rattle.tk_payload.proofs.EntryText.{one_entry}
use Rattle.tk_lives.specs.Laws.{TakesOver}
use Rattle.tk_lives.specs.Taking.{GoesOnFrom, HasAll, IsFirst, first_difference, fits_first, same_entry}

abbrev AdmitsNot : Entry → Type 0
AdmitsNot e = is_admit e.act ≡ false

-- a place that is found isn't none
none_map : (o : Option ℕ) → option_map suc o ≡ None → o ≡ None
none_map None is = refl
none_map (Some n) is = cc

if_none : (b : Bool) (other : Option ℕ) → (if b then option_map suc other else Some 0) ≡ None → (b ≡ true) × (other ≡ None)
if_none true other is = (refl, none_map other is)
if_none false other is = cc

none_if : (b : Bool) (other : Option ℕ) → b ≡ true → other ≡ None → (if b then option_map suc other else Some 0) ≡ None
none_if true other is none = ap (option_map suc) none
none_if false other is none = cc

not_true : (b : Bool) → not b ≡ true → b ≡ false
not_true true is = cc
not_true false is = refl

true_not : (b : Bool) → b ≡ false → not b ≡ true
true_not true is = cc
true_not false is = refl

-- one text, one entry
pub same_is : (a b : Entry) → IsEntry a → IsEntry b → same_entry a b ≡ true → a ≡ b
same_is a b one other is = one_entry a b one other ((bytes_decides (entry_text a) (entry_text b)).0 is)

-- the same of texts that were written
pub same_by : (a b : Entry) (x y : List ℕ) → x ≡ entry_text a → y ≡ entry_text b → IsEntry a → IsEntry b → bytes_eq x y ≡ true → a ≡ b
same_by a b x y first second one other is = one_entry a b one other (sym first ∙ (bytes_decides x y).0 is ∙ second)

same_self : (a b : Entry) → a ≡ b → same_entry a b ≡ true
same_self a b is = (bytes_decides (entry_text a) (entry_text b)).1 (ap entry_text is)

-- nothing is left of a file
pub whole : (given : List Entry) → GoesOnFrom [] given
whole given = inl (record { rest = given; split = refl; all = refl })

-- behind all that was admitted stands one entry more that admits nothing
alone : (e : Entry) (file : List Entry) → is_admit e.act ≡ false → GoesOnFrom file [] → HasAll (e ∷ file) []
alone e file none (inl part) =
    let empty : file ≡ [] = emptied file part.rest part.split in
    record {
      rest = e ∷ file;
      split = refl;
      none = All-cons AdmitsNot e file none (subst (All AdmitsNot) (sym empty) (All-nil AdmitsNot));
      all = append-nil (e ∷ file);
    }
  where
    emptied : (front rest : List Entry) → [] ≡ front ++ rest → front ≡ []
    emptied [] rest is = refl
    emptied (x ∷ front) rest is = cc
alone e file none (inr all) = record {
  rest = e ∷ file;
  split = refl;
  none = All-cons AdmitsNot e file none (subst (All AdmitsNot) (sym all.split) all.none);
  all = append-nil (e ∷ file);
}

-- one entry more that is the first of these
more : (e g : Entry) (file given : List Entry) → e ≡ g → GoesOnFrom file given → GoesOnFrom (e ∷ file) (g ∷ given)
more e g file given same (inl part) = inl (record {
  rest = part.rest;
  split = ap (λ (l : List Entry). g ∷ l) part.split ∙ ap (λ (x : Entry). x ∷ (file ++ part.rest)) (sym same);
  all = ap (λ (l : List Entry). e ∷ l) part.all ∙ ap (λ (x : Entry). x ∷ given) same;
})
more e g file given same (inr all) = inr (record {
  rest = all.rest;
  split = ap (λ (l : List Entry). e ∷ l) all.split ∙ ap (λ (x : Entry). x ∷ (given ++ all.rest)) same;
  none = all.none;
  all = ap (λ (l : List Entry). e ∷ l) all.all;
})

pub goes_on : (e : Entry) (file given : List Entry) → IsFirst e given → GoesOnFrom file (drop 1 given) → GoesOnFrom (e ∷ file) given
goes_on e file [] first rest = inr (alone e file first rest)
goes_on e file (g ∷ given) first rest = more e g file given first rest

pub first_is : (e : Entry) (given : List Entry) → IsEntry e → All IsEntry given → fits_first e given ≡ true → IsFirst e given
first_is e [] entry each is = not_true (is_admit e.act) is
first_is e (g ∷ given) entry each is = same_is e g entry (All-head IsEntry g given each) is

tail_of : (given : List Entry) → All IsEntry given → All IsEntry (drop 1 given)
tail_of [] each = each
tail_of (g ∷ given) each = All-tail IsEntry g given each

fits : (file given : List Entry) → All IsEntry file → All IsEntry given → first_difference file given ≡ None → GoesOnFrom file given
fits [] given entries each none = whole given
fits (e ∷ file) given entries each none =
    let is = if_none (fits_first e given) (first_difference file (drop 1 given)) none in
    goes_on e file given (first_is e given (All-head IsEntry e file entries) each is.0)
    (fits file (drop 1 given) (All-tail IsEntry e file entries) (tail_of given each) is.1)

-- and the other way round

part_none : (file given rest : List Entry) → given ≡ file ++ rest → first_difference file given ≡ None
part_none [] given rest split = refl
part_none (e ∷ file) [] rest split = cc
part_none (e ∷ file) (g ∷ given) rest split =
    none_if (same_entry e g) (first_difference file given) (same_self e g (cc (split))) (part_none file given rest (cc (split)))

rest_none : (rest : List Entry) → All AdmitsNot rest → first_difference rest [] ≡ None
rest_none [] none = refl
rest_none (e ∷ rest) none =
    none_if (not (is_admit e.act)) (first_difference rest []) (true_not (is_admit e.act) (All-head AdmitsNot e rest none)) (rest_none rest (All-tail AdmitsNot e rest none))

all_none : (given file rest : List Entry) → file ≡ given ++ rest → All AdmitsNot rest → first_difference file given ≡ None
all_none [] file rest split none = subst (λ (l : List Entry). first_difference l [] ≡ None) (sym split) (rest_none rest none)
all_none (g ∷ given) [] rest split none = cc
all_none (g ∷ given) (e ∷ file) rest split none =
    none_if (same_entry e g) (first_difference file given) (same_self e g (cc (split))) (all_none given file rest (cc (split)) none)

fitting : (file given : List Entry) → GoesOnFrom file given → first_difference file given ≡ None
fitting file given (inl part) = part_none file given part.rest part.split
fitting file given (inr all) = all_none given file all.rest all.split all.none

pub takes_over : TakesOver
takes_over file given entries each = ((λ none. fits file given entries each none), (λ on. fitting file given on))

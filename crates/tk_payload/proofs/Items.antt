-- Elements that are written and read one after another.
use Rattle.std.proofs.Common.{◌≡◌, ℕ, zero, suc, ◌+◌, ◌-◌, ◌<◌, ◌≤◌, List, [], ◌∷◌, ◌++◌, length, drop, Option, Some, None, Err, refl, sym, ap, ◌∙◌, arith, append_assoc, append-nil, get_or, add-one, drop-cons, subst, length-append}
use Rattle.json.specs.Token.{Token}
use Rattle.std.specs.List.{AllByRecursion}
use Rattle.json.specs.Json.{Json, Parse, after_end_array}
use Rattle.json.proofs.Grammar.{after_end_array-shorter}
use Rattle.tk_payload.specs.declared.refusal.Refusal.{Refusal}
use Rattle.tk_payload.specs.declared.refusal.Refusal.TheVariants.{Memory, Unlike}
use Rattle.tk_payload.specs.Forms.{listed_items}
use Rattle.tk_payload.specs.Sound.{IsSound, AreSound}
use Rattle.tk_payload.specs.Writing.{appended, items_appended}
use Rattle.tk_payload.specs.Steps.{◌>>=◌, Gives, GivesItems, value_here, items_at}

-- what was read before, and then what is read
abbrev pub with_front : {X : Type 0} → List X → Option (List X × List Token) → Option (List X × List Token)
with_front front read = read >>= λ x. Some (front ++ x.0, x.1)

regroup : {X : Type 0} (front : List X) (x : X) (read : Option (List X × List Token)) → with_front front (read >>= λ xs. Some (x ∷ xs.0, xs.1)) ≡ with_front (front ++ x ∷ []) read
regroup front x None = refl
regroup {X} front x (Some xs) = ap (λ (l : List X). Some (l, xs.1)) (sym (append_assoc front (x ∷ []) xs.0))

module _ {X : Type 0} (at : Parse X) (front : List X) (ts : List Token) where
  never : (k : ℕ) → after_end_array ts ≡ None → value_here at ts ≡ None → with_front front (items_at at k ts) ≡ None
  unfolding items_at
  never zero h read = refl
  never (suc k) h read = rw (h, read, items_at) refl

module _ {X : Type 0} (at : Parse X) (front : List X) (n : ℕ) (ts : List Token) (total : Option (List X × List Token)) (so_far : with_front front (items_at at (n - length front) ts) ≡ total) where
  -- the bracket that closes the array comes
  pub is_done : (rest : List Token) → length ts + length front ≤ n → after_end_array ts ≡ Some rest → total ≡ Some (front, rest)
  unfolding items_at
  is_done rest enough h =
      let shorter : length rest < length ts = after_end_array-shorter ts rest h in
      let k : n - length front ≡ suc (n - length front - 1) = omega arith in
      sym so_far ∙ rw (k, h, items_at) (ap (λ (l : List X). Some (l, rest)) (append-nil front))

  -- one more is read
  pub goes_on : (x : X) (rest : List Token) → length rest < length ts → length ts + length front ≤ n → after_end_array ts ≡ None → value_here at ts ≡ Some (x, rest)
      → with_front (front ++ x ∷ []) (items_at at (n - (length front + 1)) rest) ≡ total
  unfolding items_at
  goes_on x rest shorter enough h read =
      let k : n - length front ≡ suc (n - (length front + 1)) = omega arith in
      sym (sym so_far ∙ rw (k, h, read, items_at) (regroup front x (items_at at (n - (length front + 1)) rest)))

  -- no value stands there
  pub stops : after_end_array ts ≡ None → value_here at ts ≡ None → total ≡ None
  stops h read = sym so_far ∙ never at front ts (n - length front) h read

-- the element at a place, and those behind it
pub next_of : {X : Type 0} (xs : List X) (i : ℕ) (x : X) → i < length xs → x ≡ get_or xs i x → drop i xs ≡ x ∷ drop (i + 1) xs
next_of {X} xs i x h e = rw (add-one, drop-cons xs i x) (ap (λ (y : X). y ∷ drop (suc i) xs) (sym e))

module _ {X : Type 0} (json : X → Json) (xs : List X) (i : ℕ) (x : X) (next : drop i xs ≡ x ∷ drop (i + 1) xs) where
  pub fits_next : (P : X → Type 0) → P x → (AllByRecursion P (drop i xs) → AllByRecursion P xs) → AllByRecursion P (drop (i + 1) xs) → AllByRecursion P xs
  fits_next P p so_far rest = so_far (subst (AllByRecursion P) (sym next) (p, rest))

  pub sound_next : IsSound (json x) → (AreSound (listed_items json (drop i xs)) → AreSound (listed_items json xs)) → AreSound (listed_items json (drop (i + 1) xs)) → AreSound (listed_items json xs)
  sound_next p so_far rest = so_far (subst (λ (ys : List X). AreSound (listed_items json ys)) (sym next) (p, rest))

  pub written_next : (old new total : List Token) → new ≡ appended old (json x) → items_appended old (listed_items json (drop i xs)) ≡ total → items_appended new (listed_items json (drop (i + 1) xs)) ≡ total
  written_next old new total w so_far =
      ap (λ (ts : List Token). items_appended ts (listed_items json (drop (i + 1) xs))) w
      ∙ subst (λ (ys : List X). items_appended old (listed_items json ys) ≡ total) next so_far

module _ {X : Type 0} (at : Parse X) (front more : List X) (n : ℕ) (ts rest : List Token) (x : X) (pushed : more ≡ front ++ x ∷ []) where
  longer : length more ≡ length front + 1
  longer = ap length pushed ∙ length-append front (x ∷ [])

  pub read_next : (total : Option (List X × List Token)) → with_front front (items_at at (n - length front) ts) ≡ total → length rest < length ts → length ts + length front ≤ n
      → after_end_array ts ≡ None → value_here at ts ≡ Some (x, rest) → with_front more (items_at at (n - length more) rest) ≡ total
  read_next total so_far shorter enough h read =
      subst (λ (k : ℕ). with_front more (items_at at (n - k) rest) ≡ total) (sym longer)
      (subst (λ (l : List X). with_front l (items_at at (n - (length front + 1)) rest) ≡ total) (sym pushed)
      (goes_on at front n ts total so_far x rest shorter enough h read))

  pub enough_next : length rest < length ts → length ts + length front ≤ n → length rest + length more ≤ n
  enough_next shorter enough = omega (arith, longer)

-- at the exit where no value is read
pub refused : {X : Type 0} (at : Parse X) (front : List X) (n : ℕ) (ts rest : List Token) (total : Option (List X × List Token)) (e : Refusal) → with_front front (items_at at (n - length front) ts) ≡ total
    → after_end_array ts ≡ None → Gives (Err e) rest (value_here at ts) → GivesItems (Err e) rest total
refused at front n ts rest total Memory so_far h given = tt
refused at front n ts rest total Unlike so_far h given = stops at front n ts total so_far h given

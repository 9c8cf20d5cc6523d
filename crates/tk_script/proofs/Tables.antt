-- What a table of files owes after a write and a clear.
use Rattle.std.proofs.Common.{◌≡◌, ℕ, Bool, true, false, List, [], ◌∷◌, ◌++◌, refl, sym, ap, ◌∙◌, inl, inr, ◌⊎◌, subst, not, ◌&&◌, ◌||◌, if◌then◌else◌, cond, ◌+◌, ◌<◌, ◌≤◌, arith, String, Global, length, take, get_or, map, filter}
use Rattle.std.proofs.lemmas.List.{map-append, append-nil, take_more, length-append}
use Rattle.std.proofs.lemmas.List.Elements.{filter-append}
use Rattle.tk_types.specs.declared.value.Pair.{Pair}
use Rattle.tk_script.specs.ScriptHost.{is_plain, result_of, results_of}
use Rattle.std.specs.Prelude.{bytes_eq, string_bytes, Option, Some, None, Result, Ok, Err, OnOk, OnErr, IsOk, is_some}
use Rattle.std.specs.Option.{option_or}
use Rattle.std.specs.Map.{lookup}
use Rattle.std.specs.HashMap as hash
use Rattle.std.specs.HashMap.{HashMap, get_by_text}
use Rattle.std.specs.Prelude.{string_eq}
use Rattle.std.proofs.lemmas.Bool.{cases_Bool}
use Rattle.std.proofs.lemmas.Slice.Eq.{bytes_eq-Decides}
use Rattle.tk_script.specs.declared.file_table.Held.{Held}
use Rattle.tk_script.specs.FileTable.{bytes_at, put_at}

pub when_ok : {T E : Type 0} (r : Result T E) (P : Type 0) → IsOk r → OnOk r P → P
when_ok (Ok x) P ok has = has
when_ok (Err e) P ok has = cc

pub bytes_eq_swap : (p q : List ℕ) → bytes_eq p q ≡ bytes_eq q p
bytes_eq_swap p q = elim (cases_Bool (bytes_eq q p)) [
  | inl hit ↦ (bytes_eq-Decides p q).1 (sym ((bytes_eq-Decides q p).0 hit)) ∙ sym hit
  | inr miss ↦ elim (cases_Bool (bytes_eq p q)) [
    | inl hit ↦ (let back : bytes_eq q p ≡ true = (bytes_eq-Decides q p).1 (sym ((bytes_eq-Decides p q).0 hit)) in cc)
    | inr both ↦ both ∙ sym miss
  ]
]

-- a file is written

pub written_bytes : (old new : List ℕ → Option Held) (path q : List ℕ) (held : Held) → new q ≡ cond (bytes_eq path q) (Some held) (old q) → bytes_at new q ≡ (if bytes_eq q path then Some held.bytes else bytes_at old q)
written_bytes old new path q held is = elim (cases_Bool (bytes_eq path q)) [
  | inl hit ↦ rw (is, bytes_eq_swap q path, hit) refl
  | inr miss ↦ rw (is, bytes_eq_swap q path, miss) refl
]

pub written_puts : (old new : List ℕ → Option Held) (path q : List ℕ) (held : Held) (put : Bool) → held.put ≡ (put || put_at old path) → new q ≡ cond (bytes_eq path q) (Some held) (old q) → put_at new q ≡ ((put && bytes_eq q path) || put_at old q)
written_puts old new path q held put marks is = elim (cases_Bool (bytes_eq path q)) [
  | inl hit ↦ rw (is, bytes_eq_swap q path, hit) (marks ∙ same put (put_at old path) ∙ ap (λ (p : List ℕ). (put && true) || put_at old p) ((bytes_eq-Decides path q).0 hit))
  | inr miss ↦ rw (is, bytes_eq_swap q path, miss) (none put (put_at old q))
]
  where
    same : (a b : Bool) → (a || b) ≡ ((a && true) || b)
    same true b = refl
    same false b = refl

    none : (a b : Bool) → b ≡ ((a && false) || b)
    none true b = refl
    none false b = refl

-- files are taken out

pub cleared_bytes : (old new : List ℕ → Option Held) (q : List ℕ) (under : Bool) → new q ≡ cond (not under) (old q) None → bytes_at new q ≡ (if under then None else bytes_at old q)
cleared_bytes old new q true is = rw is refl
cleared_bytes old new q false is = rw is refl

pub cleared_puts : (old new : List ℕ → Option Held) (q : List ℕ) (under : Bool) → new q ≡ cond (not under) (old q) None → put_at new q ≡ (not under && put_at old q)
cleared_puts old new q true is = rw is refl
cleared_puts old new q false is = rw is refl

-- files are written one after the other, from the last on

pub all_step : (q path bytes : List ℕ) (xs : List (List ℕ × List ℕ)) (old new : Option (List ℕ)) → new ≡ (if bytes_eq q path then Some bytes else old) → option_or (lookup (bytes_eq q) xs) new ≡ option_or (lookup (bytes_eq q) (xs ++ (path, bytes) ∷ [])) old
all_step q path bytes [] old new is = elim (cases_Bool (bytes_eq q path)) [
  | inl hit ↦ rw (is, hit) refl
  | inr miss ↦ rw (is, miss) refl
]
all_step q path bytes (x ∷ xs) old new is = elim (cases_Bool (bytes_eq q x.0)) [
  | inl hit ↦ rw hit refl
  | inr miss ↦ rw miss (all_step q path bytes xs old new is)
]

-- one more file of a script

plain_one : (root pod : List ℕ) (x : Pair) (b : Bool) → map (result_of root pod) (cond b (x ∷ []) []) ≡ cond b (result_of root pod x ∷ []) []
plain_one root pod x true = refl
plain_one root pod x false = refl

results_more : (root pod : List ℕ) (files : List Pair) (i : ℕ) (x : Pair) → i < length files → x ≡ get_or files i x → results_of root pod (take (i + 1) files) ≡ results_of root pod (take i files) ++ cond (is_plain x) (result_of root pod x ∷ []) []
results_more root pod files i x below is =
    ap (results_of root pod) (take_more files i x below ∙ ap (λ y. take i files ++ y ∷ []) (sym is))
    ∙ (ap (map (result_of root pod)) (filter-append is_plain (take i files) (x ∷ []))
    ∙ (map-append (result_of root pod) (filter is_plain (take i files)) (cond (is_plain x) (x ∷ []) [])
    ∙ ap (λ ys. results_of root pod (take i files) ++ ys) (plain_one root pod x (is_plain x))))

pub results_yes : (root pod : List ℕ) (files : List Pair) (i : ℕ) (x : Pair) (shown : List (List ℕ × List ℕ)) (r : List ℕ × List ℕ) → i < length files → x ≡ get_or files i x → is_plain x ≡ true → r ≡ result_of root pod x → shown ≡ results_of root pod (take i files) → shown ++ r ∷ [] ≡ results_of root pod (take (i + 1) files)
results_yes root pod files i x shown r below is plain one so =
    rw (so, one) (sym (results_more root pod files i x below is ∙ ap (λ b. results_of root pod (take i files) ++ cond b (result_of root pod x ∷ []) []) plain))

pub results_no : (root pod : List ℕ) (files : List Pair) (i : ℕ) (x : Pair) (shown : List (List ℕ × List ℕ)) → i < length files → x ≡ get_or files i x → is_plain x ≡ false → shown ≡ results_of root pod (take i files) → shown ≡ results_of root pod (take (i + 1) files)
results_no root pod files i x shown below is slash so =
    so ∙ sym (results_more root pod files i x below is ∙ (ap (λ b. results_of root pod (take i files) ++ cond b (result_of root pod x ∷ []) []) slash ∙ append-nil (results_of root pod (take i files))))

-- a file with its path as contracts see them

abbrev pub shown : String Global × List ℕ → List ℕ × List ℕ
shown r = (string_bytes r.0, r.1)

-- the last element leaves

pub room_left : {X : Type 0} (old new : List X) (x : X) (before after : ℕ) → old ≡ new ++ x ∷ [] → length old ≤ before → before ≤ after + 1 → length new ≤ after
room_left old new x before after is fits room =
    let long : length old ≡ length new + 1 = ap length is ∙ length-append new (x ∷ []) in
    omega (arith, long, fits, room)

-- a name is added

pub added_name : {X : Type 0} (old new : List ℕ → Option X) (name q : List ℕ) (x : X) → new q ≡ cond (bytes_eq name q) (Some x) (old q) → is_some (new q) ≡ (bytes_eq q name || is_some (old q))
added_name old new name q x is = elim (cases_Bool (bytes_eq name q)) [
  | inl hit ↦ rw (is, bytes_eq_swap q name, hit) refl
  | inr miss ↦ rw (is, bytes_eq_swap q name, miss) refl
]

-- a table with the same entries in another order

module _ {Y X : Type 0} where
  a_key : (bs : List ℕ) (es : List (String Y × X)) → (lookup (λ k. bytes_eq bs (string_bytes k)) es ≡ None) ⊎ ((k : String Y) × (string_bytes k ≡ bs))
  a_key bs [] = inl refl
  a_key bs (e ∷ es) = elim (cases_Bool (bytes_eq bs (string_bytes e.0))) [
    | inl hit ↦ inr (e.0, sym ((bytes_eq-Decides bs (string_bytes e.0)).0 hit))
    | inr miss ↦ elim (a_key bs es) [
      | inl none ↦ inl (rw miss none)
      | inr some ↦ inr some
    ]
  ]

  pub same_texts : {S : Type 0} (m n : HashMap (String Y) X S) → ((k : String Y) → hash.get string_eq n k ≡ hash.get string_eq m k) → (bs : List ℕ) → get_by_text n bs ≡ get_by_text m bs
  same_texts m n same bs = elim (a_key bs m.entries) [
    | inr some ↦ subst (λ (b : List ℕ). get_by_text n b ≡ get_by_text m b) some.1 (same some.0)
    | inl none ↦ elim (a_key bs n.entries) [
      | inr some ↦ subst (λ (b : List ℕ). get_by_text n b ≡ get_by_text m b) some.1 (same some.0)
      | inl gone ↦ gone ∙ sym none
    ]
  ]

-- what holds holds of an error

pub on_err : {T E : Type 0} (r : Result T E) (P : Type 0) → P → OnErr r P
on_err (Ok x) P has = tt
on_err (Err e) P has = has

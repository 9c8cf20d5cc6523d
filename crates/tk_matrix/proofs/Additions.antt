-- What include entries add stands behind the texts of the lists, and a map keeps it in order.
use Rattle.std.proofs.Common.{◌≡◌, ◌-◌, ◌<◌, ◌≤◌, ℕ, Bool, true, false, not, cond, List, [], ◌∷◌, ◌++◌, length, take, Option, Some, refl, sym, ap, ◌∙◌}
use Rattle.std.specs.Prelude.{String, bytes_eq, filter, find, flat_map, fold, is_some, option_map, slice_index_or, string_bytes}
use Rattle.std.specs.List.{list_all}
use Rattle.std.specs.String.{string_eq}
use Rattle.std.proofs.lemmas.Bool.{and_parts, and_from, cond_below, false≢true}
use Rattle.std.proofs.lemmas.Bool.Decides.{Decides-like, same_from_decides}
use Rattle.std.proofs.lemmas.List.{append-nil, take_all}
use Rattle.std.proofs.lemmas.List.Folds.{list_all-append}
use Rattle.std.proofs.lemmas.Slice.Eq.{bytes_eq-Decides}
use Rattle.indexmap.specs.IndexMap.{insert_entry}
use Rattle.tk_types.specs.declared.task.Matrix.{Matrix}
use Rattle.tk_types.specs.declared.value.Param.{Param}
use Rattle.tk_types.specs.declared.value.Value.{Value}
use Rattle.tk_types.specs.Value.{value_named}
use Rattle.tk_matrix.specs.Product.{product_combination}
use Rattle.tk_matrix.specs.Added.{params_of}
use Rattle.tk_matrix.specs.Combinations.{combination, list_count, own_entries}
use Rattle.tk_matrix.specs.Include.{agrees, others, with_param, extended}

-- ---- a map keeps what is added in order

bytes_eq-turned : (a b : List ℕ) → bytes_eq a b ≡ bytes_eq b a
bytes_eq-turned a b = same_from_decides (bytes_eq a b) (bytes_eq b a) (bytes_eq-Decides a b) (Decides-like (bytes_eq b a) sym sym (bytes_eq-Decides b a))

abbrev param : List ℕ → Value → Param
param name value = record { name = name; value = value }

insert_step : {Z : Type 0} → (b : Bool) (k : String Z) (v : Value) (e : String Z × Value) (es inserted : List (String Z × Value)) → (b ≡ true → string_bytes e.0 ≡ string_bytes k) → params_of inserted ≡ with_param (params_of es) (param (string_bytes k) v) → params_of (cond b ((e.0, v) ∷ es) (e ∷ inserted)) ≡ cond b (param (string_bytes k) v ∷ params_of es) (param (string_bytes e.0) e.1 ∷ with_param (params_of es) (param (string_bytes k) v))
insert_step true k v e es inserted same rest = ap (λ name. param name v ∷ params_of es) (same refl)
insert_step false k v e es inserted same rest = ap (λ qs. param (string_bytes e.0) e.1 ∷ qs) rest

params_of-insert_entry : {Z : Type 0} → (k : String Z) (v : Value) (es : List (String Z × Value)) → params_of (insert_entry string_eq es k v) ≡ with_param (params_of es) (param (string_bytes k) v)
params_of-insert_entry k v [] = refl
params_of-insert_entry {Z} k v (e ∷ es) =
    let same = λ (h : bytes_eq (string_bytes k) (string_bytes e.0) ≡ true). sym ((bytes_eq-Decides (string_bytes k) (string_bytes e.0)).0 h) in
    insert_step (bytes_eq (string_bytes k) (string_bytes e.0)) k v e es (insert_entry string_eq es k v) same (params_of-insert_entry k v es)
    ∙ ap (λ b. cond b (param (string_bytes k) v ∷ params_of es) (param (string_bytes e.0) e.1 ∷ with_param (params_of es) (param (string_bytes k) v))) (bytes_eq-turned (string_bytes k) (string_bytes e.0))

-- ---- what is added stands behind the texts of the lists

abbrev is_other : List Param → Param → Bool
is_other c p = not (is_some (value_named p.name c))

abbrev val : Param → Value
val p = p.value

with_param_step : (b : Bool) (q p : Param) (qs a : List Param) (found : Option Param) → (not (is_some (option_map val found)) ≡ true → with_param (qs ++ a) p ≡ qs ++ with_param a p) → not (is_some (option_map val (cond b (Some q) found))) ≡ true → cond b (p ∷ (qs ++ a)) (q ∷ with_param (qs ++ a) p) ≡ q ∷ (qs ++ with_param a p)
with_param_step true q p qs a found rest h = absurd (false≢true h)
with_param_step false q p qs a found rest h = ap (λ rs. q ∷ rs) (rest h)

with_param-append : (c a : List Param) (p : Param) → is_other c p ≡ true → with_param (c ++ a) p ≡ c ++ with_param a p
with_param-append [] a p h = refl
with_param-append (q ∷ qs) a p h =
    with_param_step (bytes_eq q.name p.name) q p qs a (find (λ (r : Param). bytes_eq r.name p.name) qs) (with_param-append qs a p) h

fold_behind : (c a ps : List Param) → list_all (is_other c) ps ≡ true → fold with_param (c ++ a) ps ≡ c ++ fold with_param a ps
fold_behind c a [] h = refl
fold_behind c a (p ∷ ps) h =
    let parts = and_parts (is_other c p) (list_all (is_other c) ps) h in
    ap (λ qs. fold with_param qs ps) (with_param-append c a p parts.0) ∙ fold_behind c (with_param a p) ps parts.1

list_all_step : {X : Type 0} (test : X → Bool) (x : X) (passed : List X) (b : Bool) → b ≡ test x → list_all test passed ≡ true → list_all test (cond b (x ∷ passed) passed) ≡ true
list_all_step test x passed true e h = and_from (test x) (list_all test passed) (sym e) h
list_all_step test x passed false e h = h

list_all-filter : {X : Type 0} (test : X → Bool) (xs : List X) → list_all test (filter test xs) ≡ true
list_all-filter test [] = refl
list_all-filter test (x ∷ xs) = list_all_step test x (filter test xs) (test x) refl (list_all-filter test xs)

all_others : (c : List Param) (entries : List (List Param)) → list_all (is_other c) (flat_map (others c) entries) ≡ true
all_others c [] = refl
all_others c (entry ∷ entries) =
    list_all-append (is_other c) (others c entry) (flat_map (others c) entries) ∙ and_from _ _ (list_all-filter (is_other c) entry) (all_others c entries)

-- a combination that is extended: its own texts, and then what the entries add
pub extended-behind : (entries : List (List Param)) (c : List Param) → extended entries c ≡ c ++ fold with_param [] (flat_map (others c) (filter (agrees c) entries))
extended-behind entries c =
    let added = flat_map (others c) (filter (agrees c) entries) in
    ap (λ start. fold with_param start added) (sym (append-nil c)) ∙ fold_behind c [] added (all_others c (filter (agrees c) entries))

-- an entry that was put into the map is a parameter that was put in
pub inserted : {Z : Type 0} → (k : String Z) (v : Value) (p : Param) (before after : List (String Z × Value)) → after ≡ insert_entry string_eq before k v → string_bytes k ≡ p.name → v ≡ p.value → params_of after ≡ with_param (params_of before) p
inserted k v p before after e name value =
    ap params_of e ∙ params_of-insert_entry k v before ∙ ap (λ n. with_param (params_of before) (param n v)) name ∙ ap (λ w. with_param (params_of before) (param p.name w)) value

-- the end of the loop over the entries
pub all_extended : (entries : List (List Param)) (c added : List Param) (i : ℕ) → length entries ≤ i → added ≡ fold with_param [] (flat_map (others c) (filter (agrees c) (take i entries))) → c ++ added ≡ extended entries c
all_extended entries c added i h e =
    ap (λ qs. c ++ qs) (e ∙ ap (λ es. fold with_param [] (flat_map (others c) (filter (agrees c) es))) (take_all i entries h)) ∙ sym (extended-behind entries c)

-- a combination of the lists begins with their texts
pub combination-behind : (matrix : Matrix) (i : ℕ) → i < list_count matrix.params → (added : List Param) × (combination matrix i ≡ product_combination matrix.params i ++ added)
combination-behind matrix i h =
    let c = product_combination matrix.params i in
    (fold with_param [] (flat_map (others c) (filter (agrees c) matrix.include)), sym (cond_below i (list_count matrix.params) (extended matrix.include c) (slice_index_or (own_entries matrix) (i - list_count matrix.params) []) h) ∙ extended-behind matrix.include c)

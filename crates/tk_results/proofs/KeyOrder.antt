-- The members of a JSON object stand in the order of their keys, and so do the pairs.
use Rattle.std.proofs.Common.{◌≡◌, ℕ, List, [], ◌∷◌, map, refl, sym, subst, ap, ◌∙◌, Some, None, Ordering, Less, Equal, Greater, nat_cmp}
use Rattle.std.specs.Prelude.{Option, option_and_then, option_map, ⊤}
use Rattle.std.specs.Cmp.Lexicographic.{slice_cmp}
use Rattle.std.specs.List.{AllByRecursion}
use Rattle.std.specs.List.Sorted.{IsStrictlySortedBy}
use Rattle.std.specs.Ordering.{match_ordering, ordering_reverse}
use Rattle.std.proofs.lemmas.Cmp.{nat_list_cmp_total}
use Rattle.json.specs.Json as json
use Rattle.json.specs.Lex.{tokens}
use Rattle.serde_json.specs.Data.{Data, number, array, object as json_object, Members, no_members, member, put}
use Rattle.serde_json.specs.Find.{as_object, as_str}
use Rattle.serde_json.specs.Read.{max_depth, number_of, of_items, of_json, of_members, read}
use Rattle.tk_types.specs.declared.value.Pair.{Pair}
use Rattle.tk_types.specs.declared.value.ParamType.TheVariants.{Obj as object}
use Rattle.tk_types.specs.declared.value.Value.{Value}
use Rattle.tk_types.specs.declared.value.Value.TheVariants.{Str, Arr, Obj}
use Rattle.tk_types.specs.Lists.{all_some}
use Rattle.tk_types.specs.Json.{json_of, text_of}
use Rattle.tk_results.specs.Read.{members, object_of, pair_of, pairs_of, value_of}

abbrev order : List ℕ → List ℕ → Ordering
order = slice_cmp nat_cmp

abbrev keys : Members → List (List ℕ)
keys ms = map (λ (m : List ℕ × Data). m.0) (members ms)

abbrev IsInOrder : List (List ℕ) → Type 0
IsInOrder = IsStrictlySortedBy order

-- it holds of what is there
abbrev Kept : {A : Type 0} → (A → Type 0) → Option A → Type 0
Kept P None = ⊤
Kept P (Some a) = P a

kept-map : {A B : Type 0} (P : A → Type 0) (Q : B → Type 0) (h : A → B) → ((a : A) → P a → Q (h a)) → (o : Option A) → Kept P o → Kept Q (option_map h o)
kept-map P Q h k None x = tt
kept-map P Q h k (Some a) x = k a x

kept-and_then : {A B : Type 0} (P : A → Type 0) (Q : B → Type 0) (h : A → Option B) → ((a : A) → P a → Kept Q (h a)) → (o : Option A) → Kept P o → Kept Q (option_and_then h o)
kept-and_then P Q h k None x = tt
kept-and_then P Q h k (Some a) x = k a x

abbrev Any : {A : Type 0} → A → Type 0
Any a = ⊤

any : {A : Type 0} (o : Option A) → Kept Any o
any None = tt
any (Some a) = tt

-- ---- a member that is put in stands in its place

above_all : (k l : List ℕ) (ks : List (List ℕ)) → order k l ≡ Less → AllByRecursion (λ y. order l y ≡ Less) ks → AllByRecursion (λ y. order k y ≡ Less) ks
above_all k l [] lt all = tt
above_all k l (y ∷ ks) lt all = (nat_list_cmp_total.trans k l y lt all.0, above_all k l ks lt all.1)

below-put_at : (o : Ordering) (x k : List ℕ) (d : Data) (l : List ℕ) (e : Data) (ms : Members) → order x k ≡ Less
    → AllByRecursion (λ y. order x y ≡ Less) (keys (member l e ms)) → AllByRecursion (λ y. order x y ≡ Less) (keys (put k d ms))
    → AllByRecursion (λ y. order x y ≡ Less) (keys (match_ordering o (member k d (member l e ms)) (member l d ms) (member l e (put k d ms))))
below-put_at Less x k d l e ms lt all later = (lt, all)
below-put_at Equal x k d l e ms lt all later = all
below-put_at Greater x k d l e ms lt all later = (all.0, later)

below-put : (x k : List ℕ) (d : Data) (ms : Members) → order x k ≡ Less → AllByRecursion (λ y. order x y ≡ Less) (keys ms) → AllByRecursion (λ y. order x y ≡ Less) (keys (put k d ms))
below-put x k d no_members lt all = (lt, tt)
below-put x k d (member l e ms) lt all = below-put_at (order k l) x k d l e ms lt all (below-put x k d ms lt all.1)

in_order-put_at : (o : Ordering) (k : List ℕ) (d : Data) (l : List ℕ) (e : Data) (ms : Members) → order k l ≡ o → IsInOrder (keys (member l e ms)) → IsInOrder (keys (put k d ms))
    → IsInOrder (keys (match_ordering o (member k d (member l e ms)) (member l d ms) (member l e (put k d ms))))
unfolding IsStrictlySortedBy
in_order-put_at Less k d l e ms is sorted later = ((is, above_all k l (keys ms) is sorted.0), sorted)
in_order-put_at Equal k d l e ms is sorted later = sorted
in_order-put_at Greater k d l e ms is sorted later = (below-put l k d ms (nat_list_cmp_total.antisymm l k ∙ ap ordering_reverse is) sorted.0, later)

in_order-put : (k : List ℕ) (d : Data) (ms : Members) → IsInOrder (keys ms) → IsInOrder (keys (put k d ms))
unfolding IsStrictlySortedBy
in_order-put k d no_members sorted = (tt, tt)
in_order-put k d (member l e ms) sorted = in_order-put_at (order k l) k d l e ms refl sorted (in_order-put k d ms sorted.1)

-- ---- what is read

in_order-of_members : (js : json.Members) (found : Members) → IsInOrder (keys found) → Kept (λ ms. IsInOrder (keys ms)) (of_members js found)
in_order-of_members json.no_members found sorted = sorted
in_order-of_members (json.member k j js) found sorted =
    kept-and_then Any (λ ms. IsInOrder (keys ms)) (λ d. of_members js (put k d found)) (λ d x. in_order-of_members js (put k d found) (in_order-put k d found sorted)) (of_json j) (any (of_json j))

-- the members of a value that is an object stand in order
abbrev HasOrder : Data → Type 0
HasOrder d = Kept (λ ms. IsInOrder (keys ms)) (as_object d)

in_order-of_json : (j : json.Json) → Kept HasOrder (of_json j)
unfolding IsStrictlySortedBy
in_order-of_json json.null = tt
in_order-of_json (json.boolean b) = tt
in_order-of_json (json.number s) = kept-map Any HasOrder number (λ n x. tt) (number_of s) (any (number_of s))
in_order-of_json (json.string s) = tt
in_order-of_json (json.array js) = kept-map Any HasOrder array (λ ds x. tt) (of_items js) (any (of_items js))
in_order-of_json (json.object ms) = kept-map (λ ms. IsInOrder (keys ms)) HasOrder json_object (λ ms x. x) (of_members ms no_members) (in_order-of_members ms no_members tt)

in_order-read : (text : List ℕ) → Kept HasOrder (read text)
in_order-read text =
    let written : Option json.Json = option_and_then (λ p. json.if_last p.0 p.1) (json.value max_depth (tokens text)) in
    kept-and_then Any HasOrder of_json (λ j x. in_order-of_json j) written (any written)

in_order-json_of : (bytes : List ℕ) → Kept HasOrder (json_of bytes)
in_order-json_of bytes = kept-and_then Any HasOrder read (λ text x. in_order-read text) (text_of bytes) (any (text_of bytes))

-- ---- the pairs have the keys of the members

abbrev pair_keys : List Pair → List (List ℕ)
pair_keys pairs = map (λ (p : Pair). p.key) pairs

abbrev HaveKeys : List (List ℕ) → Option (List Pair) → Type 0
HaveKeys ks pairs = Kept (λ (ps : List Pair). pair_keys ps ≡ ks) pairs

same_keys_more : (pair : Pair) (ks : List (List ℕ)) (left : Option (List Pair)) → HaveKeys ks left → HaveKeys (pair.key ∷ ks) (elim left [ None ↦ None | Some pairs ↦ Some (pair ∷ pairs) ])
same_keys_more pair ks None later = tt
same_keys_more pair ks (Some pairs) later = ap (λ ks. pair.key ∷ ks) later

same_keys_at : (key : List ℕ) (text : Option (List ℕ)) (ks : List (List ℕ)) (left : List (Option Pair)) → HaveKeys ks (all_some left)
    → HaveKeys (key ∷ ks) (all_some (option_map (λ (t : List ℕ). record { key = key; value = t }) text ∷ left))
same_keys_at key None ks left later = tt
same_keys_at key (Some t) ks left later = same_keys_more (record { key = key; value = t }) ks (all_some left) later

same_keys : (ms : List (List ℕ × Data)) → HaveKeys (map (λ (m : List ℕ × Data). m.0) ms) (pairs_of ms)
same_keys [] = refl
same_keys (m ∷ ms) = same_keys_at m.0 (as_str m.1) (map (λ (m : List ℕ × Data). m.0) ms) (map pair_of ms) (same_keys ms)

in_order-pairs_of : (ms : Members) → IsInOrder (keys ms) → Kept (λ pairs. IsInOrder (pair_keys pairs)) (pairs_of (members ms))
in_order-pairs_of ms sorted = along (pairs_of (members ms)) (same_keys (members ms))
  where
    along : (o : Option (List Pair)) → Kept (λ pairs. pair_keys pairs ≡ keys ms) o → Kept (λ pairs. IsInOrder (pair_keys pairs)) o
    along None x = tt
    along (Some pairs) x = subst IsInOrder (sym x) sorted

in_order-object_of : (d : Data) → HasOrder d → Kept (λ pairs. IsInOrder (pair_keys pairs)) (object_of d)
in_order-object_of d sorted = kept-and_then (λ ms. IsInOrder (keys ms)) (λ pairs. IsInOrder (pair_keys pairs)) (λ ms. pairs_of (members ms)) in_order-pairs_of (as_object d) sorted

-- the pairs of a value that is an object stand in order
abbrev PairsInOrder : Value → Type 0
PairsInOrder (Str text) = ⊤
PairsInOrder (Arr texts) = ⊤
PairsInOrder (Obj pairs) = IsInOrder (pair_keys pairs)

in_order-value_of : (bytes : List ℕ) → Kept PairsInOrder (value_of object bytes)
in_order-value_of bytes =
    kept-map (λ pairs. IsInOrder (pair_keys pairs)) PairsInOrder Obj (λ pairs x. x) (option_and_then object_of (json_of bytes))
    (kept-and_then HasOrder (λ pairs. IsInOrder (pair_keys pairs)) object_of in_order-object_of (json_of bytes) (in_order-json_of bytes))

pub keys_ascend : (bytes : List ℕ) (pairs : List Pair) → value_of object bytes ≡ Some (Obj pairs) → IsStrictlySortedBy (slice_cmp nat_cmp) (map (λ (p : Pair). p.key) pairs)
keys_ascend bytes pairs e = subst (Kept PairsInOrder) e (in_order-value_of bytes)

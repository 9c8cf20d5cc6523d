-- The JSON text of a value reads back as the value.
use Rattle.std.proofs.Common.{◌≡◌, ℕ, ◌≤◌, List, [], ◌∷◌, ◌++◌, map, fold, refl, sym, ap, ◌∙◌, subst, Some, Less, Greater, nat_cmp, append-nil, append_assoc, arith}
use Rattle.std.specs.Prelude.{Option, option_and_then, option_map}
use Rattle.std.specs.Cmp.Lexicographic.{slice_cmp}
use Rattle.std.specs.List.{AllByRecursion}
use Rattle.std.specs.List.Sorted.{IsStrictlySortedBy}
use Rattle.std.specs.Ordering.{ordering_reverse}
use Rattle.std.proofs.lemmas.Cmp.{nat_list_cmp_total}
use Rattle.json.specs.Json as json
use Rattle.json.specs.Token.{Token}
use Rattle.json.specs.Lex.{tokens}
use Rattle.json.specs.Tree as tree
use Rattle.json.proofs.Printed.Tokens.{tokens-print}
use Rattle.json.proofs.Printed.Trees.{value-json_tokens, ArePrintable-json_tokens}
use Rattle.serde_json.specs.Data.{Data, string, array, object, Members, no_members, member}
use Rattle.serde_json.specs.Find.{as_str}
use Rattle.serde_json.specs.Read.{max_depth, of_items, of_json, of_members, read}
use Rattle.serde_json.specs.View.{items_of}
use Rattle.serde_json.specs.Written.{compact_text, outline, items_outline, members_outline}
use Rattle.serde_json.proofs.Texts.{print-outline}
use Rattle.tk_types.specs.declared.value.Pair.{Pair}
use Rattle.tk_types.specs.declared.value.Value.TheVariants.{Str, Arr, Obj}
use Rattle.tk_results.specs.Read.{elements, list_of, members, object_of, pairs_of, texts_of}
use Rattle.tk_results.specs.Written.{json_text, members_of, with_pair}
use Rattle.tk_results.proofs.JsonText.{listed}

-- ---- data that its own outline reads as is read back from its text

abbrev whole : Option (json.Json × List Token) → Option Data
whole o = option_and_then of_json (option_and_then (λ p. json.if_last p.0 p.1) o)

-- the outline has no number, nests no deeper than a text may, and reads as the data
record IsPlain (d : Data) : Type 0 where
  numbers : tree.HasNumbers (outline d)
  shallow : tree.depth (outline d) ≤ max_depth
  same : of_json (outline d) ≡ Some d

tokens-compact_text : (d : Data) → tree.HasNumbers (outline d) → tokens (compact_text d) ≡ tree.json_tokens (outline d)
tokens-compact_text d numbers = ap tokens (sym (print-outline d)) ∙ tokens-print (tree.json_tokens (outline d)) (ArePrintable-json_tokens (outline d) numbers)

read_back : (d : Data) → IsPlain d → read (compact_text d) ≡ Some d
read_back d h =
    ap whole (ap (json.value max_depth) (tokens-compact_text d h.numbers ∙ sym (append-nil (tree.json_tokens (outline d)))) ∙ value-json_tokens (outline d) max_depth [] h.shallow) ∙ h.same

-- ---- a text

pub text_reads_back : (text : List ℕ) → option_and_then as_str (read (json_text (Str text))) ≡ Some text
text_reads_back text = ap (option_and_then as_str) (read_back (string text) (record { numbers = tt; shallow = omega arith; same = refl }))

-- ---- a list

list-numbers : (texts : List (List ℕ)) → tree.ItemsHaveNumbers (items_outline (items_of (map string texts)))
list-numbers [] = tt
list-numbers (text ∷ texts) = (tt, list-numbers texts)

list-depth : (texts : List (List ℕ)) → tree.items_depth (items_outline (items_of (map string texts))) ≤ 0
list-depth [] = omega arith
list-depth (text ∷ texts) = omega (arith, list-depth texts)

list-same : (texts : List (List ℕ)) → of_items (items_outline (items_of (map string texts))) ≡ Some (items_of (map string texts))
list-same [] = refl
list-same (text ∷ texts) = rw (list-same texts) refl

elements-items_of : (ds : List Data) → elements (items_of ds) ≡ ds
elements-items_of [] = refl
elements-items_of (d ∷ ds) = ap (λ l. d ∷ l) (elements-items_of ds)

texts_of-strings : (texts : List (List ℕ)) → texts_of (map string texts) ≡ Some texts
texts_of-strings [] = refl
texts_of-strings (text ∷ texts) = rw (texts_of-strings texts) refl

pub list_reads_back : (texts : List (List ℕ)) → option_and_then list_of (read (json_text (Arr texts))) ≡ Some texts
list_reads_back texts =
    let ds = items_of (map string texts) in
    let plain : IsPlain (array ds) = record { numbers = list-numbers texts; shallow = omega (arith, list-depth texts); same = ap (option_map array) (list-same texts) } in
    ap (option_and_then list_of) (read_back (array ds) plain) ∙ (ap texts_of (elements-items_of (map string texts)) ∙ texts_of-strings texts)

-- ---- an object whose keys ascend

abbrev keys : List Pair → List (List ℕ)
keys pairs = map (λ (p : Pair). p.key) pairs

abbrev IsInOrder : List (List ℕ) → Type 0
IsInOrder = IsStrictlySortedBy (slice_cmp nat_cmp)

below_middle : (k : List ℕ) (done : List Pair) (pair : Pair) (more : List Pair) → AllByRecursion (λ y. slice_cmp nat_cmp k y ≡ Less) (keys (done ++ pair ∷ more)) → slice_cmp nat_cmp k pair.key ≡ Less
below_middle k [] pair more h = h.0
below_middle k (first ∷ done) pair more h = below_middle k done pair more h.1

-- a pair whose key is above those before it goes last
put_last : (done : List Pair) (pair : Pair) (more : List Pair) → IsInOrder (keys (done ++ pair ∷ more)) → with_pair (listed done) pair ≡ listed (done ++ pair ∷ [])
unfolding IsStrictlySortedBy
put_last [] pair more h = refl
put_last (first ∷ done) pair more h =
    let above : slice_cmp nat_cmp pair.key first.key ≡ Greater = nat_list_cmp_total.antisymm pair.key first.key ∙ ap ordering_reverse (below_middle first.key done pair more h.0) in
    rw above (ap (member first.key (string first.value)) (put_last done pair more h.1))

put_all : (done more : List Pair) → IsInOrder (keys (done ++ more)) → fold with_pair (listed done) more ≡ listed (done ++ more)
put_all done [] h = ap listed (sym (append-nil done))
put_all done (pair ∷ more) h =
    let same : (done ++ pair ∷ []) ++ more ≡ done ++ pair ∷ more = append_assoc done (pair ∷ []) more in
    ap (λ ms. fold with_pair ms more) (put_last done pair more h) ∙ put_all (done ++ pair ∷ []) more (subst (λ pairs. IsInOrder (keys pairs)) (sym same) h) ∙ ap listed same

object-numbers : (pairs : List Pair) → tree.MembersHaveNumbers (members_outline (listed pairs))
object-numbers [] = tt
object-numbers (pair ∷ pairs) = (tt, object-numbers pairs)

object-depth : (pairs : List Pair) → tree.members_depth (members_outline (listed pairs)) ≤ 0
object-depth [] = omega arith
object-depth (pair ∷ pairs) = omega (arith, object-depth pairs)

-- reading the members puts in one pair after another
object-put : (pairs : List Pair) (found : Members) → of_members (members_outline (listed pairs)) found ≡ Some (fold with_pair found pairs)
object-put [] found = refl
object-put (pair ∷ pairs) found = object-put pairs (with_pair found pair)

pairs_of-listed : (pairs : List Pair) → pairs_of (members (listed pairs)) ≡ Some pairs
pairs_of-listed [] = refl
pairs_of-listed (pair ∷ pairs) = rw (pairs_of-listed pairs) refl

pub object_reads_back : (pairs : List Pair) → IsStrictlySortedBy (slice_cmp nat_cmp) (map (λ (p : Pair). p.key) pairs) → option_and_then object_of (read (json_text (Obj pairs))) ≡ Some pairs
object_reads_back pairs h =
    let all : members_of pairs ≡ listed pairs = put_all [] pairs h in
    let same : of_json (outline (object (listed pairs))) ≡ Some (object (listed pairs)) = ap (option_map object) (object-put pairs no_members ∙ ap Some all) in
    let plain : IsPlain (object (listed pairs)) = record { numbers = object-numbers pairs; shallow = omega (arith, object-depth pairs); same = same } in
    ap (λ ms. option_and_then object_of (read (compact_text (object ms)))) all ∙ (ap (option_and_then object_of) (read_back (object (listed pairs)) plain) ∙ pairs_of-listed pairs)

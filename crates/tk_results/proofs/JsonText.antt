-- The JSON text of a value holds no number, so that each byte of it is known.
use Rattle.std.proofs.Common.{◌≡◌, ℕ, List, [], ◌∷◌, false, map, fold, refl, sym, ap, ◌∙◌, subst, Ordering, Less, Equal, Greater, nat_cmp}
use Rattle.std.specs.Cmp.Lexicographic.{slice_cmp}
use Rattle.std.specs.Ordering.{match_ordering}
use Rattle.serde_json.specs.Data.{string, Members, no_members, member}
use Rattle.serde_json.specs.View.{items_of}
use Rattle.serde_json.specs.Written.{has_float, items_have_float, members_have_float}
use Rattle.tk_types.specs.declared.value.Pair.{Pair}
use Rattle.tk_types.specs.declared.value.Value.{Value}
use Rattle.tk_types.specs.declared.value.Value.TheVariants.{Str, Arr, Obj}
use Rattle.tk_results.specs.Written.{data_of, with_pair}

-- the pairs as members, one for each in their order
abbrev pub listed : List Pair → Members
listed [] = no_members
listed (pair ∷ pairs) = member pair.key (string pair.value) (listed pairs)

-- the members are those of some pairs
abbrev AreListed : Members → Type 0
AreListed ms = (pairs : List Pair) × (ms ≡ listed pairs)

listed-put_at : (o : Ordering) (new pair : Pair) (pairs : List Pair) → AreListed (with_pair (listed pairs) new)
    → AreListed (match_ordering o (member new.key (string new.value) (listed (pair ∷ pairs))) (member pair.key (string new.value) (listed pairs)) (member pair.key (string pair.value) (with_pair (listed pairs) new)))
listed-put_at Less new pair pairs later = (new ∷ pair ∷ pairs, refl)
listed-put_at Equal new pair pairs later = (record { key = pair.key; value = new.value } ∷ pairs, refl)
listed-put_at Greater new pair pairs later = (pair ∷ later.0, ap (member pair.key (string pair.value)) later.1)

listed-put : (new : Pair) (pairs : List Pair) → AreListed (with_pair (listed pairs) new)
listed-put new [] = (new ∷ [], refl)
listed-put new (pair ∷ pairs) = listed-put_at (slice_cmp nat_cmp new.key pair.key) new pair pairs (listed-put new pairs)

listed-fold : (more pairs : List Pair) → AreListed (fold with_pair (listed pairs) more)
listed-fold [] pairs = (pairs, refl)
listed-fold (new ∷ more) pairs =
    let put_in = listed-put new pairs in
    subst (λ ms. AreListed (fold with_pair ms more)) (sym put_in.1) (listed-fold more put_in.0)

no_float-items : (texts : List (List ℕ)) → items_have_float (items_of (map string texts)) ≡ false
no_float-items [] = refl
no_float-items (text ∷ texts) = no_float-items texts

no_float-listed : (pairs : List Pair) → members_have_float (listed pairs) ≡ false
no_float-listed [] = refl
no_float-listed (pair ∷ pairs) = no_float-listed pairs

pub no_float : (value : Value) → has_float (data_of value) ≡ false
no_float (Str text) = refl
no_float (Arr texts) = no_float-items texts
no_float (Obj pairs) = let l = listed-fold pairs [] in ap members_have_float l.1 ∙ no_float-listed l.0

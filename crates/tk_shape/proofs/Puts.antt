-- Keys put in their places, and which are there then.
use Rattle.std.proofs.Common.{◌≡◌, ℕ, Bool, true, false, ◌||◌, List, [], ◌∷◌, refl, sym, ap, ◌∙◌}
use Rattle.std.specs.Prelude.{bytes_eq, fold}
use Rattle.std.specs.Ordering.{nat_cmp, is_eq}
use Rattle.std.specs.declared.cmp.Ordering.{Ordering}
use Rattle.std.specs.declared.cmp.Ordering.TheVariants.{Less, Equal, Greater}
use Rattle.std.specs.Cmp.Lexicographic.{slice_cmp}
use Rattle.std.proofs.Math.Bool.{or-false, or_assoc}
use Rattle.std.proofs.lemmas.Map.Text.{is_eq-slice_cmp}
use Rattle.std.proofs.lemmas.Slice.Eq.{bytes_eq-Decides}
use Rattle.tk_types.specs.declared.value.Pair.{Pair}
use Rattle.tk_bind.specs.Bind.{with_pair}
use Rattle.tk_shape.specs.Bound.{with_key}
use Rattle.tk_shape.specs.Shape.{keys_of, has_key}

-- the keys of pairs with one put in its place
put_keys : (pairs : List Pair) (pair : Pair) → keys_of (with_pair pairs pair) ≡ with_key (keys_of pairs) pair.key
put_keys [] pair = refl
put_keys (p ∷ ps) pair =
    elim (slice_cmp nat_cmp pair.key p.key) as (λ (o : Ordering).
    keys_of (elim o [ Less ↦ pair ∷ p ∷ ps | Equal ↦ p ∷ ps | Greater ↦ p ∷ with_pair ps pair ])
    ≡ elim o [ Less ↦ pair.key ∷ p.key ∷ keys_of ps | Equal ↦ p.key ∷ keys_of ps | Greater ↦ p.key ∷ with_key (keys_of ps) pair.key ]) [
      | Less ↦ refl
      | Equal ↦ refl
      | Greater ↦ ap (λ ks. p.key ∷ ks) (put_keys ps pair)
    ]

-- and with each of some pairs
pub put_all_keys : (pairs defaults : List Pair) → keys_of (fold with_pair pairs defaults) ≡ fold with_key (keys_of pairs) (keys_of defaults)
put_all_keys pairs [] = refl
put_all_keys pairs (d ∷ ds) = put_all_keys (with_pair pairs d) ds ∙ ap (λ ks. fold with_key ks (keys_of ds)) (put_keys pairs d)

-- a key that is put in its place is there, and so are those that were
abbrev has_put : List ℕ → List ℕ → List (List ℕ) → Ordering → List (List ℕ) → List (List ℕ)
has_put key k ks o put = elim o [ Less ↦ key ∷ k ∷ ks | Equal ↦ k ∷ ks | Greater ↦ k ∷ put ]

or_swap : (a b c : Bool) → (a || (b || c)) ≡ ((b || c) || a)
or_swap true true c = refl
or_swap true false true = refl
or_swap true false false = refl
or_swap false true c = refl
or_swap false false true = refl
or_swap false false false = refl

or_same : (a b : Bool) → (a || b) ≡ ((a || b) || a)
or_same true b = refl
or_same false true = refl
or_same false false = refl

has_put_by : (key new k : List ℕ) (ks put : List (List ℕ)) (o : Ordering) → slice_cmp nat_cmp new k ≡ o → has_key key put ≡ (has_key key ks || bytes_eq new key)
    → has_key key (has_put new k ks o put) ≡ (has_key key (k ∷ ks) || bytes_eq new key)
has_put_by key new k ks put Less is rest = or_swap (bytes_eq new key) (bytes_eq k key) (has_key key ks)
has_put_by key new k ks put Equal is rest =
    let same : bytes_eq new k ≡ true = sym (is_eq-slice_cmp new k) ∙ ap is_eq is in
    let equal : new ≡ k = (bytes_eq-Decides new k).0 same in
    or_same (bytes_eq k key) (has_key key ks) ∙ ap (λ n. has_key key (k ∷ ks) || bytes_eq n key) (sym equal)
has_put_by key new k ks put Greater is rest = ap (λ b. bytes_eq k key || b) rest ∙ sym (or_assoc (bytes_eq k key) (has_key key ks) (bytes_eq new key))

has_with_key : (key new : List ℕ) (keys : List (List ℕ)) → has_key key (with_key keys new) ≡ (has_key key keys || bytes_eq new key)
has_with_key key new [] = or-false (bytes_eq new key)
has_with_key key new (k ∷ ks) = has_put_by key new k ks (with_key ks new) (slice_cmp nat_cmp new k) refl (has_with_key key new ks)

-- a key is there after each of some is put in its place, where it was, or is one of them
pub has_with_keys : (key : List ℕ) (keys more : List (List ℕ)) → has_key key (fold with_key keys more) ≡ (has_key key keys || has_key key more)
has_with_keys key keys [] = sym (or-false (has_key key keys))
has_with_keys key keys (new ∷ news) =
    has_with_keys key (with_key keys new) news
    ∙ (ap (λ b. b || has_key key news) (has_with_key key new keys) ∙ or_assoc (has_key key keys) (bytes_eq new key) (has_key key news))

-- A walk that puts pairs in their places.
use Rattle.std.proofs.Common.{◌≡◌, ℕ, Bool, true, false, ◌&&◌, cond, List, [], ◌∷◌, ◌++◌, take, drop, refl, sym, ap, ◌∙◌, append_assoc}
use Rattle.std.specs.List.{list_all}
use Rattle.std.specs.declared.cmp.Ordering.{Ordering}
use Rattle.std.specs.declared.cmp.Ordering.TheVariants.{Less, Equal, Greater}
use Rattle.std.specs.Ordering.{nat_cmp, is_eq, is_gt, ordering_reverse}
use Rattle.std.specs.Cmp.Lexicographic.{slice_cmp}
use Rattle.std.proofs.lemmas.List.{take-append-drop}
use Rattle.std.proofs.lemmas.Cmp.{nat_list_cmp_total}
use Rattle.tk_types.specs.declared.value.Pair.{Pair}
use Rattle.tk_bind.specs.Bind.{with_pair}
use Rattle.tk_bind.specs.Completing.{is_below, begins_below, begins_at}
use Rattle.tk_bind.proofs.WithPair.{with_pair-less, with_pair-equal, with_pair-greater}

greater_from_is_gt : (o : Ordering) → is_gt o ≡ true → o ≡ Greater
greater_from_is_gt Less h = cc
greater_from_is_gt Equal h = cc
greater_from_is_gt Greater h = refl

and_parts : (a b : Bool) → (a && b) ≡ true → (a ≡ true) × (b ≡ true)
and_parts true b h = (refl, h)
and_parts false b h = cc

and_both : (a b : Bool) → a ≡ true → b ≡ true → (a && b) ≡ true
and_both true b h g = g
and_both false b h g = h

greater_trans : (a b c : List ℕ) → slice_cmp nat_cmp c b ≡ Greater → slice_cmp nat_cmp b a ≡ Greater → slice_cmp nat_cmp c a ≡ Greater
greater_trans a b c cb ba =
    let bc : slice_cmp nat_cmp b c ≡ Less = nat_list_cmp_total.antisymm b c ∙ ap ordering_reverse cb in
    let ab : slice_cmp nat_cmp a b ≡ Less = nat_list_cmp_total.antisymm a b ∙ ap ordering_reverse ba in
    nat_list_cmp_total.antisymm c a ∙ ap ordering_reverse (nat_list_cmp_total.trans a b c ab bc)

below_trans : (key : List ℕ) (p q : Pair) → is_below key p ≡ true → is_below p.key q ≡ true → is_below key q ≡ true
below_trans key p q h g =
    ap is_gt (greater_trans q.key p.key key (greater_from_is_gt (slice_cmp nat_cmp key p.key) h) (greater_from_is_gt (slice_cmp nat_cmp p.key q.key) g))

-- what stands below a pair stands below each key that the pair does
pub all_below_trans : (key : List ℕ) (p : Pair) (ps : List Pair) → is_below key p ≡ true → list_all (is_below p.key) ps ≡ true → list_all (is_below key) ps ≡ true
all_below_trans key p [] h g = refl
all_below_trans key p (q ∷ qs) h g =
    let parts = and_parts (is_below p.key q) (list_all (is_below p.key) qs) g in
    and_both (is_below key q) (list_all (is_below key) qs) (below_trans key p q h parts.0) (all_below_trans key p qs h parts.1)

pub all_join : {X : Type 0} (test : X → Bool) (xs ys : List X) → list_all test xs ≡ true → list_all test ys ≡ true → list_all test (xs ++ ys) ≡ true
all_join test [] ys h g = g
all_join test (x ∷ xs) ys h g =
    let parts = and_parts (test x) (list_all test xs) h in
    and_both (test x) (list_all test (xs ++ ys)) parts.0 (all_join test xs ys parts.1 g)

with_pair-behind : (front rest : List Pair) (pair : Pair) → list_all (is_below pair.key) front ≡ true → with_pair (front ++ rest) pair ≡ front ++ with_pair rest pair
with_pair-behind [] rest pair h = refl
with_pair-behind (p ∷ ps) rest pair h =
    let parts = and_parts (is_below pair.key p) (list_all (is_below pair.key) ps) h in
    with_pair-greater p pair (ps ++ rest) (greater_from_is_gt (slice_cmp nat_cmp pair.key p.key) parts.0) ∙ ap (λ qs. p ∷ qs) (with_pair-behind ps rest pair parts.1)

stops_on : (o : Ordering) (p pair : Pair) (ps : List Pair) → slice_cmp nat_cmp pair.key p.key ≡ o → is_gt o ≡ false → with_pair (p ∷ ps) pair ≡ cond (is_eq o) (p ∷ ps) (pair ∷ p ∷ ps)
stops_on Less p pair ps e h = with_pair-less p pair ps e
stops_on Equal p pair ps e h = with_pair-equal p pair ps e
stops_on Greater p pair ps e h = cc

with_pair-stops : (rest : List Pair) (pair : Pair) → begins_below pair.key rest ≡ false → with_pair rest pair ≡ cond (begins_at pair.key rest) rest (pair ∷ rest)
with_pair-stops [] pair h = refl
with_pair-stops (p ∷ ps) pair h = stops_on (slice_cmp nat_cmp pair.key p.key) p pair ps refl h

-- a pair behind those that stand below it, and in front of the rest
pub put_between : (old pairs front rest : List Pair) (pair : Pair) → front ++ rest ≡ pairs → list_all (is_below pair.key) old ≡ true → list_all (is_below pair.key) front ≡ true → begins_below pair.key rest ≡ false → with_pair (old ++ pairs) pair ≡ (old ++ front) ++ cond (begins_at pair.key rest) rest (pair ∷ rest)
put_between old pairs front rest pair joined h g stops =
    ap (λ ps. with_pair ps pair) (ap (λ ps. old ++ ps) (sym joined) ∙ sym (append_assoc old front rest))
    ∙ (with_pair-behind (old ++ front) rest pair (all_join (is_below pair.key) old front h g) ∙ ap (λ ps. (old ++ front) ++ ps) (with_pair-stops rest pair stops))

-- how far a walk to the place of a pair came: old pairs, a front that was walked over, and the rest
pub record IsWalked (old pairs front rest : List Pair) (pair : Pair) : Type 0 where
  pub joined : front ++ rest ≡ pairs
  pub before : list_all (is_below pair.key) old ≡ true
  pub below : list_all (is_below pair.key) front ≡ true
  pub stops : begins_below pair.key rest ≡ false

pub is_walked : (old pairs front rest : List Pair) (pair : Pair) (key : List ℕ) (n : ℕ) → key ≡ pair.key → front ≡ take n pairs → rest ≡ drop n pairs → list_all (is_below pair.key) old ≡ true → list_all (is_below key) (take n pairs) ≡ true → begins_below key (drop n pairs) ≡ false → IsWalked old pairs front rest pair
is_walked old pairs front rest pair key n same is_front is_rest before below stops =
    record {
      joined = ap (λ xs. xs ++ rest) is_front ∙ (ap (λ ys. take n pairs ++ ys) is_rest ∙ take-append-drop n pairs);
      before = before;
      below = ap (λ xs. list_all (is_below pair.key) xs) is_front ∙ (ap (λ k. list_all (is_below k) (take n pairs)) (sym same) ∙ below);
      stops = ap (begins_below pair.key) is_rest ∙ (ap (λ k. begins_below k (drop n pairs)) (sym same) ∙ stops);
    }

put_at : (old pairs front rest : List Pair) (pair : Pair) → IsWalked old pairs front rest pair → with_pair (old ++ pairs) pair ≡ (old ++ front) ++ cond (begins_at pair.key rest) rest (pair ∷ rest)
put_at old pairs front rest pair w = put_between old pairs front rest pair w.joined w.before w.below w.stops

-- the key is there, or the pair is added
pub put_there : (old pairs front rest all : List Pair) (pair : Pair) (key : List ℕ) → IsWalked old pairs front rest pair → key ≡ pair.key → all ≡ old ++ front → begins_at key rest ≡ true → all ++ rest ≡ with_pair (old ++ pairs) pair
put_there old pairs front rest all pair key w same is_all there =
    ap (λ xs. xs ++ rest) is_all ∙ sym (put_at old pairs front rest pair w ∙ ap (λ b. (old ++ front) ++ cond b rest (pair ∷ rest)) (ap (λ k. begins_at k rest) (sym same) ∙ there))

pub put_new : (old pairs front rest moved all : List Pair) (pair copy : Pair) (key : List ℕ) → IsWalked old pairs front rest pair → key ≡ pair.key → moved ≡ old ++ front → all ≡ moved ++ copy ∷ [] → copy ≡ pair → begins_at key rest ≡ false → all ++ rest ≡ with_pair (old ++ pairs) pair
put_new old pairs front rest moved all pair copy key w same is_moved is_all is_copy absent =
    ap (λ xs. xs ++ rest) (is_all ∙ (ap (λ xs. xs ++ copy ∷ []) is_moved ∙ ap (λ p. (old ++ front) ++ p ∷ []) is_copy))
    ∙ (append_assoc (old ++ front) (pair ∷ []) rest
    ∙ sym (put_at old pairs front rest pair w ∙ ap (λ b. (old ++ front) ++ cond b rest (pair ∷ rest)) (ap (λ k. begins_at k rest) (sym same) ∙ absent)))

-- what was walked over stands below each key that the pair does
pub below_there : (old pairs front rest all : List Pair) (pair : Pair) (key : List ℕ) → IsWalked old pairs front rest pair → all ≡ old ++ front → is_below key pair ≡ true → list_all (is_below key) all ≡ true
below_there old pairs front rest all pair key w is_all h =
    ap (λ xs. list_all (is_below key) xs) is_all ∙ all_below_trans key pair (old ++ front) h (all_join (is_below pair.key) old front w.before w.below)

pub below_new : (old pairs front rest moved all : List Pair) (pair copy : Pair) (key : List ℕ) → IsWalked old pairs front rest pair → moved ≡ old ++ front → all ≡ moved ++ copy ∷ [] → copy ≡ pair → is_below key pair ≡ true → list_all (is_below key) all ≡ true
below_new old pairs front rest moved all pair copy key w is_moved is_all is_copy h =
    ap (λ xs. list_all (is_below key) xs) is_all
    ∙ all_join (is_below key) moved (copy ∷ []) (below_there old pairs front rest moved pair key w is_moved h) (and_both (is_below key copy) true (ap (is_below key) is_copy ∙ h) refl)

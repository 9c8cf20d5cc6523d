-- Lists of pieces, and each element of them against each later one.
use Rattle.std.proofs.Common.{suc, List, [], ◌∷◌, ◌++◌, map, get_or, All, AllPairs, flat_map, arith}
use Rattle.std.proofs.lemmas.List.Elements.{All-append, All-cons, All-head, All-map, All-nil, All-tail}
use Rattle.std.proofs.lemmas.List.Kept.{AllPairs-cons}
use Rattle.tk_admit.proofs.Parts.{all_back, all_front}

-- ---- the first element against the later ones, and those among themselves
pairs_none : {X : Type 0} (R : X → X → Type 0) → AllPairs R []
pairs_none R i j d less within = absurd (omega arith)

pairs_head : {X : Type 0} (R : X → X → Type 0) (x : X) (xs : List X) → AllPairs R (x ∷ xs) → All (R x) xs
pairs_head R x xs pairs k d within = pairs 0 (suc k) d (omega arith) (omega arith)

pairs_tail : {X : Type 0} (R : X → X → Type 0) (x : X) (xs : List X) → AllPairs R (x ∷ xs) → AllPairs R xs
pairs_tail R x xs pairs i j d less within = pairs (suc i) (suc j) d (omega arith) (omega arith)

-- each element of one list against each of the other
abbrev pub AllAcross : {X : Type 0} → (X → X → Type 0) → List X → List X → Type 0
AllAcross R xs ys = All (λ x. All (R x) ys) xs

-- ---- pairs of two lists, one behind the other
pairs_append : {X : Type 0} (R : X → X → Type 0) (xs ys : List X) → AllPairs R xs → AllPairs R ys → AllAcross R xs ys → AllPairs R (xs ++ ys)
pairs_append R [] ys front back across = back
pairs_append R (x ∷ xs) ys front back across =
    AllPairs-cons R x (xs ++ ys)
    (All-append (R x) xs ys (pairs_head R x xs front) (All-head (λ z. All (R z) ys) x xs across))
    (pairs_append R xs ys (pairs_tail R x xs front) back (All-tail (λ z. All (R z) ys) x xs across))

pairs_across : {X : Type 0} (R : X → X → Type 0) (xs ys : List X) → AllPairs R (xs ++ ys) → AllAcross R xs ys
pairs_across R [] ys pairs = All-nil (λ z. All (R z) ys)
pairs_across R (x ∷ xs) ys pairs =
    All-cons (λ z. All (R z) ys) x xs
    (all_back (R x) xs ys (pairs_head R x (xs ++ ys) pairs))
    (pairs_across R xs ys (pairs_tail R x (xs ++ ys) pairs))

pairs_back : {X : Type 0} (R : X → X → Type 0) (xs ys : List X) → AllPairs R (xs ++ ys) → AllPairs R ys
pairs_back R [] ys pairs = pairs
pairs_back R (x ∷ xs) ys pairs = pairs_back R xs ys (pairs_tail R x (xs ++ ys) pairs)

-- ---- pieces one behind the other
pub all_pieces : {X Y : Type 0} (P : X → Type 0) (f : Y → List X) (ys : List Y) → All P (flat_map f ys) → All (λ y. All P (f y)) ys
all_pieces P f [] all = All-nil (λ y. All P (f y))
all_pieces P f (y ∷ ys) all =
    All-cons (λ z. All P (f z)) y ys (all_front P (f y) (flat_map f ys) all)
    (all_pieces P f ys (all_back P (f y) (flat_map f ys) all))

all_joined : {X Y : Type 0} (P : X → Type 0) (f : Y → List X) (ys : List Y) → All (λ y. All P (f y)) ys → All P (flat_map f ys)
all_joined P f [] all = All-nil P
all_joined P f (y ∷ ys) all =
    All-append P (f y) (flat_map f ys) (All-head (λ z. All P (f z)) y ys all)
    (all_joined P f ys (All-tail (λ z. All P (f z)) y ys all))

-- each element of a piece against each of all later pieces
across_joined : {X Y : Type 0} (R : X → X → Type 0) (f : Y → List X) (xs : List X) (ys : List Y) → All (λ y. AllAcross R xs (f y)) ys → AllAcross R xs (flat_map f ys)
across_joined R f xs ys all k d within = all_joined (R (get_or xs k d)) f ys (λ i e inside. all i e inside k d within)

across_pieces : {X Y : Type 0} (R : X → X → Type 0) (f : Y → List X) (xs : List X) (ys : List Y) → AllAcross R xs (flat_map f ys) → All (λ y. AllAcross R xs (f y)) ys
across_pieces R f xs ys all i e inside k d within = all_pieces (R (get_or xs k d)) f ys (all k d within) i e inside

pub pairs_joined : {X Y : Type 0} (R : X → X → Type 0) (f : Y → List X) (ys : List Y) → All (λ y. AllPairs R (f y)) ys → AllPairs (λ y z. AllAcross R (f y) (f z)) ys → AllPairs R (flat_map f ys)
pairs_joined R f [] each pairs = pairs_none R
pairs_joined R f (y ∷ ys) each pairs =
    pairs_append R (f y) (flat_map f ys)
    (All-head (λ z. AllPairs R (f z)) y ys each)
    (pairs_joined R f ys (All-tail (λ z. AllPairs R (f z)) y ys each) (pairs_tail (λ a b. AllAcross R (f a) (f b)) y ys pairs))
    (across_joined R f (f y) ys (pairs_head (λ a b. AllAcross R (f a) (f b)) y ys pairs))

pub pairs_pieces : {X Y : Type 0} (R : X → X → Type 0) (f : Y → List X) (ys : List Y) → AllPairs R (flat_map f ys) → AllPairs (λ y z. AllAcross R (f y) (f z)) ys
pairs_pieces R f [] pairs = pairs_none (λ a b. AllAcross R (f a) (f b))
pairs_pieces R f (y ∷ ys) pairs =
    AllPairs-cons (λ a b. AllAcross R (f a) (f b)) y ys
    (across_pieces R f (f y) ys (pairs_across R (f y) (flat_map f ys) pairs))
    (pairs_pieces R f ys (pairs_back R (f y) (flat_map f ys) pairs))

pub pairs_mapped : {X Y : Type 0} (R : X → X → Type 0) (f : Y → X) (ys : List Y) → AllPairs (λ a b. R (f a) (f b)) ys → AllPairs R (map f ys)
pairs_mapped R f [] pairs = pairs_none R
pairs_mapped R f (y ∷ ys) pairs =
    AllPairs-cons R (f y) (map f ys)
    (All-map (R (f y)) f ys (pairs_head (λ a b. R (f a) (f b)) y ys pairs))
    (pairs_mapped R f ys (pairs_tail (λ a b. R (f a) (f b)) y ys pairs))

-- Tasks beside their bodies.
use Rattle.std.proofs.Common.{◌≡◌, ◌<◌, List, [], ◌∷◌, ◌++◌, length, take, get_or, All, sym, ap, ◌∙◌}
use Rattle.std.specs.List.{zip}
use Rattle.std.proofs.lemmas.List.{length_push, take_more}
use Rattle.std.proofs.lemmas.List.Elements.{All-cons, All-head, All-nil, All-tail}

-- what holds of all on one side
pub all_firsts : {X Y : Type 0} (P : X → Type 0) (xs : List X) (ys : List Y) → All P xs → All (λ (t : X × Y). P t.0) (zip xs ys)
all_firsts {X} {Y} P [] ys all = All-nil (λ (t : X × Y). P t.0)
all_firsts {X} {Y} P (x ∷ xs) [] all = All-nil (λ (t : X × Y). P t.0)
all_firsts {X} {Y} P (x ∷ xs) (y ∷ ys) all = All-cons (λ (t : X × Y). P t.0) (x, y) (zip xs ys) (All-head P x xs all) (all_firsts P xs ys (All-tail P x xs all))

pub all_seconds : {X Y : Type 0} (P : Y → Type 0) (xs : List X) (ys : List Y) → All P ys → All (λ (t : X × Y). P t.1) (zip xs ys)
all_seconds {X} {Y} P [] ys all = All-nil (λ (t : X × Y). P t.1)
all_seconds {X} {Y} P (x ∷ xs) [] all = All-nil (λ (t : X × Y). P t.1)
all_seconds {X} {Y} P (x ∷ xs) (y ∷ ys) all = All-cons (λ (t : X × Y). P t.1) (x, y) (zip xs ys) (All-head P y ys all) (all_seconds P xs ys (All-tail P y ys all))

-- one more
pub taken_more : {A B : Type 0} (zs : List B) (xs : List A) (x : A) (z : B) (made new : List B) → length xs < length zs → z ≡ get_or zs (length xs) z → made ≡ take (length xs) zs → new ≡ made ++ z ∷ [] → new ≡ take (length (xs ++ x ∷ [])) zs
taken_more zs xs x z made new lt is before now =
    now ∙ (ap (λ l. l ++ z ∷ []) before ∙ (ap (λ y. take (length xs) zs ++ y ∷ []) is ∙ (sym (take_more zs (length xs) z lt) ∙ ap (λ n. take n zs) (sym (length_push xs x)))))

-- The walk, exit by exit.
use Rattle.std.proofs.Common.{◌≡◌, ℕ, zero, suc, ◌+◌, ◌<◌, ◌≤◌, Bool, true, false, cond, List, [], ◌∷◌, ◌++◌, length, get_or, set, take, drop, Some, None, refl, sym, ap, subst, ◌∙◌, arith}
use Rattle.std.specs.Prelude.{Option, IsSome, is_none, ◌==◌}
use Rattle.std.proofs.lemmas.List.{drop_more, get_or-take, get_or_append_left, length-append, length-take-le, drop_all, take_more_set}
use Rattle.std.proofs.lemmas.Bool.Decides.{nat_tests}
use Rattle.tk_pod.specs.declared.walk.Walked.{Walked}
use Rattle.tk_pod.specs.declared.walk.Walked.TheVariants.{Well, Broke}
use Rattle.tk_pod.specs.Walk.{broken, broken_from, passes_at, next_step, IsWalk, Walk}

-- the exit at a step comes first in what is left
left_at : (keep step exit : ℕ) (exits : List ℕ) → step < length exits → exit ≡ get_or exits step 0
    → broken_from keep 0 exits ≡ broken_from keep step (drop step exits)
    → broken_from keep 0 exits ≡ cond (passes_at keep step exit) (broken_from keep (step + 1) (drop (step + 1) exits)) (Some (Broke step exit))
left_at keep step exit exits lt is so_far =
    so_far ∙ ap (broken_from keep step) (drop_more exits step 0 lt ∙ ap (λ (e : ℕ). e ∷ drop (step + 1) exits) (sym is))

-- an exit that doesn't pass is the first
broken_here : (keep step exit : ℕ) (exits : List ℕ) → step < length exits → exit ≡ get_or exits step 0 → passes_at keep step exit ≡ false
    → broken_from keep 0 exits ≡ broken_from keep step (drop step exits) → Some (Broke step exit) ≡ broken_from keep 0 exits
broken_here keep step exit exits lt is fails so_far =
    sym (left_at keep step exit exits lt is so_far
    ∙ ap (λ (b : Bool). cond b (broken_from keep (step + 1) (drop (step + 1) exits)) (Some (Broke step exit))) fails)

-- one that passes_at leads on
broken_later : (keep step exit : ℕ) (exits : List ℕ) → step < length exits → exit ≡ get_or exits step 0 → passes_at keep step exit ≡ true
    → broken_from keep 0 exits ≡ broken_from keep step (drop step exits) → broken_from keep 0 exits ≡ broken_from keep (step + 1) (drop (step + 1) exits)
broken_later keep step exit exits lt is good so_far =
    left_at keep step exit exits lt is so_far
    ∙ ap (λ (b : Bool). cond b (broken_from keep (step + 1) (drop (step + 1) exits)) (Some (Broke step exit))) good

-- a walk whose exits are the first of some
abbrev walk_of : ℕ → ℕ → ℕ → List ℕ → Walk
walk_of steps keep count exits = record { steps = steps; keep_going = keep; exits = take count exits }

abbrev SoFar : Walk → ℕ → Type 0
SoFar walk step = broken_from walk.keep_going 0 walk.exits ≡ broken_from walk.keep_going step (drop step walk.exits)

-- there is room for 32 exits
pub fits : (count : ℕ) (exits : List ℕ) → length exits ≡ 32 → count ≤ 32 → count ≤ length exits
fits count exits room most = subst (λ (k : ℕ). count ≤ k) (sym room) most

pub here : (walk : Walk) (steps keep count step : ℕ) (exits : List ℕ) (good : Bool) → walk ≡ walk_of steps keep count exits → count ≤ length exits → step < count
    → good ≡ passes_at keep step (get_or exits step 0) → good ≡ false → SoFar walk step → Some (Broke step (get_or exits step 0)) ≡ broken walk
here walk steps keep count step exits good is few lt told fails so_far =
    let inside : step < length (take count exits) = subst (λ (k : ℕ). step < k) (sym (length-take-le count exits few)) lt in
    let so : SoFar (walk_of steps keep count exits) step = subst (λ (w : Walk). SoFar w step) is so_far in
    broken_here keep step (get_or exits step 0) (take count exits) inside (sym (get_or-take count exits step 0 lt)) (sym told ∙ fails) so
    ∙ ap broken (sym is)

pub later : (walk : Walk) (steps keep count step : ℕ) (exits : List ℕ) (good : Bool) → walk ≡ walk_of steps keep count exits → count ≤ length exits → step < count
    → good ≡ passes_at keep step (get_or exits step 0) → good ≡ true → SoFar walk step → SoFar walk (step + 1)
later walk steps keep count step exits good is few lt told passed so_far =
    let inside : step < length (take count exits) = subst (λ (k : ℕ). step < k) (sym (length-take-le count exits few)) lt in
    let so : SoFar (walk_of steps keep count exits) step = subst (λ (w : Walk). SoFar w step) is so_far in
    subst (λ (w : Walk). SoFar w (step + 1)) (sym is)
    (broken_later keep step (get_or exits step 0) (take count exits) inside (sym (get_or-take count exits step 0 lt)) (sym told ∙ passed) so)

pub at_end : (walk : Walk) (steps keep count step : ℕ) (exits : List ℕ) → walk ≡ walk_of steps keep count exits → count ≤ length exits → count ≤ step → SoFar walk step
    → (let none : Option Walked = None in none) ≡ broken walk
at_end walk steps keep count step exits is few le so_far =
    let so : SoFar (walk_of steps keep count exits) step = subst (λ (w : Walk). SoFar w step) is so_far in
    let over : drop step (take count exits) ≡ [] = drop_all step (take count exits) (subst (λ (k : ℕ). k ≤ step) (sym (length-take-le count exits few)) le) in
    sym (ap broken is ∙ (so ∙ ap (broken_from keep step) over))

some_not_none : (w : Walked) → Some w ≡ None → ⊥
some_not_none w e = cc

-- where none is broken, each passes
if_passes : (keep start exit : ℕ) (exits : List ℕ) (b : Bool) → passes_at keep start exit ≡ b
    → cond b (broken_from keep (start + 1) exits) (Some (Broke start exit)) ≡ None → (b ≡ true) × (broken_from keep (start + 1) exits ≡ None)
if_passes keep start exit exits true e none = (refl, none)
if_passes keep start exit exits false e none = absurd (some_not_none (Broke start exit) none)

pub all_pass : (keep start : ℕ) (exits : List ℕ) (i : ℕ) → broken_from keep start exits ≡ None → i < length exits → passes_at keep (start + i) (get_or exits i 0) ≡ true
all_pass keep start [] i none lt = absurd (omega arith)
all_pass keep start (exit ∷ exits) zero none lt =
    let on : start + zero ≡ start = omega arith in
    ap (λ (k : ℕ). passes_at keep k exit) on ∙ (if_passes keep start exit exits (passes_at keep start exit) refl none).0
all_pass keep start (exit ∷ exits) (suc i) none lt =
    let on : start + suc i ≡ start + 1 + i = omega arith in
    ap (λ (k : ℕ). passes_at keep k (get_or exits i 0)) on ∙ all_pass keep (start + 1) exits i (if_passes keep start exit exits (passes_at keep start exit) refl none).1 (omega arith)

-- a walk that has a next step: no exit is broken, and there are fewer exits than steps
open_by : (walk : Walk) (o : Option Walked) (full : Bool) → broken walk ≡ o → (length walk.exits == walk.steps) ≡ full
    → IsSome (cond (is_none (elim o [ Some w ↦ Some w | None ↦ cond full (Some Well) None ])) (Some (length walk.exits)) None) → (broken walk ≡ None) × ((length walk.exits == walk.steps) ≡ false)
open_by walk (Some w) full e f some = cc
open_by walk None true e f some = cc
open_by walk None false e f some = (e, f)

pub open_walk : (walk : Walk) → IsSome (next_step walk) → (broken walk ≡ None) × ((length walk.exits == walk.steps) ≡ false)
open_walk walk some = open_by walk (broken walk) (length walk.exits == walk.steps) refl refl some

-- with one exit more it is a walk
pub ended_is : (walk : Walk) (steps keep count exit : ℕ) (exits : List ℕ) → walk ≡ walk_of steps keep count exits → length exits ≡ 32
    → IsWalk (walk_of steps keep count exits) → count ≤ 32 → IsSome (next_step walk)
    → IsWalk (walk_of steps keep (count + 1) (set exits count exit)) × (count + 1 ≤ 32)
ended_is walk steps keep count exit exits is room was most some =
    let open_now : (broken (walk_of steps keep count exits) ≡ None) × ((length (take count exits) == steps) ≡ false)
    = open_walk (walk_of steps keep count exits) (subst (λ (w : Walk). IsSome (next_step w)) is some) in
    let within : count ≤ length exits = fits count exits room most in
    let so_many : length (take count exits) ≡ count = length-take-le count exits within in
    let others : (length (take count exits) == steps) ≡ false = open_now.1 in
    let few : length (take count exits) ≤ steps = was.few in
    let top : steps ≤ 32 = was.most in
    let fewer : count < steps = grind (arith, nat_tests) in
    let below : count < length exits = omega (arith, room, fewer, top) in
    let grown : take (count + 1) (set exits count exit) ≡ take count exits ++ exit ∷ [] = take_more_set exits count exit below in
    let longer : length (take (count + 1) (set exits count exit)) ≡ count + 1 = ap length grown ∙ (length-append (take count exits) (exit ∷ []) ∙ ap (λ (k : ℕ). k + 1) so_many) in (
      record {
        least = was.least;
        most = was.most;
        few = omega (arith, longer, fewer);
        before_last = λ step lt.
            let early : step < length (take count exits) = omega (arith, longer, so_many, lt) in
            let same : get_or (take (count + 1) (set exits count exit)) step 0 ≡ get_or (take count exits) step 0
            = ap (λ (es : List ℕ). get_or es step 0) grown ∙ get_or_append_left (take count exits) (exit ∷ []) 0 step early in
            ap (passes_at keep step) same ∙ (ap (λ (k : ℕ). passes_at keep k (get_or (take count exits) step 0)) (omega arith) ∙ all_pass keep 0 (take count exits) step open_now.0 early);
      },
      omega (arith, fewer, top),
    )

-- and its exits are those before with this one
pub ended_exits : (walk : Walk) (steps keep count exit : ℕ) (exits : List ℕ) → walk ≡ walk_of steps keep count exits → length exits ≡ 32
    → IsWalk (walk_of steps keep (count + 1) (set exits count exit)) × (count + 1 ≤ 32)
    → walk_of steps keep (count + 1) (set exits count exit) ≡ record { steps = walk.steps; keep_going = walk.keep_going; exits = walk.exits ++ exit ∷ [] }
ended_exits walk steps keep count exit exits is room now =
    let most : count + 1 ≤ 32 = now.1 in
    let below : count < length exits = omega (arith, room, most) in
    (λ i. record { steps = steps; keep_going = keep; exits = take_more_set exits count exit below i })
    ∙ sym (ap (λ (w : Walk). record { steps = w.steps; keep_going = w.keep_going; exits = w.exits ++ exit ∷ [] }) is)

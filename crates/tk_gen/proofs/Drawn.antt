-- What is drawn for each task.
use Rattle.std.proofs.Common.{◌≡◌, ℕ, zero, suc, ◌<◌, Bool, true, false, Some, None, if◌then◌else◌, map, ◌∷◌, refl, ap, arith, add-one}
use Rattle.std.specs.List.{AllByRecursion, range_with_len}
use Rattle.std.specs.Option.{ForSome}
use Rattle.tk_gen.specs.declared.task.DrawnTask.{DrawnTask}
use Rattle.tk_gen.specs.Generate.{drawn, follows, one_of, state_behind, task_of, tasks_from}

-- a draw is below its count
below : (count state : ℕ) → 0 < count → one_of count state < count
unfolding one_of
below count state some = omega arith

-- what may be chosen is below a bound
chosen : (b : Bool) (n bound : ℕ) → n < bound → ForSome (if b then Some n else None) (λ x. x < bound)
chosen true n bound h = λ x is. grind (arith, h)
chosen false n bound h = λ x is. cc

-- a task follows an earlier one, if any
earlier : (place state : ℕ) → ForSome (task_of place state).parent (λ parent. parent < place)
earlier zero state = λ x is. cc
earlier (suc place) state = chosen (follows (suc place) state) (drawn 3 (suc place) state) (suc place) (below (suc place) _ (omega arith))

pub all_earlier : (count place state : ℕ) → AllByRecursion (λ (t : DrawnTask). ForSome t.parent (λ parent. parent < t.place)) (tasks_from count place state)
all_earlier zero place state = tt
all_earlier (suc count) place state = (earlier place state, all_earlier count (suc place) (state_behind place state))

pub all_retries : (count place state : ℕ) → AllByRecursion (λ (t : DrawnTask). t.retries < 3) (tasks_from count place state)
all_retries zero place state = tt
all_retries (suc count) place state = (below 3 _ (omega arith), all_retries count (suc place) (state_behind place state))

pub all_places : (count place state : ℕ) → map (λ (t : DrawnTask). t.place) (tasks_from count place state) ≡ range_with_len place count
all_places zero place state = refl
all_places (suc count) place state = rw (add-one place) (ap (λ places. place ∷ places) (all_places count (suc place) (state_behind place state)))

-- The first child without a TaskRun is found among those that have none.
use Rattle.std.proofs.Common.{◌≡◌, List, [], ◌∷◌, Option, None, Some, true, false, refl, ap, sym, ◌∙◌}
use Rattle.std.specs.Prelude.{filter}
use Rattle.tk_types.specs.declared.run.Child.{Child}
use Rattle.tk_journal.specs.declared.object.RunState.{RunState}
use Rattle.tk_journal.specs.declared.object.TaskRunState.{TaskRunState}
use Rattle.tk_journal.specs.History.{View}
use Rattle.tk_run_cache.specs.Labelled.{is_missing, missing_in}
use Rattle.tk_runrec.specs.declared.found.Found.{Found}
use Rattle.tk_runrec.specs.Choice.{child_name, missing, seen_children}
use Rattle.tk_runrec.specs.Found.{first_found, sooner}

-- one child more, by the TaskRun at its name
one_more : (view : View) (run : RunState) (best : Option Found) (x : Child) (xs : List Child)
    → ((b : Option Found) → first_found (missing view run) b (filter (is_missing view run) xs) ≡ first_found (missing view run) b xs)
    → (o : Option TaskRunState) → view.task_run (child_name run x) ≡ o
    → first_found (missing view run) best (filter (is_missing view run) (x ∷ xs)) ≡ first_found (missing view run) best (x ∷ xs)
one_more view run best x xs rest None at =
    let hit : is_missing view run x ≡ true = rw at refl in
    let kept : filter (is_missing view run) (x ∷ xs) ≡ x ∷ filter (is_missing view run) xs = rw hit refl in
    ap (first_found (missing view run) best) kept ∙ rest (sooner best (missing view run x))
one_more view run best x xs rest (Some task_run) at =
    let miss : is_missing view run x ≡ false = rw at refl in
    let kept : filter (is_missing view run) (x ∷ xs) ≡ filter (is_missing view run) xs = rw miss refl in
    let none : missing view run x ≡ None = rw at refl in
    ap (first_found (missing view run) best) kept ∙ (rest best ∙ ap (λ (o : Option Found). first_found (missing view run) (sooner best o) xs) (sym none))

among : (view : View) (run : RunState) (best : Option Found) (xs : List Child) → first_found (missing view run) best (filter (is_missing view run) xs) ≡ first_found (missing view run) best xs
among view run best [] = refl
among view run best (x ∷ xs) = one_more view run best x xs (λ b. among view run b xs) (view.task_run (child_name run x)) refl

pub first_among : (view : View) (run : RunState) → first_found (missing view run) None (missing_in view run) ≡ first_found (missing view run) None (seen_children view run)
first_among view run = among view run None (seen_children view run)

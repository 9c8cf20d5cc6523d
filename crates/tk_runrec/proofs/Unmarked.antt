-- A run without stops cancels nothing.
use Rattle.std.proofs.Common.{◌≡◌, ℕ, List, [], ◌∷◌, Option, Some, None, Bool, true, false, refl, ap}
use Rattle.std.specs.Prelude.{is_none, not, option_map, ◌&&◌, if◌then◌else◌}
use Rattle.tk_journal.specs.declared.object.RunState.{RunState}
use Rattle.tk_journal.specs.declared.object.TaskRunState.{TaskRunState}
use Rattle.tk_journal.specs.declared.act.Act.TheVariants as acts
use Rattle.tk_journal.specs.History.{View}
use Rattle.tk_cache.specs.Children.{children_of}
use Rattle.tk_runrec.specs.declared.found.Found.{Found}
use Rattle.tk_runrec.specs.Tests.{is_reached}
use Rattle.tk_runrec.specs.Found.{first_found}
use Rattle.tk_runrec.specs.Choice.{unmarked, cancel}

nothing_if : (b c d : Bool) (found : Found) → d ≡ false → (if b && c && d then Some found else None) ≡ None
nothing_if true true d found is = rw is refl
nothing_if true false d found is = refl
nothing_if false c d found is = refl

none_unmarked : (name : List ℕ) (run : RunState) (o : Option TaskRunState) → run.stops ≡ [] → unmarked name run o ≡ None
none_unmarked name run None none = refl
none_unmarked name run (Some task_run) none =
    let not_reached : is_reached run task_run.task ≡ false = rw none refl in
    nothing_if (is_none task_run.closed) (not task_run.marked) (is_reached run task_run.task) _ not_reached

none_found : (finds : List ℕ → Option Found) (names : List (List ℕ)) → ((name : List ℕ) → finds name ≡ None) → first_found finds None names ≡ None
none_found finds [] none = refl
none_found finds (name ∷ names) none = rw (none name) (none_found finds names none)

pub nothing_to_cancel : (view : View) (name : List ℕ) (run : RunState) → run.stops ≡ [] → cancel view name run ≡ None
nothing_to_cancel view name run none =
    ap (option_map (λ (found : Found). acts.CancelTaskRun found.name))
    (none_found (λ (child : List ℕ). unmarked child run (view.task_run child)) (children_of view name) (λ child. none_unmarked child run (view.task_run child) none))

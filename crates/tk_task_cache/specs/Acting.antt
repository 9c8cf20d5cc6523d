-- Which TaskRuns may give rise to an act.
use Rattle.std.specs.Prelude.{◌≡◌, ◌≤◌, ℕ, suc, List, [], ◌∷◌, length, Bool, false, not, ◌&&◌, Option, Some, None, is_none, if◌then◌else◌}
use Rattle.tk_names.specs.Children.{most_attempts, pod_name}
use Rattle.tk_journal.specs.declared.object.Attempt.{Attempt}
use Rattle.tk_journal.specs.declared.object.PodState.{PodState}
use Rattle.tk_journal.specs.declared.object.TaskRunState.{TaskRunState}
use Rattle.tk_journal.specs.History.{View}
use Rattle.tk_places.specs.Places.{AreMarked, IsPlaceOf, IsSet}

-- the place of the first open attempt, counted on from `place`
abbrev pub open_from : ℕ → List Attempt → Option ℕ
open_from place [] = None
open_from place (attempt ∷ attempts) = if is_none attempt.outcome then Some place else open_from (suc place) attempts

-- the pod is there and hasn't ended
abbrev pub is_awaited : Option PodState → Bool
is_awaited None = false
is_awaited (Some pod) = is_none pod.ended

-- the open attempt has such a pod
abbrev pub waits_open : View → List ℕ → Option ℕ → Bool
waits_open view name None = false
waits_open view name (Some place) = is_awaited (view.pod (pod_name name (suc place)))

abbrev pub waits : View → List ℕ → TaskRunState → Bool
waits view name task_run = waits_open view name (open_from 0 task_run.attempts)

abbrev pub may_act_at : View → List ℕ → Option TaskRunState → Bool
may_act_at view name None = false
may_act_at view name (Some task_run) = is_none task_run.closed && not (waits view name task_run)

-- the TaskRun of this name isn't closed and waits for no pod
abbrev pub may_act : View → List ℕ → Bool
may_act view name = may_act_at view name (view.task_run name)

-- the places of all that may act are marked
abbrev pub AreQueued : View → List ℕ → Type 0
AreQueued view places = AreMarked (may_act view) view.task_runs places

-- the TaskRun of a name is judged anew, if it is there
abbrev pub SetAt : View → List ℕ → Option ℕ → List ℕ → List ℕ → Type 0
SetAt view name None old new = new ≡ old
SetAt view name (Some place) old new = IsSet place (may_act view name) old new

abbrev pub IsJudged : View → List ℕ → List ℕ → List ℕ → Type 0
IsJudged view name old new = (at : Option ℕ) × IsPlaceOf view.task_runs name at × SetAt view name at old new

-- no TaskRun has more attempts than are allowed
abbrev pub AreFew : View → Type 0
AreFew view = (name : List ℕ) (task_run : TaskRunState) → view.task_run name ≡ Some task_run → length task_run.attempts ≤ most_attempts

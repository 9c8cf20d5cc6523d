-- Which runs can still get an entry.
use Rattle.std.specs.Prelude.{◌≡◌, ℕ, List, Bool, true, false, not, ◌&&◌, ◌||◌, Option, Some, None, is_none}
use Rattle.std.specs.List.{list_any}
use Rattle.tk_types.specs.Lists.{is_empty}
use Rattle.tk_journal.specs.declared.object.RunState.{RunState}
use Rattle.tk_journal.specs.declared.object.TaskRunState.{TaskRunState}
use Rattle.tk_journal.specs.History.{View}
use Rattle.tk_places.specs.Places.{AreMarked, IsPlaceOf, IsSet}
use Rattle.tk_cache.specs.Children.{children_of}

-- the TaskRun is there and isn't closed
abbrev pub is_open : Option TaskRunState → Bool
is_open None = false
is_open (Some task_run) = is_none task_run.closed

-- one of the run's TaskRuns is open
abbrev pub has_open : View → List ℕ → Bool
has_open view name = list_any (λ (child : List ℕ). is_open (view.task_run child)) (children_of view name)

abbrev pub may_get_at : View → List ℕ → Option RunState → Bool
may_get_at view name None = false
may_get_at view name (Some run) = is_none run.closed || (not (is_empty run.stops) && has_open view name)

-- the run of this name isn't closed, or has a recorded stop and an open TaskRun
abbrev pub may_get : View → List ℕ → Bool
may_get view name = may_get_at view name (view.run name)

-- the places of all that can get an entry are marked
abbrev pub AreActive : View → List ℕ → Type 0
AreActive view places = AreMarked (may_get view) view.runs places

-- the place is put in where the run of this name can get an entry
pub record IsPut (view : View) (name : List ℕ) (place : ℕ) (old new : List ℕ) : Type 0 where
  pub is_in : Bool
  pub enough : may_get view name ≡ true → is_in ≡ true
  pub set : IsSet place is_in old new

-- the run of a name is judged anew, if it is there
abbrev pub PutAt : View → List ℕ → Option ℕ → List ℕ → List ℕ → Type 0
PutAt view name None old new = new ≡ old
PutAt view name (Some place) old new = IsPut view name place old new

abbrev pub IsJudged : View → List ℕ → List ℕ → List ℕ → Type 0
IsJudged view name old new = (at : Option ℕ) × IsPlaceOf view.runs name at × PutAt view name at old new

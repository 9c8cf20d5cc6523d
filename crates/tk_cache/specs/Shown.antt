-- What a cache holds of each kind, against a history.
use Rattle.std.specs.Prelude.{◌≡◌, ℕ, List, Option}
use Rattle.std.specs.declared.string.String.{String}
use Rattle.indexmap.specs.IndexMap.{IndexMap}
use Rattle.tk_types.specs.declared.scenario.Kind.{Kind}
use Rattle.tk_types.specs.declared.scenario.Kind.TheVariants as kinds
use Rattle.tk_journal.specs.declared.entry.Entry.{Entry}
use Rattle.tk_journal.specs.declared.object.RunState.{RunState}
use Rattle.tk_journal.specs.declared.object.PodState.{PodState}
use Rattle.tk_journal.specs.History.{run_of, task_run_of, pod_of, version_of, names_of}
use Rattle.tk_journal.specs.declared.object.TaskRunState.{TaskRunState}
use Rattle.tk_cache.specs.declared.objects.Held.{Held}
use Rattle.tk_cache.specs.Objects.{object_at, version_at, names_in}

-- the objects are those of this state
abbrev pub Stand : {A T S : Type 0} → (List ℕ → Option T) → IndexMap (String A) (Held T) S → Type 0
Stand state m = (name : List ℕ) → object_at m name ≡ state name

-- a kind's objects, versions and names are the history's
pub record AreThose {A T S : Type 0} (kind : Kind) (state : List ℕ → Option T) (history : List Entry) (m : IndexMap (String A) (Held T) S) : Type 0 where
  pub objects : Stand state m
  pub versions : (name : List ℕ) → version_at m name ≡ version_of kind name history
  pub names : names_in m ≡ names_of kind history

abbrev pub AreRuns : {A S : Type 0} → List Entry → IndexMap (String A) (Held RunState) S → Type 0
AreRuns history m = AreThose kinds.Runs (run_of history) history m

abbrev pub ArePods : {A S : Type 0} → List Entry → IndexMap (String A) (Held PodState) S → Type 0
ArePods history m = AreThose kinds.Pods (pod_of history) history m

abbrev pub AreTaskRuns : {A S : Type 0} → List Entry → IndexMap (String A) (Held TaskRunState) S → Type 0
AreTaskRuns history m = AreThose kinds.TaskRuns (task_run_of history) history m

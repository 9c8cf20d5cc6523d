-- What an entry leaves of the objects of its kind.
use Rattle.std.specs.Prelude.{◌≡◌, ℕ, List, [], ◌∷◌, ◌++◌, Option, bytes_eq, if◌then◌else◌}
use Rattle.std.specs.declared.string.String.{String}
use Rattle.indexmap.specs.IndexMap.{IndexMap}
use Rattle.tk_types.specs.declared.scenario.Kind.{Kind}
use Rattle.tk_journal.specs.declared.act.Act.{Act}
use Rattle.tk_journal.specs.declared.entry.Entry.{Entry}
use Rattle.tk_journal.specs.declared.object.RunState.{RunState}
use Rattle.tk_journal.specs.declared.object.TaskRunState.{TaskRunState}
use Rattle.tk_journal.specs.declared.object.PodState.{PodState}
use Rattle.tk_journal.specs.Effects.{name_of, run_made, run_after, task_run_made, task_run_after, pod_made, pod_after}
use Rattle.tk_journal.specs.History.{creates}
use Rattle.tk_cache.specs.declared.objects.Held.{Held}
use Rattle.tk_cache.specs.Objects.{held_at, held_after}

-- what is held where an entry at a position writes one object; a TaskRun is made beside these runs

abbrev pub AreRunsAfter : {A S : Type 0} → Entry → ℕ → IndexMap (String A) (Held RunState) S → IndexMap (String A) (Held RunState) S → Type 0
AreRunsAfter e position m n = (name : List ℕ) → held_at n name ≡ (if bytes_eq (name_of e.act) name then held_after position (run_after e.moment e.act) (run_made e.act) (held_at m name) else held_at m name)

abbrev pub AreTaskRunsAfter : {A S : Type 0} → (List ℕ → Option RunState) → Entry → ℕ → IndexMap (String A) (Held TaskRunState) S → IndexMap (String A) (Held TaskRunState) S → Type 0
AreTaskRunsAfter runs e position m n = (name : List ℕ) → held_at n name ≡ (if bytes_eq (name_of e.act) name then held_after position (task_run_after e.moment e.act) (task_run_made runs e.act) (held_at m name) else held_at m name)

abbrev pub ArePodsAfter : {A S : Type 0} → Entry → ℕ → IndexMap (String A) (Held PodState) S → IndexMap (String A) (Held PodState) S → Type 0
ArePodsAfter e position m n = (name : List ℕ) → held_at n name ≡ (if bytes_eq (name_of e.act) name then held_after position (pod_after e.actor e.act) (pod_made e.act) (held_at m name) else held_at m name)

-- the names once it is written
abbrev pub names_after : Kind → Act → List (List ℕ) → List (List ℕ)
names_after kind act names = if creates kind act then names ++ name_of act ∷ [] else names

-- What a contract sees of a cache.
use Rattle.std.specs.Prelude.{ℕ, List, map, Option, option_map, bytes_eq, string_bytes}
use Rattle.std.specs.Option.{option_map_or}
use Rattle.std.specs.Map.{keys_of, lookup}
use Rattle.std.specs.declared.string.String.{String}
use Rattle.indexmap.specs.IndexMap.{IndexMap}
use Rattle.tk_types.specs.declared.scenario.Kind.{Kind}
use Rattle.tk_types.specs.declared.scenario.Kind.TheVariants as kinds
use Rattle.tk_journal.specs.declared.entry.Fronts.{Fronts}
use Rattle.tk_journal.specs.declared.object.RunState.{RunState}
use Rattle.tk_journal.specs.declared.object.TaskRunState.{TaskRunState}
use Rattle.tk_journal.specs.declared.object.PodState.{PodState}
use Rattle.tk_journal.specs.History.{View}
use Rattle.tk_cache.specs.declared.objects.Held.{Held}

-- Objects with their names and versions, in order of creation.
abbrev pub Named : Type 0 → Type 0
Named T = List (List ℕ × (T × ℕ))

-- The fronts of a cache, its objects, and beside them the runs as they stand at the front of TaskRuns, from which a child takes
-- what its run has.
pub record Kept : Type 0 where
  pub fronts : Fronts
  pub runs : Named RunState
  pub beside : Named RunState
  pub task_runs : Named TaskRunState
  pub pods : Named PodState

-- The same as functions of names.
pub record Seen : Type 0 where
  pub fronts : Fronts
  pub view : View
  pub versions : Kind → List ℕ → ℕ
  pub beside : List ℕ → Option RunState

abbrev pub object_in : {T : Type 0} → Named T → List ℕ → Option T
object_in {T} objects name = option_map (λ (p : T × ℕ). p.0) (lookup (bytes_eq name) objects)

-- an object's version, or 0
abbrev pub version_in : {T : Type 0} → Named T → List ℕ → ℕ
version_in {T} objects name = option_map_or (λ (p : T × ℕ). p.1) (lookup (bytes_eq name) objects) 0

abbrev pub versions_in : Kept → Kind → List ℕ → ℕ
versions_in kept kinds.Runs name = version_in kept.runs name
versions_in kept kinds.TaskRuns name = version_in kept.task_runs name
versions_in kept kinds.Pods name = version_in kept.pods name

abbrev pub seen : Kept → Seen
seen kept = record {
  fronts = kept.fronts;
  view = record {
    run = object_in kept.runs;
    task_run = object_in kept.task_runs;
    pod = object_in kept.pods;
    runs = keys_of kept.runs;
    task_runs = keys_of kept.task_runs;
    pods = keys_of kept.pods;
  };
  versions = versions_in kept;
  beside = object_in kept.beside;
}

-- the objects of a map, with the bytes of their names
abbrev pub named : {A T S : Type 0} → IndexMap (String A) (Held T) S → Named T
named {A} {T} m = map (λ (e : String A × Held T). (string_bytes e.0, (e.1.object, e.1.version))) m.entries

-- what is kept in these maps
abbrev pub kept_of : {A S : Type 0} → Fronts → IndexMap (String A) (Held RunState) S → IndexMap (String A) (Held RunState) S → IndexMap (String A) (Held TaskRunState) S → IndexMap (String A) (Held PodState) S → Kept
kept_of fronts runs beside task_runs pods = record { fronts = fronts; runs = named runs; beside = named beside; task_runs = named task_runs; pods = named pods }

-- The names that the TaskRuns of an input may have (Tekton, PipelineRuns, Monitoring execution status).
use Rattle.std.specs.Prelude.{ℕ, List, map, flat_map, option_map, slice_index_or}
use Rattle.tk_types.specs.declared.fault.Fault.{Fault}
use Rattle.tk_types.specs.Fault.{name_clash}
use Rattle.tk_types.specs.Place.{Place, root}
use Rattle.tk_types.specs.First.{Finding}
use Rattle.tk_names.specs.Clash.{clash}
use Rattle.tk_journal.specs.Names.{task_run_names}
use Rattle.tk_admit.specs.declared.taken.Taken.{Taken}

-- all of them, and the place of the object of each
abbrev pub all_names : List Taken → List (List ℕ)
all_names runs = flat_map (λ (run : Taken). task_run_names run.spec) runs

abbrev pub owners : List Taken → List Place
owners runs = flat_map (λ (run : Taken). map (λ (name : List ℕ). run.place) (task_run_names run.spec)) runs

-- the first name that stood before: the place of its object, and that of the object that had it before
abbrev pub clash_of : List Place → ℕ × ℕ → Fault
clash_of places (earlier, later) = name_clash (slice_index_or places later root) (slice_index_or places earlier root)

abbrev pub names_finding : List Taken → Finding
names_finding runs = option_map (clash_of (owners runs)) (clash (all_names runs))

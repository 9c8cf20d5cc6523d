-- The runs of an input with all that they refer to, and the entries that admit them.
use Rattle.std.specs.Prelude.{ℕ, Bool, false, if◌then◌else◌, List, [], ◌∷◌, ◌++◌, filter_map, Option, Some, None, option_map}
use Rattle.tk_types.specs.declared.object.Asked.{Asked}
use Rattle.tk_types.specs.declared.object.Asked.TheVariants.{TaskRunCancelled}
use Rattle.tk_types.specs.declared.object.Item.{Item}
use Rattle.tk_types.specs.declared.object.ItemObject.{ItemObject}
use Rattle.tk_types.specs.declared.object.ItemObject.TheVariants.{TaskRun, PipelineRun}
use Rattle.tk_journal.specs.declared.act.Admission.{Admission}
use Rattle.tk_journal.specs.declared.act.Admission.TheVariants.{Run, Task}
use Rattle.tk_journal.specs.declared.act.Act.TheVariants.{Admit}
use Rattle.tk_journal.specs.declared.entry.Actor.TheVariants.{Admission as ByAdmission}
use Rattle.tk_journal.specs.declared.entry.Entry.{Entry}
use Rattle.tk_resolve.specs.Run.{resolved_run}
use Rattle.tk_resolve.specs.TaskRun.{resolved_task_run}
use Rattle.tk_admit.specs.declared.taken.Taken.{Taken}

-- each element behind those that stand before it
abbrev pub behind : {X : Type 0} → List X → List X → List (List X × X)
behind earlier [] = []
behind earlier (x ∷ xs) = (earlier, x) ∷ behind (earlier ++ x ∷ []) xs

abbrev pub with_earlier : {X : Type 0} → List X → List (List X × X)
with_earlier xs = behind [] xs

-- a run with all that it refers to among the objects before it
abbrev pub resolved : List Item → ItemObject → Option Admission
resolved earlier (PipelineRun run) = Some (Run (resolved_run earlier run))
resolved earlier (TaskRun run) = Some (Task (resolved_task_run earlier run))
resolved earlier _ = None

-- whether a run waits for its start, and what is asked of it from the start
abbrev pub is_pending : ItemObject → Bool
is_pending (PipelineRun run) = run.pending
is_pending _ = false

abbrev pub asked_of : ItemObject → Option Asked
asked_of (PipelineRun run) = run.status
asked_of (TaskRun run) = if run.cancelled then Some TaskRunCancelled else None
asked_of _ = None

-- an object as a run that is taken in, if it is one
abbrev pub taken_of : List Item × Item → Option Taken
taken_of (earlier, item) =
    option_map (λ (spec : Admission). record { place = item.place; pending = is_pending item.object; asked = asked_of item.object; spec = spec }) (resolved earlier item.object)

abbrev pub taken : List Item → List Taken
taken items = filter_map taken_of (with_earlier items)

-- the name of a run
abbrev pub run_name : Admission → List ℕ
run_name (Run spec) = spec.name
run_name (Task spec) = spec.name

-- the entry by which a run is taken in: admission has seen nothing of the journal
abbrev pub entry_of : List ℕ → Taken → Entry
entry_of root run =
    record {
      actor = ByAdmission;
      fronts = record { runs = 0; task_runs = 0; pods = 0 };
      moment = 0;
      act = Admit (run_name run.spec) run.spec run.pending run.asked root;
    }

-- Small runs, from which examples are made.
use Rattle.std.specs.Prelude.{ℕ, List, [], ◌∷◌, ◌++◌, Some, None, true, false, codes}
use Rattle.tk_types.specs.declared.value.Param.{Param}
use Rattle.tk_types.specs.declared.value.Value.TheVariants.{Str}
use Rattle.tk_types.specs.declared.run.Child.{Child}
use Rattle.tk_types.specs.declared.run.Facts.{Facts}
use Rattle.tk_types.specs.declared.run.Outcome.TheVariants.{Succeeded}
use Rattle.tk_types.specs.declared.run.RunSpec.{RunSpec}
use Rattle.tk_types.specs.declared.run.Start.TheVariants.{Ready as Startable}
use Rattle.tk_types.specs.declared.run.Stop.{Stop}
use Rattle.tk_types.specs.declared.task.Step.{Step}
use Rattle.tk_types.specs.declared.task.TaskBody.{TaskBody}
use Rattle.tk_types.specs.declared.task.TaskSpec.{TaskSpec}
use Rattle.tk_types.specs.declared.task.TaskSource.TheVariants.{Named}
use Rattle.tk_types.specs.declared.task.PipelineTask.{PipelineTask}

-- a body that runs `true`, for each task
abbrev pub body : TaskBody
body =
    let step : Step = record { name = None; command = codes "true" ∷ []; args = []; script = None; env = []; dir = None; keep_going = false } in
    let spec : TaskSpec = record { params = []; steps = step ∷ []; results = []; spaces = [] } in
    record { spec = spec; task_name = []; outer = []; fallback = []; bound = [] }

abbrev pub bodies : List PipelineTask → List TaskBody
bodies [] = []
bodies (task ∷ tasks) = body ∷ bodies tasks

-- a task of a name, with parameters, behind others
abbrev pub task : List ℕ → List Param → List (List ℕ) → PipelineTask
task name params run_after =
    record { name = name; source = Named []; params = params; matrix = None; run_after = run_after; when = []; retries = 0; timeout = 0; ignore_failure = false; spaces = [] }

-- the same behind a guard that is false
abbrev pub guarded : PipelineTask → PipelineTask
guarded t = record t { when = record { input = codes "x"; is_member = true; values = [] } ∷ [] }

abbrev pub run : List PipelineTask → List PipelineTask → List Stop → List Child → Facts
run tasks finally stops children =
    let spec : RunSpec = record {
      name = codes "r";
      pipeline = codes "p";
      params = [];
      tasks = tasks;
      finally = finally;
      bodies = bodies (tasks ++ finally);
      results = [];
      pipeline_ms = 3600000;
      tasks_ms = 0;
      finally_ms = 0;
      start = Startable;
    } in
    record { spec = spec; stops = stops; children = children }

-- the first child of a task, that runs, and that ended with a result `x`
abbrev pub runs : ℕ → Child
runs place = record { task = place; index = 0; outcome = None }

abbrev pub ended : ℕ → List ℕ → Child
ended place text = record { task = place; index = 0; outcome = Some (Succeeded (record { name = codes "x"; value = Str text } ∷ [])) }

-- a parameter `v` with a text
abbrev pub with_text : List ℕ → List Param
with_text text = record { name = codes "v"; value = Str text } ∷ []

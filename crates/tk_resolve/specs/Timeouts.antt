-- The timeouts that hold, in milliseconds, where 0 is none (Tekton, PipelineRuns, Configuring a failure timeout).
use Rattle.std.specs.Prelude.{ℕ, ◌-◌, Option, option_map, unwrap_or}
use Rattle.std.specs.Option.{option_or}
use Rattle.tk_types.specs.declared.object.Given3.{Given3}

abbrev pub one_hour : ℕ
one_hour = 3600000

-- the timeout of a whole run
abbrev pub pipeline_ms : Given3 → ℕ
pipeline_ms given = unwrap_or given.pipeline one_hour

-- what one part leaves to the other of a pipeline timeout that is written; nothing where that is none
abbrev pub left_ms : Given3 → ℕ → ℕ
left_ms given part = unwrap_or given.pipeline 0 - part

-- a part that isn't written is what the other one, where it is written, leaves
abbrev pub part_ms : Given3 → Option ℕ → Option ℕ → ℕ
part_ms given part other = unwrap_or (option_or part (option_map (left_ms given) other)) 0

abbrev pub tasks_ms : Given3 → ℕ
tasks_ms given = part_ms given given.tasks given.finally

abbrev pub finally_ms : Given3 → ℕ
finally_ms given = part_ms given given.finally given.tasks

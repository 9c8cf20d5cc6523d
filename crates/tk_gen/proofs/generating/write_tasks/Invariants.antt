use Rattle.std.proofs.Common.{◌≡◌, ◌++◌, ◌-◌}
use Rattle.std.specs.Prelude.{flat_map, string_bytes}
use Rattle.tk_gen.specs.Generate.{tasks_from, tasks_text}
use Rattle.tk_gen.proofs.Joined.{placed_text}
use Rattle.tk_gen.proofs.generating.write_tasks.Given as goal

-- what is written, and the tasks that are left, are all
abbrev pub invariant-loop-place : goal.invariant-loop-place
invariant-loop-place l =
    string_bytes l.text ++ flat_map placed_text (tasks_from (l.size - l.place) l.place l.draws.state)
    ≡ string_bytes l.fn.text ++ tasks_text (tasks_from l.size 0 l.fn.draws.state)

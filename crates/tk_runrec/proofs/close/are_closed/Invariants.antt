use Rattle.std.proofs.Common.{◌≡◌, drop}
use Rattle.std.specs.List.{list_all}
use Rattle.tk_types.specs.declared.run.Child.{Child}
use Rattle.tk_cache.specs.Views.{seen}
use Rattle.tk_runrec.specs.Choice.{all_closed, child_name}
use Rattle.tk_runrec.specs.Tests.{is_closed}
use Rattle.tk_runrec.proofs.close.are_closed.Given as goal

-- all are closed exactly where those are that are left
abbrev pub invariant-loop-child : goal.invariant-loop-child
invariant-loop-child l =
    let view = (seen l.fn.cache).view in
    all_closed view l.fn.run ≡ list_all (λ (child : Child). is_closed (view.task_run (child_name l.fn.run child))) (drop l.child-index l.fn.children)

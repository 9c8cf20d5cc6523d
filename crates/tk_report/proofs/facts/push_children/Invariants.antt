use Rattle.std.proofs.Common.{◌≡◌, ◌++◌, drop}
use Rattle.tk_journal.specs.History.{children_from}
use Rattle.tk_cache.specs.Views.{seen}
use Rattle.tk_report.specs.Objects.{outcome_at}
use Rattle.tk_report.proofs.facts.push_children.Given as goal

-- the children so far, and those that are left
abbrev pub invariant-loop-index : goal.invariant-loop-index
invariant-loop-index l =
    l.children.items ++ children_from (outcome_at (seen l.objects).view l.run l.part.task) l.part.task l.index (drop l.index l.part.bindings) ≡ l.fn.children.items ++ children_from (outcome_at (seen l.objects).view l.run l.part.task) l.part.task 0 l.part.bindings

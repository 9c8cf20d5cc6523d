use Rattle.std.proofs.Common.{◌≡◌, ◌++◌, drop}
use Rattle.tk_journal.specs.History.{children_in}
use Rattle.tk_cache.specs.Views.{seen}
use Rattle.tk_report.specs.Objects.{outcome_at}
use Rattle.tk_report.proofs.facts.children_of.Given as goal

-- the children so far, and those of the tasks that are left
abbrev pub invariant-loop-part : goal.invariant-loop-part
invariant-loop-part l =
    l.children.items ++ children_in (outcome_at (seen l.objects).view l.run) (drop l.part-index l.run.scheduled) ≡ children_in (outcome_at (seen l.objects).view l.run) l.run.scheduled

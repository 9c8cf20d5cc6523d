use Rattle.std.proofs.Common.{ap, ◌∙◌}
use Rattle.tk_types.specs.declared.scenario.Kind.TheVariants as kinds
use Rattle.tk_journal.specs.History.{front_of}
use Rattle.tk_cache.specs.Views.{seen}
use Rattle.tk_pod_cache.proofs.Listed.{same_marked}
use Rattle.tk_pod_cache.proofs.advance.list_others.Goals as goal

pub returns-clause-marked : goal.returns-clause-marked
returns-clause-marked c =
    same_marked c.fronts_decide.ensures (seen c.args.cache.now) (seen c.relist.new.self) c.args.journal.now.history c.requires.shows c.in_ok-relist.ensures.shows
    (ap (front_of kinds.Pods) c.in_ok-relist.ensures.fronts ∙ c.requires.other) c.args.marks.now c.requires.marked

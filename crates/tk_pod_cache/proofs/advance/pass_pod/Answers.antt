use Rattle.std.proofs.Common.{ℕ, List, subst}
use Rattle.tk_cache.specs.Views.{seen}
use Rattle.tk_pod_cache.specs.Marks.{IsJudged, held_in, unclaimed_in}
use Rattle.tk_pod_cache.proofs.Judged.{passed_marked}
use Rattle.tk_pod_cache.proofs.advance.pass_pod.Goals as goal

pub returns-clause-marked : goal.returns-clause-marked
returns-clause-marked c =
    passed_marked c.one_passes.ensures (seen c.args.cache.now) (seen c.relist.new.self) c.args.journal.now.history c.args.place c.entry.result.now
    c.requires.shows c.in_ok-relist.ensures.shows c.requires.at c.entry.ensures c.in_ok-relist.ensures.fronts c.args.marks.now c.judge.new.marks c.requires.marked
    (subst (λ (name : List ℕ). IsJudged (unclaimed_in (seen c.relist.new.self).view) (seen c.relist.new.self).view.pods name c.args.marks.now.unclaimed c.judge.new.marks.unclaimed) c.name.ensures c.in_ok-judge.ensures.unclaimed)
    (subst (λ (name : List ℕ). IsJudged (held_in (seen c.relist.new.self).view) (seen c.relist.new.self).view.pods name c.args.marks.now.held c.judge.new.marks.held) c.name.ensures c.in_ok-judge.ensures.held)

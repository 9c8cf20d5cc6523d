use Rattle.std.proofs.Common.{ℕ, List, subst}
use Rattle.std.proofs.lemmas.Result.{on_ok_weaker}
use Rattle.tk_cache.specs.Views.{seen}
use Rattle.tk_run_cache.specs.Active.{IsJudged}
use Rattle.tk_run_cache.proofs.Marked.{run_active}
use Rattle.tk_run_cache.proofs.marking.pass_run.Goals as goal

pub returns-clause-active : goal.returns-clause-active
returns-clause-active c =
    on_ok_weaker c.judge.result
    (λ judged. run_active c.args.cache.now c.relist.new.self c.args.journal.now.history c.requires.shows c.in_ok-relist.ensures.shows c.args.active.now c.requires.active
    c.args.place c.entry-entry.result.now c.entry-entry.ensures c.requires.at c.in_ok-relist.ensures.fronts c.judge.new.active
    (subst (λ (n : List ℕ). IsJudged (seen c.relist.new.self).view n c.args.active.now c.judge.new.active) c.name.ensures judged))
    c.judge.ensures

use Rattle.std.proofs.Common.{◌≡◌, ℕ, List, Some, None, sym, ap, subst, ◌∙◌}
use Rattle.std.specs.Option.{option_copied}
use Rattle.std.proofs.lemmas.Result.{on_ok_weaker}
use Rattle.tk_journal.specs.Effects.{name_of}
use Rattle.tk_cache.specs.Views.{Kept, seen}
use Rattle.tk_run_cache.specs.Active.{IsJudged}
use Rattle.tk_run_cache.proofs.Marked.{no_task_run_active, standalone_active, task_run_active}
use Rattle.tk_run_cache.proofs.marking.pass_task_run.Goals as goal

pub returns-in_default-clause-active : goal.returns-in_default-clause-active
returns-in_default-clause-active c =
    let gone : (seen c.relist.new.self).view.task_run (name_of c.entry-entry.result.now.act) ≡ None =
    subst (λ (n : List ℕ). (seen c.relist.new.self).view.task_run n ≡ None) c.name.ensures
    (subst (λ (k : Kept). (seen k).view.task_run c.name.result.now ≡ None) c.cache.ensures (sym c.in_default.ensures)) in
    no_task_run_active c.args.cache.now c.relist.new.self c.args.journal.now.history c.requires.shows c.in_ok-relist.ensures.shows c.args.active.now c.requires.active
    c.args.place c.entry-entry.result.now c.entry-entry.ensures c.requires.at c.in_ok-relist.ensures.fronts gone

pub returns-in_default-run-clause-active : goal.returns-in_default-run-clause-active
returns-in_default-run-clause-active c =
    let there : (seen c.relist.new.self).view.task_run (name_of c.entry-entry.result.now.act) ≡ Some c.in-Some.task_run.now =
    subst (λ (n : List ℕ). (seen c.relist.new.self).view.task_run n ≡ Some c.in-Some.task_run.now) c.name.ensures
    (subst (λ (k : Kept). (seen k).view.task_run c.name.result.now ≡ Some c.in-Some.task_run.now) c.cache.ensures (sym c.task_run.ensures ∙ ap option_copied c.in-Some.is)) in
    standalone_active c.args.cache.now c.relist.new.self c.args.journal.now.history c.requires.shows c.in_ok-relist.ensures.shows c.args.active.now c.requires.active
    c.args.place c.entry-entry.result.now c.entry-entry.ensures c.requires.at c.in_ok-relist.ensures.fronts c.in-Some.task_run.now there c.in_default-run.is

pub returns-clause-active : goal.returns-clause-active
returns-clause-active c =
    let there : (seen c.relist.new.self).view.task_run (name_of c.entry-entry.result.now.act) ≡ Some c.in-Some.task_run.now =
    subst (λ (n : List ℕ). (seen c.relist.new.self).view.task_run n ≡ Some c.in-Some.task_run.now) c.name.ensures
    (subst (λ (k : Kept). (seen k).view.task_run c.name.result.now ≡ Some c.in-Some.task_run.now) c.cache.ensures (sym c.task_run.ensures ∙ ap option_copied c.in-Some.is)) in
    on_ok_weaker c.judge_by.result
    (λ judged. task_run_active c.args.cache.now c.relist.new.self c.args.journal.now.history c.requires.shows c.in_ok-relist.ensures.shows c.args.active.now c.requires.active
    c.args.place c.entry-entry.result.now c.entry-entry.ensures c.requires.at c.in_ok-relist.ensures.fronts c.in-Some.task_run.now there c.in-Some-run.run' c.in-Some-run.is c.judge_by.new.active
    (subst (λ (n : List ℕ). IsJudged (seen c.relist.new.self).view n c.args.active.now c.judge_by.new.active) c.as_str.ensures judged))
    c.judge_by.ensures

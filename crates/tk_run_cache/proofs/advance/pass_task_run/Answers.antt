use Rattle.std.proofs.Common.{rules, ◌≡◌, ℕ, List, Some, None, true, false, sym, subst, ◌∙◌}
use Rattle.std.specs.Prelude.{◌&&◌, is_none}
use Rattle.tk_types.specs.declared.scenario.Kind.TheVariants as kinds
use Rattle.tk_journal.specs.Effects.{name_of, kind_of, same_kind}
use Rattle.tk_journal.specs.History.{outcome_of}
use Rattle.tk_cache.specs.Views.{seen}
use Rattle.tk_run_cache.proofs.Passed.{passed_other, passed_absent, passed_task_run, may_pass_task_run}
use Rattle.tk_run_cache.proofs.advance.pass_task_run.Goals as goal

pub returns-then-not-could_end-clause-labelled : goal.returns-then-not-could_end-clause-labelled
returns-then-not-could_end-clause-labelled c =
    let stays : (same_kind kinds.TaskRuns (kind_of c.entry-entry.result.now.act) && is_none (outcome_of ((seen c.args.cache.now).view.task_run (name_of c.entry-entry.result.now.act)))) ≡ false
    = sym c.may_end-could_end.ensures ∙ search rules in
    passed_other (seen c.args.cache.now) (seen c.relist.new.self) c.args.journal.now.history c.requires.legal c.args.place c.entry-entry.result.now c.entry-entry.ensures
    c.requires.shows c.in_ok-relist.ensures.shows c.args.runs.now c.requires.labelled c.requires.at c.in_ok-relist.ensures.fronts stays

pub returns-in_default-clause-labelled : goal.returns-in_default-clause-labelled
returns-in_default-clause-labelled c =
    let gone : (seen c.relist.new.self).view.task_run c.name.result.now ≡ None = search rules in
    passed_absent (seen c.args.cache.now) (seen c.relist.new.self) c.args.journal.now.history c.requires.legal c.args.place c.entry-entry.result.now c.entry-entry.ensures
    c.requires.shows c.in_ok-relist.ensures.shows c.args.runs.now c.requires.labelled c.requires.at c.in_ok-relist.ensures.fronts
    (subst (λ (n : List ℕ). (seen c.relist.new.self).view.task_run n ≡ None) c.name.ensures gone)

pub follow_task_run-requires : goal.follow_task_run-requires
follow_task_run-requires c =
    let may : (same_kind kinds.TaskRuns (kind_of c.entry-entry.result.now.act) && is_none (outcome_of ((seen c.args.cache.now).view.task_run (name_of c.entry-entry.result.now.act)))) ≡ true
    = sym c.may_end-could_end.ensures ∙ search rules in
    let there : (seen c.relist.new.self).view.task_run c.name.result.now ≡ Some c.in-Some.task_run.now = search rules in
    record {
      may = may_pass_task_run (seen c.args.cache.now) (seen c.relist.new.self) c.args.journal.now.history c.requires.legal c.args.place c.entry-entry.result.now c.entry-entry.ensures
          c.requires.shows c.in_ok-relist.ensures.shows c.args.runs.now c.requires.labelled c.requires.at c.in_ok-relist.ensures.fronts may c.in-Some.task_run.now
          (subst (λ (n : List ℕ). (seen c.relist.new.self).view.task_run n ≡ Some c.in-Some.task_run.now) c.name.ensures there);
    }

pub returns-clause-labelled : goal.returns-clause-labelled
returns-clause-labelled c =
    let may : (same_kind kinds.TaskRuns (kind_of c.entry-entry.result.now.act) && is_none (outcome_of ((seen c.args.cache.now).view.task_run (name_of c.entry-entry.result.now.act)))) ≡ true
    = sym c.may_end-could_end.ensures ∙ search rules in
    let there : (seen c.relist.new.self).view.task_run c.name.result.now ≡ Some c.in-Some.task_run.now = search rules in
    passed_task_run (seen c.args.cache.now) (seen c.relist.new.self) c.args.journal.now.history c.requires.legal c.args.place c.entry-entry.result.now c.entry-entry.ensures
    c.requires.shows c.in_ok-relist.ensures.shows c.args.runs.now c.requires.labelled c.requires.at c.in_ok-relist.ensures.fronts may c.in-Some.task_run.now
    (subst (λ (n : List ℕ). (seen c.relist.new.self).view.task_run n ≡ Some c.in-Some.task_run.now) c.name.ensures there) c.follow_task_run.new.runs c.in_ok-follow_task_run.ensures.ends c.in_ok-follow_task_run.ensures.names

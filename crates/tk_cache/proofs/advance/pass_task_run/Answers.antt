use Rattle.std.proofs.Common.{rules, ◌≡◌, false, sym}
use Rattle.tk_types.specs.declared.scenario.Kind.TheVariants as kinds
use Rattle.tk_journal.specs.Effects.{kind_of, same_kind}
use Rattle.tk_cache.proofs.Children.{task_runs_on, task_runs_ready, task_runs_moved}
use Rattle.tk_cache.proofs.advance.pass_task_run.Goals as goal

pub write_task_run-requires-clause-fits : goal.write_task_run-requires-clause-fits
write_task_run-requires-clause-fits c =
    task_runs_ready c.args.place c.entry-entry.result.now c.args.journal.now.history c.entry-entry.ensures c.requires.legal c.requires.within c.args.runs.now c.requires.runs c.args.task_runs.now (sym c.if-not-is_of.ensures) c.requires.shows

pub returns-then-not-is_of-clause-shows : goal.returns-then-not-is_of-clause-shows
returns-then-not-is_of-clause-shows c =
    let other : same_kind kinds.TaskRuns (kind_of c.entry-entry.result.now.act) ≡ false = search rules in
    task_runs_on c.args.place c.entry-entry.result.now c.args.journal.now.history c.entry-entry.ensures c.requires.legal c.requires.within c.args.task_runs.now other c.requires.shows

pub returns-clause-shows : goal.returns-clause-shows
returns-clause-shows c =
    task_runs_moved c.args.place c.entry-entry.result.now c.args.journal.now.history c.entry-entry.ensures c.requires.legal c.requires.within c.args.runs.now c.requires.runs c.args.task_runs.now c.write_task_run.new.task_runs (sym c.if-not-is_of.ensures)
    c.in_ok-write_task_run.ensures.at c.in_ok-write_task_run.ensures.names c.requires.shows

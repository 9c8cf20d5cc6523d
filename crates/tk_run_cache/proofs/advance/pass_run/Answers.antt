use Rattle.tk_cache.specs.Views.{seen}
use Rattle.tk_run_cache.proofs.Passed.{may_pass_run, passed_run}
use Rattle.tk_run_cache.proofs.advance.pass_run.Goals as goal

pub follow_run-requires : goal.follow_run-requires
follow_run-requires c = record {
  may = may_pass_run (seen c.args.cache.now) (seen c.relist.new.self) c.args.journal.now.history c.requires.legal c.args.place c.entry-entry.result.now c.entry-entry.ensures
      c.requires.shows c.in_ok-relist.ensures.shows c.args.runs.now c.requires.labelled c.requires.at;
}

pub returns-clause-labelled : goal.returns-clause-labelled
returns-clause-labelled c =
    passed_run (seen c.args.cache.now) (seen c.relist.new.self) c.args.journal.now.history c.requires.legal c.args.place c.entry-entry.result.now c.entry-entry.ensures
    c.requires.shows c.in_ok-relist.ensures.shows c.args.runs.now c.requires.labelled c.requires.at c.in_ok-relist.ensures.fronts c.follow_run.new.runs c.in_ok-follow_run.ensures.changes c.in_ok-follow_run.ensures.names

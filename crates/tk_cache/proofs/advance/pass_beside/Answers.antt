use Rattle.std.proofs.Common.{rules, ◌≡◌, false, sym}
use Rattle.tk_types.specs.declared.scenario.Kind.TheVariants as kinds
use Rattle.tk_journal.specs.Effects.{kind_of, same_kind}
use Rattle.tk_cache.proofs.Passing.{beside_on, beside_ready, beside_moved}
use Rattle.tk_cache.proofs.advance.pass_beside.Goals as goal

pub write_run-requires-clause-fits : goal.write_run-requires-clause-fits
write_run-requires-clause-fits c =
    beside_ready c.args.place c.entry-entry.result.now c.args.journal.now.history c.entry-entry.ensures c.requires.legal c.requires.within c.args.runs.now (sym c.if-not-is_of.ensures) c.requires.stand

pub returns-then-not-is_of : goal.returns-then-not-is_of
returns-then-not-is_of c =
    let other : same_kind kinds.Runs (kind_of c.entry-entry.result.now.act) ≡ false = search rules in
    beside_on c.args.place c.entry-entry.result.now c.args.journal.now.history c.entry-entry.ensures c.requires.legal c.requires.within c.args.runs.now other c.requires.stand

pub returns : goal.returns
returns c =
    beside_moved c.args.place c.entry-entry.result.now c.args.journal.now.history c.entry-entry.ensures c.requires.legal c.requires.within c.args.runs.now c.write_run.new.runs (sym c.if-not-is_of.ensures)
    c.in_ok-write_run.ensures.at c.requires.stand

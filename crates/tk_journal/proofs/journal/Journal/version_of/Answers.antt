use Rattle.std.proofs.Common.{ap, sym, List}
use Rattle.tk_journal.specs.declared.entry.Entry.{Entry}
use Rattle.tk_journal.specs.History.{version_of}
use Rattle.tk_journal.proofs.Positions.{past_none}
use Rattle.tk_journal.proofs.journal.Journal.version_of.Goals as goal

pub loop-place-init : goal.loop-place-init
loop-place-init c = sym (ap (λ (h : List Entry). version_of c.args.kind c.args.name.now h) (past_none c.args.self.now.history))

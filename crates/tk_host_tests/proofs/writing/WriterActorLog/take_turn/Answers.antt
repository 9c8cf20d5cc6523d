use Rattle.std.proofs.Common.{◌+◌, refl, arith}
use Rattle.tk_host_tests.proofs.Adding.{none_added, one_added, one_written}
use Rattle.tk_host_tests.proofs.writing.WriterActorLog.take_turn.Goals as goal

pub returns-then-self-clause-adds : goal.returns-then-self-clause-adds
returns-then-self-clause-adds c = none_added c.args.self.now.number c.args.state.now.entries.items c.args.state.now.entries.items refl

pub returns-then-not-add-clause-adds : goal.returns-then-not-add-clause-adds
returns-then-not-add-clause-adds c = none_added c.args.self.now.number c.args.state.now.entries.items c.add.new.self.entries.items c.if-not-add.ensures

pub returns-clause-adds : goal.returns-clause-adds
returns-clause-adds c = one_added c.args.self.now.number c.args.self.now.written c.args.state.now.entries.items c.add.new.self.entries.items c.if-not-add.ensures

pub returns-clause-follows : goal.returns-clause-follows
returns-clause-follows c start is = one_written c.args.self.now.number c.args.self.now.written (c.args.self.now.written + 1) c.args.state.now.entries.items c.add.new.self.entries.items (omega arith) c.if-not-add.ensures is

use Rattle.tk_host_tests.proofs.Adding.{none_added, one_added}
use Rattle.tk_host_tests.proofs.meeting.GuestActorLog.take_turn.Goals as goal

pub returns-then-not-add-clause-adds : goal.returns-then-not-add-clause-adds
returns-then-not-add-clause-adds c = none_added c.args.self.now.number c.args.state.now.entries.items c.add.new.self.entries.items c.if-not-add.ensures

pub returns-clause-adds : goal.returns-clause-adds
returns-clause-adds c = one_added c.args.self.now.number 0 c.args.state.now.entries.items c.add.new.self.entries.items c.if-not-add.ensures

-- The entrypoint's turn by its answer.
use Rattle.std.proofs.Common.{true}
use Rattle.tk_entry.specs.declared.entry.Turn.TheVariants as turns
use Rattle.tk_entry.specs.Entry.{seen_of}
use Rattle.tk_enter.specs.Enter.{moment}
use Rattle.tk_enter.proofs.Going.{begins, broke, fault_left, faulted, given, memory_left, passed, runs, turn_changes, waits}
use Rattle.tk_enter.proofs.Settled.{broke_settled, ends_settled, fault_settled, missed_settled}
use Rattle.tk_enter.proofs.entering.turn.Goals as goal

pub returns-in-Ok-Waits-clause-gives : goal.returns-in-Ok-Waits-clause-gives
returns-in-Ok-Waits-clause-gives g c order gone first going =
    let now = moment (g.H.Host.told c.args.host.now) (g.H.Host.files c.args.host.now) (g.H.Host.killed c.args.host.now) (g.H.Host.faults c.args.host.now) in
    waits c.args.words.now order c.args.entry.now c.turn.new.self first now
    (g.H.Host.told c.turn.new.host) (g.H.Host.files c.turn.new.host) (g.H.Host.killed c.turn.new.host) (g.H.Host.faults c.turn.new.host)
    going c.turn.ensures.killed c.turn.ensures.others
    (given c.args.entry.now c.turn.new.self (seen_of (g.H.Host.told c.args.host.now) (g.H.Host.told c.turn.new.host) (g.H.Host.faults c.args.host.now) (g.H.Host.faults c.turn.new.host)) (g.H.Host.files c.args.host.now) c.in-Ok-Waits.field-0 turns.Waits c.in-Ok-Waits.field-0-is c.in-Ok-Waits.ensures.turn)

pub returns-in-Ok-Runs-clause-gives : goal.returns-in-Ok-Runs-clause-gives
returns-in-Ok-Runs-clause-gives g c order gone first going =
    let now = moment (g.H.Host.told c.args.host.now) (g.H.Host.files c.args.host.now) (g.H.Host.killed c.args.host.now) (g.H.Host.faults c.args.host.now) in
    runs c.args.words.now order c.args.entry.now c.turn.new.self first now
    (g.H.Host.told c.turn.new.host) (g.H.Host.files c.turn.new.host) (g.H.Host.killed c.turn.new.host) (g.H.Host.faults c.turn.new.host)
    going c.turn.ensures.killed c.turn.ensures.others
    (given c.args.entry.now c.turn.new.self (seen_of (g.H.Host.told c.args.host.now) (g.H.Host.told c.turn.new.host) (g.H.Host.faults c.args.host.now) (g.H.Host.faults c.turn.new.host)) (g.H.Host.files c.args.host.now) c.in-Ok-Runs.field-0 turns.Runs c.in-Ok-Runs.field-0-is c.in-Ok-Runs.ensures.turn)

pub returns-in-Ok-Started-clause-gives : goal.returns-in-Ok-Started-clause-gives
returns-in-Ok-Started-clause-gives g c order gone first going =
    let now = moment (g.H.Host.told c.args.host.now) (g.H.Host.files c.args.host.now) (g.H.Host.killed c.args.host.now) (g.H.Host.faults c.args.host.now) in
    c.put_began.ensures.gives order gone first
    (begins c.args.words.now order c.args.entry.now c.turn.new.self first now
    (g.H.Host.told c.turn.new.host) (g.H.Host.files c.turn.new.host) (g.H.Host.killed c.turn.new.host) (g.H.Host.faults c.turn.new.host)
    going c.turn.ensures.killed c.turn.ensures.others
    (given c.args.entry.now c.turn.new.self (seen_of (g.H.Host.told c.args.host.now) (g.H.Host.told c.turn.new.host) (g.H.Host.faults c.args.host.now) (g.H.Host.faults c.turn.new.host)) (g.H.Host.files c.args.host.now) c.in-Ok-Started.field-0 turns.Started c.in-Ok-Started.field-0-is c.in-Ok-Started.ensures.turn))

pub returns-in-Ok-Started-clause-settled : goal.returns-in-Ok-Started-clause-settled
returns-in-Ok-Started-clause-settled g c order first going =
    let now = moment (g.H.Host.told c.args.host.now) (g.H.Host.files c.args.host.now) (g.H.Host.killed c.args.host.now) (g.H.Host.faults c.args.host.now) in
    c.put_began.ensures.settled order first
    (begins c.args.words.now order c.args.entry.now c.turn.new.self first now
    (g.H.Host.told c.turn.new.host) (g.H.Host.files c.turn.new.host) (g.H.Host.killed c.turn.new.host) (g.H.Host.faults c.turn.new.host)
    going c.turn.ensures.killed c.turn.ensures.others
    (given c.args.entry.now c.turn.new.self (seen_of (g.H.Host.told c.args.host.now) (g.H.Host.told c.turn.new.host) (g.H.Host.faults c.args.host.now) (g.H.Host.faults c.turn.new.host)) (g.H.Host.files c.args.host.now) c.in-Ok-Started.field-0 turns.Started c.in-Ok-Started.field-0-is c.in-Ok-Started.ensures.turn))

pub returns-in-Ok-Passed-clause-gives : goal.returns-in-Ok-Passed-clause-gives
returns-in-Ok-Passed-clause-gives g c order gone first going =
    let now = moment (g.H.Host.told c.args.host.now) (g.H.Host.files c.args.host.now) (g.H.Host.killed c.args.host.now) (g.H.Host.faults c.args.host.now) in
    record {
      how = passed c.args.words.now order c.args.entry.now c.turn.new.self first now
          (g.H.Host.told c.turn.new.host) (g.H.Host.files c.turn.new.host) (g.H.Host.killed c.turn.new.host) (g.H.Host.faults c.turn.new.host)
          going (given c.args.entry.now c.turn.new.self (seen_of (g.H.Host.told c.args.host.now) (g.H.Host.told c.turn.new.host) (g.H.Host.faults c.args.host.now) (g.H.Host.faults c.turn.new.host)) (g.H.Host.files c.args.host.now) c.in-Ok-Passed.field-0 turns.Passed c.in-Ok-Passed.field-0-is c.in-Ok-Passed.ensures.turn);
      changed = turn_changes c.args.words.now order c.args.entry.now first now (g.H.Host.files c.turn.new.host) going c.turn.ensures.others;
    }

pub returns-in-Ok-Passed-clause-settled : goal.returns-in-Ok-Passed-clause-settled
returns-in-Ok-Passed-clause-settled g c order first going =
    let now = moment (g.H.Host.told c.args.host.now) (g.H.Host.files c.args.host.now) (g.H.Host.killed c.args.host.now) (g.H.Host.faults c.args.host.now) in
    ends_settled c.args.words.now order true first (moment (g.H.Host.told c.turn.new.host) (g.H.Host.files c.turn.new.host) (g.H.Host.killed c.turn.new.host) (g.H.Host.faults c.turn.new.host)) (g.H.Host.killed c.turn.new.host)
    (passed c.args.words.now order c.args.entry.now c.turn.new.self first now
    (g.H.Host.told c.turn.new.host) (g.H.Host.files c.turn.new.host) (g.H.Host.killed c.turn.new.host) (g.H.Host.faults c.turn.new.host)
    going (given c.args.entry.now c.turn.new.self (seen_of (g.H.Host.told c.args.host.now) (g.H.Host.told c.turn.new.host) (g.H.Host.faults c.args.host.now) (g.H.Host.faults c.turn.new.host)) (g.H.Host.files c.args.host.now) c.in-Ok-Passed.field-0 turns.Passed c.in-Ok-Passed.field-0-is c.in-Ok-Passed.ensures.turn)).0

pub returns-in-Ok-Broke-clause-gives : goal.returns-in-Ok-Broke-clause-gives
returns-in-Ok-Broke-clause-gives g c order gone first going =
    let now = moment (g.H.Host.told c.args.host.now) (g.H.Host.files c.args.host.now) (g.H.Host.killed c.args.host.now) (g.H.Host.faults c.args.host.now) in
    record {
      how = broke c.args.words.now order c.args.entry.now c.turn.new.self first now
          (g.H.Host.told c.turn.new.host) (g.H.Host.files c.turn.new.host) (g.H.Host.killed c.turn.new.host) (g.H.Host.faults c.turn.new.host)
          going (given c.args.entry.now c.turn.new.self (seen_of (g.H.Host.told c.args.host.now) (g.H.Host.told c.turn.new.host) (g.H.Host.faults c.args.host.now) (g.H.Host.faults c.turn.new.host)) (g.H.Host.files c.args.host.now) c.in-Ok-Broke.field-0 turns.Broke c.in-Ok-Broke.field-0-is c.in-Ok-Broke.ensures.turn);
      changed = turn_changes c.args.words.now order c.args.entry.now first now (g.H.Host.files c.turn.new.host) going c.turn.ensures.others;
    }

pub returns-in-Ok-Broke-clause-settled : goal.returns-in-Ok-Broke-clause-settled
returns-in-Ok-Broke-clause-settled g c order first going =
    let now = moment (g.H.Host.told c.args.host.now) (g.H.Host.files c.args.host.now) (g.H.Host.killed c.args.host.now) (g.H.Host.faults c.args.host.now) in
    broke_settled c.args.words.now order first (moment (g.H.Host.told c.turn.new.host) (g.H.Host.files c.turn.new.host) (g.H.Host.killed c.turn.new.host) (g.H.Host.faults c.turn.new.host)) (g.H.Host.killed c.turn.new.host)
    (broke c.args.words.now order c.args.entry.now c.turn.new.self first now
    (g.H.Host.told c.turn.new.host) (g.H.Host.files c.turn.new.host) (g.H.Host.killed c.turn.new.host) (g.H.Host.faults c.turn.new.host)
    going (given c.args.entry.now c.turn.new.self (seen_of (g.H.Host.told c.args.host.now) (g.H.Host.told c.turn.new.host) (g.H.Host.faults c.args.host.now) (g.H.Host.faults c.turn.new.host)) (g.H.Host.files c.args.host.now) c.in-Ok-Broke.field-0 turns.Broke c.in-Ok-Broke.field-0-is c.in-Ok-Broke.ensures.turn)).0

pub returns-in-Ok-HostFault-clause-gives : goal.returns-in-Ok-HostFault-clause-gives
returns-in-Ok-HostFault-clause-gives g c order gone first going =
    let now = moment (g.H.Host.told c.args.host.now) (g.H.Host.files c.args.host.now) (g.H.Host.killed c.args.host.now) (g.H.Host.faults c.args.host.now) in
    fault_left c.args.words.now order gone first (moment (g.H.Host.told c.leave.new.host) (g.H.Host.files c.leave.new.host) (g.H.Host.killed c.leave.new.host) (g.H.Host.faults c.leave.new.host))
    c.leave.result (g.H.Host.files c.turn.new.host) (g.H.Host.faults c.turn.new.host) c.leave.ensures.same c.leave.ensures.count
    (faulted c.args.words.now order c.args.entry.now c.turn.new.self first now (g.H.Host.told c.turn.new.host) (g.H.Host.faults c.turn.new.host) going
    (given c.args.entry.now c.turn.new.self (seen_of (g.H.Host.told c.args.host.now) (g.H.Host.told c.turn.new.host) (g.H.Host.faults c.args.host.now) (g.H.Host.faults c.turn.new.host)) (g.H.Host.files c.args.host.now) c.in-Ok-HostFault.field-0 turns.HostFault c.in-Ok-HostFault.field-0-is c.in-Ok-HostFault.ensures.turn))
    c.leave.ensures.files (turn_changes c.args.words.now order c.args.entry.now first now (g.H.Host.files c.turn.new.host) going c.turn.ensures.others)

pub returns-in-Ok-HostFault-clause-settled : goal.returns-in-Ok-HostFault-clause-settled
returns-in-Ok-HostFault-clause-settled g c order first going =
    let now = moment (g.H.Host.told c.args.host.now) (g.H.Host.files c.args.host.now) (g.H.Host.killed c.args.host.now) (g.H.Host.faults c.args.host.now) in
    fault_settled c.args.words.now order c.args.entry.now c.turn.new.self first now (g.H.Host.told c.turn.new.host) (g.H.Host.told c.leave.new.host) (g.H.Host.faults c.turn.new.host) (g.H.Host.killed c.turn.new.host) (g.H.Host.killed c.leave.new.host) going
    (given c.args.entry.now c.turn.new.self (seen_of (g.H.Host.told c.args.host.now) (g.H.Host.told c.turn.new.host) (g.H.Host.faults c.args.host.now) (g.H.Host.faults c.turn.new.host)) (g.H.Host.files c.args.host.now) c.in-Ok-HostFault.field-0 turns.HostFault c.in-Ok-HostFault.field-0-is c.in-Ok-HostFault.ensures.turn)
    c.leave.ensures.told c.leave.ensures.killed

pub returns-in-Err-clause-gives : goal.returns-in-Err-clause-gives
returns-in-Err-clause-gives g c order gone first going =
    let now = moment (g.H.Host.told c.args.host.now) (g.H.Host.files c.args.host.now) (g.H.Host.killed c.args.host.now) (g.H.Host.faults c.args.host.now) in
    memory_left c.args.words.now order gone first (moment (g.H.Host.told c.leave-in-Err.new.host) (g.H.Host.files c.leave-in-Err.new.host) (g.H.Host.killed c.leave-in-Err.new.host) (g.H.Host.faults c.leave-in-Err.new.host))
    c.leave-in-Err.result (g.H.Host.files c.turn.new.host) c.leave-in-Err.ensures.same c.leave-in-Err.ensures.files
    (turn_changes c.args.words.now order c.args.entry.now first now (g.H.Host.files c.turn.new.host) going c.turn.ensures.others)

pub returns-in-Err-clause-settled : goal.returns-in-Err-clause-settled
returns-in-Err-clause-settled g c order first going =
    let now = moment (g.H.Host.told c.args.host.now) (g.H.Host.files c.args.host.now) (g.H.Host.killed c.args.host.now) (g.H.Host.faults c.args.host.now) in
    missed_settled c.args.words.now order c.args.entry.now c.turn.new.self first now (g.H.Host.told c.turn.new.host) (g.H.Host.told c.leave-in-Err.new.host) (g.H.Host.killed c.turn.new.host) (g.H.Host.killed c.leave-in-Err.new.host) going
    c.in-Err.ensures.memory.missed c.leave-in-Err.ensures.told c.leave-in-Err.ensures.killed

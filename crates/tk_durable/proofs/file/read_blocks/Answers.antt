use Rattle.std.proofs.Common.{◌+◌, drop, inr, subst}
use Rattle.tk_payload.specs.Fits.{IsEntry}
use Rattle.tk_durable.specs.Damage.{IsBroken, IsEntryAt, IsWholeAt}
use Rattle.tk_durable.specs.Journal.{HasLength}
use Rattle.tk_durable.proofs.Journals.{All-push, broken_at, closed_at, step, step_at}
use Rattle.tk_durable.proofs.file.read_blocks.Goals as goal

pub loop-gate-preserved : goal.loop-gate-preserved
loop-gate-preserved c =
    let file = c.args.bytes.now in
    let gate = c.loop-gate.gate in
    let inv = c.loop-gate.invariant in
    let entries = c.loop-gate.entries.items in
    let found = c.in-Some.found in
    let whole : IsWholeAt file gate found.0 found.1 = subst (IsEntryAt file gate) c.in-Some.is c.in_ok-found.ensures in
    rw c.in_ok-push.ensures.items (record {
      read = step entries file gate found.1 found.0 inv.read inv.within c.loop-gate-test.true whole;
      within = whole.within;
      at = step_at entries found.0 gate found.1 inv.at whole.at;
      each = All-push IsEntry entries found.0 inv.each whole.is_entry;
      lengths = All-push HasLength entries found.0 inv.lengths whole.fits;
    })

pub returns-in_default : goal.returns-in_default
returns-in_default c =
    let file = c.args.bytes.now in
    let gate = c.loop-gate.gate in
    let inv = c.loop-gate.invariant in
    let broken : IsBroken (drop (gate + 1) file) = subst (IsEntryAt file gate) c.in_default.is c.in_ok-found.ensures in
    inr (broken_at c.loop-gate.entries.items file gate inv.read inv.within c.loop-gate-test.true inv.at inv.each inv.lengths broken)

pub returns : goal.returns
returns c =
    let inv = c.loop-gate.invariant in
    rw c.from_vec.ensures (closed_at c.loop-gate.entries.items c.args.bytes.now c.loop-gate.gate inv.read inv.within c.loop-gate-test.false inv.each inv.lengths, inv.at)

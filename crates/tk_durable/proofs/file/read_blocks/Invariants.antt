use Rattle.std.proofs.Common.{◌≡◌, ◌<◌, ◌-◌, ◌++◌, All, length, drop}
use Rattle.tk_payload.specs.Fits.{IsEntry}
use Rattle.tk_durable.specs.Journal.{head, blocks, end_of, HasLength}
use Rattle.tk_durable.proofs.file.read_blocks.Given as goal

abbrev pub invariant-loop-gate : goal.invariant-loop-gate
invariant-loop-gate l = record {
  read : l.bytes ≡ (head ++ blocks l.entries.items) ++ drop l.gate l.bytes;
  within : l.gate < length l.bytes;
  at : l.gate ≡ end_of l.entries.items;
  each : All IsEntry l.entries.items;
  lengths : All HasLength l.entries.items;
}

abbrev pub decreases-loop-gate : goal.decreases-loop-gate
decreases-loop-gate l = length l.bytes - l.gate

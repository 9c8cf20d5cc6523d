use Rattle.std.proofs.Common.{◌≡◌, drop}
use Rattle.std.specs.List.{list_any}
use Rattle.tk_early.specs.Settled.{params_await}
use Rattle.tk_early.proofs.settled.entries_await.Given as goal

-- those that are left decide
abbrev pub invariant-loop-entry : goal.invariant-loop-entry
invariant-loop-entry l = list_any params_await (drop l.entry-index l.entries) ≡ list_any params_await l.entries

use Rattle.std.proofs.Common.{◌≡◌, drop}
use Rattle.std.specs.List.{list_any}
use Rattle.tk_early.specs.Settled.{text_awaits}
use Rattle.tk_early.proofs.settled.texts_await.Given as goal

-- those that are left decide
abbrev pub invariant-loop-text : goal.invariant-loop-text
invariant-loop-text l = list_any text_awaits (drop l.text-index l.texts) ≡ list_any text_awaits l.texts

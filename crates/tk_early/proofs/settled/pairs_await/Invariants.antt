use Rattle.std.proofs.Common.{◌≡◌, drop}
use Rattle.std.specs.List.{list_any}
use Rattle.tk_types.specs.declared.value.Pair.{Pair}
use Rattle.tk_early.specs.Settled.{text_awaits}
use Rattle.tk_early.proofs.settled.pairs_await.Given as goal

-- those that are left decide
abbrev pub invariant-loop-pair : goal.invariant-loop-pair
invariant-loop-pair l = list_any (λ (p : Pair). text_awaits p.value) (drop l.pair-index l.pairs) ≡ list_any (λ (p : Pair). text_awaits p.value) l.pairs

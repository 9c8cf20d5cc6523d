use Rattle.std.proofs.Common.{◌≡◌, ◌-◌}
use Rattle.tk_lives.specs.Taking.{spent_from, spent_node}
use Rattle.tk_lives.proofs.lives.spent_node.Given as goal

abbrev pub invariant-loop-number : goal.invariant-loop-number
invariant-loop-number l = spent_node l.nodes l.journal.history ≡ spent_from l.number (l.nodes - l.number) l.journal.history

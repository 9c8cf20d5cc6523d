use Rattle.std.proofs.Common.{◌≡◌, ◌++◌, map}
use Rattle.std.specs.List.{range_with_len}
use Rattle.tk_labels.specs.Change.{child_at}
use Rattle.tk_labels.proofs.kids.add.Given as goal

-- the children so far stand behind those that were there
abbrev pub invariant-loop-index : goal.invariant-loop-index
invariant-loop-index l = l.children.items ≡ l.fn.children.items ++ map (child_at l.task l.outcomes) (range_with_len 0 l.index)

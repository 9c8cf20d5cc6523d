use Rattle.std.proofs.Common.{◌≡◌, ◌++◌, Some, map}
use Rattle.std.specs.List.{range_with_len}
use Rattle.tk_names.specs.Children.{child_name}
use Rattle.tk_child_names.proofs.names.add_child_names.Given as goal

-- the names of the children so far stand behind those that were there
abbrev pub invariant-loop-index : goal.invariant-loop-index
invariant-loop-index l = l.names ≡ l.initial.names ++ map (λ i. child_name l.run l.task (Some i)) (range_with_len 0 l.index)

use Rattle.std.proofs.Common.{◌≡◌, drop}
use Rattle.std.specs.List.{list_all}
use Rattle.tk_verdict.specs.Facts.{has_ended, is_good_where}
use Rattle.tk_labels.proofs.spans.are_all_good.Given as goal

-- the children that are left decide
abbrev pub invariant-loop-child : goal.invariant-loop-child
invariant-loop-child l = list_all (has_ended (is_good_where l.ignores)) (drop l.child-index l.children) ≡ list_all (has_ended (is_good_where l.ignores)) l.children

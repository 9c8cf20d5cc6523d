use Rattle.std.proofs.Common.{◌≡◌, ℕ, [], length, map, take, slice_index_or}
use Rattle.tk_verdict.specs.Facts.{children_at}
use Rattle.tk_verdict.proofs.groups.grouped.Given as goal

-- each task's group so far has its children so far
abbrev pub invariant-loop-child : goal.invariant-loop-child
invariant-loop-child l =
    record {
      count : length l.groups.items ≡ l.total;
      grouped : (place : ℕ) → slice_index_or (map (λ group. map (λ child. child.now) group.items) l.groups.items) place [] ≡ children_at (take l.child-index l.children) place;
    }

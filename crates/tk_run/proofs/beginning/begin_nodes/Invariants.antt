use Rattle.std.proofs.Common.{◌≡◌, ◌≤◌, ◌+◌, ℕ, List, length}
use Rattle.std.specs.Prelude.{All, slice_get}
use Rattle.tk_run.specs.Begun.{AreBegun, node_begun}
use Rattle.tk_run.proofs.beginning.begin_nodes.Given as goal

abbrev pub invariant-loop-i : goal.invariant-loop-i
invariant-loop-i g l = record {
  count : length l.nodes ≡ length l.fn.nodes;
  roots : length l.roots.items + l.i ≡ length l.fn.nodes;
  each : (root : List ℕ) → All (λ (r : List ℕ). r ≡ root) l.fn.roots.items → All (λ (r : List ℕ). r ≡ root) l.roots.items;
  begun : (root : List ℕ) → All (λ (r : List ℕ). r ≡ root) l.fn.roots.items → AreBegun (node_begun root) l.i l.fn.nodes l.nodes;
  later : (j : ℕ) → l.i ≤ j → slice_get l.nodes j ≡ slice_get l.fn.nodes j;
  end : l.i-end ≡ length l.fn.nodes;
}

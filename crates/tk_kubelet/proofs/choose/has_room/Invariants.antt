use Rattle.std.proofs.Common.{◌≡◌, ◌≤◌, ◌+◌, ◌-◌, ℕ, List, drop, length}
use Rattle.std.specs.Prelude.{filter}
use Rattle.tk_cache.specs.Views.{seen}
use Rattle.tk_journal.specs.PodRows.{is_held_by}
use Rattle.tk_kubelet.proofs.choose.has_room.Given as goal

abbrev pub invariant-loop-place : goal.invariant-loop-place
invariant-loop-place l = record {
  few : l.count ≤ l.at;
  rest : l.count + length (filter (λ (name : List ℕ). is_held_by l.number ((seen l.cache).view.pod name)) (drop l.at (seen l.cache).view.pods)) ≡ length (filter (λ (name : List ℕ). is_held_by l.number ((seen l.cache).view.pod name)) (seen l.cache).view.pods);
}

abbrev pub decreases-loop-place : goal.decreases-loop-place
decreases-loop-place l = l.end - l.at

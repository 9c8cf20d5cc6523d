use Rattle.std.proofs.Common.{◌≡◌, map, filter}
use Rattle.std.specs.List.{range_with_len}
use Rattle.tk_cache.specs.Views.{seen}
use Rattle.tk_run_cache.specs.Follow.{child_seen, is_absent, outcome_seen}
use Rattle.tk_run_cache.proofs.children.new_children.Given as goal

-- those of the indexes so far
abbrev pub invariant-loop-index : goal.invariant-loop-index
invariant-loop-index l = record {
  outcomes : l.outcomes.items ≡ map (outcome_seen (seen l.cache).view.task_run l.spec l.task) (range_with_len 0 l.index);
  missing : l.missing.items ≡ filter (is_absent (seen l.cache).view.task_run l.spec) (map (child_seen (seen l.cache).view.task_run l.spec l.task) (range_with_len 0 l.index));
}

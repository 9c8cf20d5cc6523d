use Rattle.std.proofs.Common.{◌≡◌, ℕ, List, map, take, drop, []}
use Rattle.std.specs.BTreeSet.{contains_by}
use Rattle.std.specs.Cmp.Lexicographic.{slice_cmp}
use Rattle.std.specs.List.{list_any}
use Rattle.std.specs.Ordering.{nat_cmp, ordering_then}
use Rattle.serde_json.specs.View.{view}
use Rattle.tk_scenario.specs.Scenario.{first_bad_outcome, outcome_of}
use Rattle.tk_scenario.proofs.Attempts.{is_of}
use Rattle.tk_scenario.proofs.outcomes.read_items.Given as goal

-- the outcomes and the attempts are those so far, and what is wrong first with the outcomes that are left is what is wrong first with all
abbrev pub invariant-loop-item : goal.invariant-loop-item
invariant-loop-item l = record {
  made : l.outcomes ≡ map outcome_of (map view (take l.item-index l.items));
  among : (task_run : List ℕ) (attempt : ℕ) → contains_by (λ k. ordering_then (slice_cmp nat_cmp task_run k.0.now) (nat_cmp attempt k.1)) l.seen ≡ list_any (is_of task_run attempt) (map view (take l.item-index l.items));
  left : first_bad_outcome l.place l.item-index (map view (take l.item-index l.items)) (map view (drop l.item-index l.items)) ≡ first_bad_outcome l.place 0 [] (map view l.items);
}

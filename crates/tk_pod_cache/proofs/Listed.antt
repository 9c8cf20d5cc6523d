-- Marks of pods, where no pod is seen, and where none changes.
use Rattle.std.proofs.Common.{◌≡◌, ℕ, List, [], Option, ap, ◌∙◌}
use Rattle.tk_types.specs.declared.scenario.Kind.TheVariants as kinds
use Rattle.tk_journal.specs.declared.entry.Entry.{Entry}
use Rattle.tk_journal.specs.declared.object.PodState.{PodState}
use Rattle.tk_journal.specs.History.{View, names_of, past}
use Rattle.tk_journal.proofs.Positions.{past_none}
use Rattle.tk_cache.specs.Fronts.{Shows}
use Rattle.tk_cache.specs.Passed.{AreSame, FrontsDecide}
use Rattle.tk_cache.specs.Views.{Seen}
use Rattle.tk_places.proofs.Marked.{alike_marked, none_marked}
use Rattle.tk_pod_cache.specs.declared.marks.PodMarks.{PodMarks}
use Rattle.tk_pod_cache.specs.Marks.{ArePodsMarked, held_in, is_held, is_unclaimed, unclaimed_in}

-- at the start there are no pods
no_pods : (seen : Seen) (history : List Entry) → Shows seen history → seen.fronts.pods ≡ 0 → seen.view.pods ≡ []
no_pods seen history shows first =
    ap (λ (v : View). v.pods) shows.same
    ∙ ap (λ (n : ℕ). names_of kinds.Pods (past n history)) first
    ∙ ap (names_of kinds.Pods) (past_none history)

pub first_marked : (seen : Seen) (history : List Entry) → Shows seen history → seen.fronts.pods ≡ 0 → (marks : PodMarks) → ArePodsMarked seen.view marks
first_marked seen history shows first marks = record {
  unclaimed = none_marked (unclaimed_in seen.view) seen.view.pods marks.unclaimed (no_pods seen history shows first);
  held = none_marked (held_in seen.view) seen.view.pods marks.held (no_pods seen history shows first);
}

-- where the front of pods stays, so do they
pub same_marked : FrontsDecide → (was now : Seen) (history : List Entry) → Shows was history → Shows now history → now.fronts.pods ≡ was.fronts.pods
    → (marks : PodMarks) → ArePodsMarked was.view marks → ArePodsMarked now.view marks
same_marked law was now history shown shows stays marks marked = record {
  unclaimed = alike_marked (unclaimed_in was.view) (unclaimed_in now.view) was.view.pods now.view.pods marks.unclaimed same.names
      (λ name. ap (λ (pod : List ℕ → Option PodState). is_unclaimed (pod name)) same.objects) marked.unclaimed;
  held = alike_marked (held_in was.view) (held_in now.view) was.view.pods now.view.pods marks.held same.names
      (λ name. ap (λ (pod : List ℕ → Option PodState). is_held (pod name)) same.objects) marked.held;
}
  where
    same : AreSame was.view.pod now.view.pod was.view.pods now.view.pods
    same = law kinds.Pods was now history shown shows stays

-- Marks of pods, where one pod is judged anew.
use Rattle.std.proofs.Common.{◌≡◌, ◌≢◌, ℕ, ◌+◌, List, Bool, Option, Some, None, ap, subst, sym}
use Rattle.std.specs.Prelude.{slice_get}
use Rattle.tk_types.specs.declared.scenario.Kind.TheVariants as kinds
use Rattle.tk_journal.specs.declared.entry.Entry.{Entry}
use Rattle.tk_journal.specs.Effects.{name_of}
use Rattle.tk_journal.specs.Journal.{entry_at}
use Rattle.tk_cache.specs.Fronts.{Shows, with_front}
use Rattle.tk_cache.specs.Passed.{AreSameBut, OnePasses}
use Rattle.tk_cache.specs.Views.{Seen}
use Rattle.tk_places.specs.Places.{AreMarked, IsPlaceOf}
use Rattle.tk_places.proofs.Marked.{absent_marked, judged_marked}
use Rattle.tk_pod_cache.specs.declared.marks.PodMarks.{PodMarks}
use Rattle.tk_pod_cache.specs.Marks.{ArePodsMarked, IsJudged, IsJudgedAt, held_in, is_held, is_unclaimed, unclaimed_in}

module _ (test after : List ℕ → Bool) (names later : List (List ℕ)) (name : List ℕ) (old new : List ℕ) (marked : AreMarked test names old)
    (others : (other : List ℕ) → name ≢ other → after other ≡ test other)
    (stand : (place : ℕ) (other : List ℕ) → name ≢ other → slice_get later place ≡ Some other → slice_get names place ≡ Some other) where
  by_place : (own : Option ℕ) → IsPlaceOf later name own → IsJudgedAt (after name) old new own → AreMarked after later new
  by_place None nowhere same = subst (AreMarked after later) (sym same) (absent_marked test after names later old name marked others stand nowhere)
  by_place (Some own) is set = judged_marked test after names later old name marked others stand own is new set

  -- one name is judged anew, and all others are as they were
  pub judged_again : IsJudged after later name old new → AreMarked after later new
  judged_again judged = by_place judged.own judged.is_own judged.judged

-- the marks once a front passed an entry and the pod that it names is judged
pub passed_marked : OnePasses → (was now : Seen) (history : List Entry) (place : ℕ) (e : Entry) → Shows was history → Shows now history → was.fronts.pods ≡ place
    → entry_at (place + 1) history ≡ Some e → now.fronts ≡ with_front kinds.Pods (place + 1) was.fronts → (old new : PodMarks) → ArePodsMarked was.view old
    → IsJudged (unclaimed_in now.view) now.view.pods (name_of e.act) old.unclaimed new.unclaimed
    → IsJudged (held_in now.view) now.view.pods (name_of e.act) old.held new.held
    → ArePodsMarked now.view new
passed_marked law was now history place e shown shows here at fronts old new marked unclaimed held = record {
  unclaimed = judged_again (unclaimed_in was.view) (unclaimed_in now.view) was.view.pods now.view.pods (name_of e.act) old.unclaimed new.unclaimed marked.unclaimed
      (λ other differ. ap is_unclaimed (same.objects other differ)) same.places unclaimed;
  held = judged_again (held_in was.view) (held_in now.view) was.view.pods now.view.pods (name_of e.act) old.held new.held marked.held
      (λ other differ. ap is_held (same.objects other differ)) same.places held;
}
  where
    same : AreSameBut (name_of e.act) was.view.pod now.view.pod was.view.pods now.view.pods
    same = law kinds.Pods was now history e shown shows (subst (λ (n : ℕ). entry_at (n + 1) history ≡ Some e) (sym here) at)
        (subst (λ (n : ℕ). now.fronts ≡ with_front kinds.Pods (n + 1) was.fronts) (sym here) fronts)

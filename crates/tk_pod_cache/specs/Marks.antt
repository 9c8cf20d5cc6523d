-- Which pods are marked beside a cache.
use Rattle.std.specs.Prelude.{◌≡◌, ℕ, List, Bool, false, ◌&&◌, Option, Some, None, is_some, is_none}
use Rattle.tk_journal.specs.declared.object.PodState.{PodState}
use Rattle.tk_journal.specs.History.{View}
use Rattle.tk_journal.specs.PodRows.{is_unended}
use Rattle.tk_places.specs.Places.{AreMarked, IsPlaceOf, IsSet}
use Rattle.tk_pod_cache.specs.declared.marks.PodMarks.{PodMarks}

-- the pod is there, and nobody claimed it
abbrev pub is_unclaimed : Option PodState → Bool
is_unclaimed None = false
is_unclaimed (Some state) = is_none state.claim

-- somebody claimed it, and it hasn't ended
abbrev pub is_held : Option PodState → Bool
is_held None = false
is_held (Some state) = is_some state.claim && is_unended state.ended

-- the same of a pod by its name
abbrev pub unclaimed_in : View → List ℕ → Bool
unclaimed_in view name = is_unclaimed (view.pod name)

abbrev pub held_in : View → List ℕ → Bool
held_in view name = is_held (view.pod name)

-- each pod that is seen is marked where it is so; others may be marked too
pub record ArePodsMarked (view : View) (marks : PodMarks) : Type 0 where
  pub unclaimed : AreMarked (unclaimed_in view) view.pods marks.unclaimed
  pub held : AreMarked (held_in view) view.pods marks.held

-- one name is judged anew: its place is in the set where it passes the test, and nothing else changes
abbrev pub IsJudgedAt : Bool → List ℕ → List ℕ → Option ℕ → Type 0
IsJudgedAt passes old new None = new ≡ old
IsJudgedAt passes old new (Some place) = IsSet place passes old new

pub record IsJudged (test : List ℕ → Bool) (names : List (List ℕ)) (name : List ℕ) (old new : List ℕ) : Type 0 where
  pub own : Option ℕ
  pub is_own : IsPlaceOf names name own
  pub judged : IsJudgedAt (test name) old new own

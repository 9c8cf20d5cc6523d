-- Which runs can still get an entry, once a front has passed an entry.
use Rattle.std.proofs.Common.{◌≡◌, ◌≢◌, ◌≤◌, ◌<◌, ℕ, ◌+◌, List, [], length, Bool, true, false, not, Option, Some, None, refl, sym, ap, ap₂, ◌∙◌, subst, cond, inl, inr, nat_eq, arith}
use Rattle.std.specs.Prelude.{◌&&◌, ◌||◌, is_none, slice_get, bytes_eq}
use Rattle.std.proofs.lemmas.Bool.{cases_Bool, cases_lt, eqb-true, eq-eqb, ne_eqb}
use Rattle.std.proofs.lemmas.Option.{same_Some, slice_get_within}
use Rattle.std.proofs.lemmas.Slice.Eq.{bytes_eq-Decides}
use Rattle.tk_types.specs.Lists.{is_empty}
use Rattle.tk_journal.specs.declared.object.RunState.{RunState}
use Rattle.tk_journal.specs.declared.object.TaskRunState.{TaskRunState}
use Rattle.tk_journal.specs.History.{View}
use Rattle.tk_places.specs.Places.{has, IsPlaceOf}
use Rattle.tk_places.proofs.Marked.{none_marked}
use Rattle.tk_cache.specs.Children.{is_made_for, is_name}
use Rattle.tk_cache.specs.Fronts.{Shows}
use Rattle.tk_cache.specs.Passed.{AreSame, AreSameBut}
use Rattle.tk_cache.specs.Views.{Seen}
use Rattle.tk_run_cache.specs.Active.{has_open, may_get, may_get_at, AreActive, IsJudged, IsPut}
use Rattle.tk_run_cache.proofs.Open.{any_open, still_open}

pub nothing_active : (seen : Seen) → Shows seen [] → (places : List ℕ) → AreActive seen.view places
nothing_active seen shows places = none_marked (may_get seen.view) seen.view.runs places (ap (λ (v : View). v.runs) shows.same)

-- another test in the last place

weaker : (a b was now : Bool) → (now ≡ true → was ≡ true) → (a || (b && now)) ≡ true → (a || (b && was)) ≡ true
weaker true b was now still is = refl
weaker false true was now still is = still is
weaker false false was now still is = absurd (cc (is))

module _ (was now : View) where
  still_at : (name : List ℕ) → (has_open now name ≡ true → has_open was name ≡ true) → (o : Option RunState) → may_get_at now name o ≡ true → may_get_at was name o ≡ true
  still_at name still None gets = absurd (cc (gets))
  still_at name still (Some run) gets = weaker (is_none run.closed) (not (is_empty run.stops)) (has_open was name) (has_open now name) still gets

  -- a run that stays as it is and has no open TaskRun more
  still_gets : (name : List ℕ) → now.run name ≡ was.run name → (has_open now name ≡ true → has_open was name ≡ true) → may_get now name ≡ true → may_get was name ≡ true
  still_gets name same still gets = still_at name still (was.run name) (ap (may_get_at now name) (sym same) ∙ gets)

  -- with the same TaskRuns
  same_open : AreSame was.task_run now.task_run was.task_runs now.task_runs → (name : List ℕ) → has_open now name ≡ has_open was name
  same_open task_runs name = ap₂ (λ (f : List ℕ → Option TaskRunState) (names : List (List ℕ)). any_open f name names) task_runs.objects task_runs.names

  -- one run is judged, and no other gets more
  module _ (name : List ℕ) (old : List ℕ) (active : AreActive was old) (others : (other : List ℕ) → name ≢ other → may_get now other ≡ true → may_get was other ≡ true)
      (stand : (place : ℕ) (other : List ℕ) → name ≢ other → slice_get now.runs place ≡ Some other → slice_get was.runs place ≡ Some other) where
    other_active : (place : ℕ) (other : List ℕ) → name ≢ other → slice_get now.runs place ≡ Some other → may_get now other ≡ true → has old place ≡ true
    other_active place other differ at gets = active place other (stand place other differ at) (others other differ gets)

    -- it stands nowhere
    absent : IsPlaceOf now.runs name None → AreActive now old
    absent nowhere place other at gets = other_active place other (λ (same : name ≡ other). nowhere place (at ∙ ap Some (sym same))) at gets

    -- its place is put in, or taken out
    put : (own : ℕ) → IsPlaceOf now.runs name (Some own) → (new : List ℕ) → IsPut now name own old new → AreActive now new
    put own is new puts place other at gets = elim (cases_Bool (bytes_eq name other)) [
      | inl same ↦
          let own_name : name ≡ other = (bytes_eq-Decides name other).0 same in
          let here : place ≡ own = is.1 place (at ∙ ap Some (sym own_name)) in
          puts.set place
          ∙ ap (λ (b : Bool). cond b puts.is_in (has old place)) (eq-eqb own place (sym here))
          ∙ puts.enough (ap (may_get now) own_name ∙ gets)
      | inr apart ↦
          let differ : name ≢ other = λ same. absurd (cc (apart, (bytes_eq-Decides name other).1 same)) in
          let elsewhere : own ≢ place = λ here. differ (same_Some name other (sym is.0 ∙ ap (slice_get now.runs) here ∙ at)) in
          puts.set place
          ∙ ap (λ (b : Bool). cond b puts.is_in (has old place)) (ne_eqb own place elsewhere)
          ∙ other_active place other differ at gets
    ]

    judged : (new : List ℕ) → IsJudged now name old new → AreActive now new
    judged new (None, nowhere, same) = subst (AreActive now) (sym same) (absent nowhere)
    judged new (Some own, is, puts) = put own is new puts

  -- an entry of runs
  pub passed_run : (name : List ℕ) (old new : List ℕ) → AreActive was old → AreSameBut name was.run now.run was.runs now.runs
      → AreSame was.task_run now.task_run was.task_runs now.task_runs → IsJudged now name old new → AreActive now new
  passed_run name old new active runs task_runs =
      judged name old active (λ other differ. still_gets other (runs.objects other differ) (λ is. sym (same_open task_runs other) ∙ is)) runs.places new

  module _ (places : List ℕ) (active : AreActive was places) (runs : AreSame was.run now.run was.runs now.runs) where
    same_run : (other : List ℕ) → now.run other ≡ was.run other
    same_run other = ap (λ (f : List ℕ → Option RunState). f other) runs.objects

    same_place : (place : ℕ) (other : List ℕ) → slice_get now.runs place ≡ Some other → slice_get was.runs place ≡ Some other
    same_place place other at = ap (λ (names : List (List ℕ)). slice_get names place) (sym runs.names) ∙ at

    -- an entry of pods
    pub passed_pod : AreSame was.task_run now.task_run was.task_runs now.task_runs → AreActive now places
    passed_pod task_runs place other at gets =
        active place other (same_place place other at) (still_gets other (same_run other) (λ is. sym (same_open task_runs other) ∙ is) gets)

    -- an entry of TaskRuns
    module _ (own : List ℕ) (task_runs : AreSameBut own was.task_run now.task_run was.task_runs now.task_runs) where
      gets_still : (other : List ℕ) → is_made_for other (now.task_run own) ≡ false → may_get now other ≡ true → may_get was other ≡ true
      gets_still other apart = still_gets other (same_run other) (still_open was now own task_runs other apart)

      not_made_for : (o : Option TaskRunState) → now.task_run own ≡ o → ((other : List ℕ) → is_made_for other o ≡ false) → AreActive now places
      not_made_for o is none place other at gets =
          active place other (same_place place other at) (gets_still other (ap (is_made_for other) is ∙ none other) gets)

      -- the TaskRun isn't there
      pub passed_no_task_run : now.task_run own ≡ None → AreActive now places
      passed_no_task_run is = not_made_for None is (λ other. refl)

      module _ (task_run : TaskRunState) (is : now.task_run own ≡ Some task_run) where
        -- it is of no run
        pub passed_standalone : task_run.run ≡ None → AreActive now places
        passed_standalone none = not_made_for (Some task_run) is (λ other. ap (is_name other) none)

        -- its run is judged
        pub passed_task_run : (run : List ℕ) → task_run.run ≡ Some run → (new : List ℕ) → IsJudged now run places new → AreActive now new
        passed_task_run run of_run =
            judged run places active (λ other differ. gets_still other (made_apart other differ)) (λ place other differ at. same_place place other at)
          where
            not_named : (other : List ℕ) → run ≢ other → bytes_eq run other ≡ false
            not_named other differ = elim (cases_Bool (bytes_eq run other)) [
              | inl same ↦ absurd (differ ((bytes_eq-Decides run other).0 same))
              | inr apart ↦ apart
            ]

            made_apart : (other : List ℕ) → run ≢ other → is_made_for other (now.task_run own) ≡ false
            made_apart other differ = ap (is_made_for other) is ∙ ap (is_name other) of_run ∙ not_named other differ

-- all runs one after the other

-- those before a place are judged
abbrev pub AreActiveTo : View → ℕ → List ℕ → Type 0
AreActiveTo view end places = (place : ℕ) (name : List ℕ) → place < end → slice_get view.runs place ≡ Some name → may_get view name ≡ true → has places place ≡ true

module _ (view : View) (at : ℕ) (name : List ℕ) (old new : List ℕ) (is : slice_get view.runs at ≡ Some name) (before : AreActiveTo view at old) where
  own_further : (own : ℕ) → IsPlaceOf view.runs name (Some own) → IsPut view name own old new → AreActiveTo view (at + 1) new
  own_further own own_is puts place other below stands gets = elim (cases_Bool (nat_eq own place)) [
    | inl here ↦
        let own_place : own ≡ place = eqb-true own place here in
        let own_name : name ≡ other = same_Some name other (sym own_is.0 ∙ ap (slice_get view.runs) own_place ∙ stands) in
        puts.set place ∙ ap (λ (b : Bool). cond b puts.is_in (has old place)) here ∙ puts.enough (ap (may_get view) own_name ∙ gets)
    | inr elsewhere ↦
        puts.set place ∙ ap (λ (b : Bool). cond b puts.is_in (has old place)) elsewhere
        ∙ before place other (earlier place (own_is.1 at is) elsewhere below) stands gets
  ]
    where
      earlier : (place : ℕ) → at ≡ own → nat_eq own place ≡ false → place < at + 1 → place < at
      earlier place same apart within = elim (cases_lt place at) [
        | inl less ↦ less
        | inr more ↦
            let again : own ≡ place = omega (arith, same, more, within) in
            absurd (cc (apart, eq-eqb own place again))
      ]

  pub active_further : IsJudged view name old new → AreActiveTo view (at + 1) new
  active_further (None, nowhere, same) = absurd (nowhere at is)
  active_further (Some own, own_is, puts) = own_further own own_is puts

pub all_active : (view : View) (end : ℕ) (places : List ℕ) → length view.runs ≤ end → AreActiveTo view end places → AreActive view places
all_active view end places reached before place name stands gets =
    let within : place < length view.runs = slice_get_within view.runs place name stands in
    before place name (omega (arith, within, reached)) stands gets

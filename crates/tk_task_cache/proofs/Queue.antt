-- Which TaskRuns may act, once a front has passed an entry.
use Rattle.std.proofs.Common.{◌≡◌, ◌≢◌, ◌≤◌, ◌<◌, ℕ, suc, List, [], ◌∷◌, length, Bool, true, false, not, Option, Some, None, refl, sym, ap, ◌∙◌, subst, cond, inl, inr, nat_eq, ◌+◌, arith}
use Rattle.std.specs.Prelude.{◌&&◌, is_none, slice_get, bytes_eq}
use Rattle.std.proofs.lemmas.Bool.{cases_Bool, cases_lt, eqb-true, eq-eqb}
use Rattle.std.proofs.lemmas.Option.{same_Some, slice_get_within}
use Rattle.std.proofs.lemmas.Slice.Eq.{bytes_eq-Decides}
use Rattle.tk_names.specs.Children.{most_attempts, pod_name}
use Rattle.tk_names.proofs.PodNames.{pods_apart}
use Rattle.tk_journal.specs.declared.entry.Entry.{Entry}
use Rattle.tk_journal.specs.declared.object.Attempt.{Attempt}
use Rattle.tk_journal.specs.declared.object.PodState.{PodState}
use Rattle.tk_journal.specs.declared.object.TaskRunState.{TaskRunState}
use Rattle.tk_journal.specs.History.{View, view_at}
use Rattle.tk_journal.specs.Legal.{IsLegal}
use Rattle.tk_journal.proofs.Statements as laws_of
use Rattle.tk_places.specs.Places.{has, IsPlaceOf, IsSet}
use Rattle.tk_places.proofs.Marked.{none_marked, alike_marked, absent_marked, judged_marked}
use Rattle.tk_cache.specs.Fronts.{Shows}
use Rattle.tk_cache.specs.Passed.{AreSame, AreSameBut}
use Rattle.tk_cache.specs.Views.{Seen}
use Rattle.tk_task_cache.specs.Acting.{open_from, is_awaited, waits_open, waits, may_act_at, may_act, AreQueued, IsJudged, AreFew}

-- what is seen of a legal history

pub few_seen : (seen : Seen) (history : List Entry) → IsLegal history → Shows seen history → AreFew seen.view
few_seen seen history legal shows = subst AreFew (sym shows.same) few_at
  where
    few_at : AreFew (view_at seen.fronts history)
    few_at name task_run is =
        let lasting = (laws_of.lasting history legal seen.fronts.task_runs).0.task_runs name task_run is in
        let few = lasting.few in
        let sized = lasting.sized in
        omega (arith, few, sized)

-- a pod has the name of its TaskRun's attempt, of which there are few
pub record IsNamed (name : List ℕ) (pod : PodState) : Type 0 where
  pub named : name ≡ pod_name pod.task_run pod.attempt
  pub small : pod.attempt ≤ most_attempts

pub named_seen : (seen : Seen) (history : List Entry) → IsLegal history → Shows seen history → (name : List ℕ) (pod : PodState) → seen.view.pod name ≡ Some pod → IsNamed name pod
named_seen seen history legal shows name pod is =
    let last = (laws_of.lasting history legal seen.fronts.pods).0 in
    let lasting = last.pods name pod (sym (ap (λ (v : View). v.pod name) shows.same) ∙ is) in
    let owner = last.task_runs pod.task_run lasting.attempt.it lasting.attempt.is in
    record { named = lasting.named; small = omega (arith, lasting.attempt.has.1, lasting.attempt.has.2, owner.few, owner.sized) }

pub nothing_queued : (seen : Seen) → Shows seen [] → (places : List ℕ) → AreQueued seen.view places
nothing_queued seen shows places = none_marked (may_act seen.view) seen.view.task_runs places (ap (λ (v : View). v.task_runs) shows.same)

-- what decides whether a TaskRun may act

open_within : (start : ℕ) (xs : List Attempt) (place : ℕ) → open_from start xs ≡ Some place → place < start + length xs
open_within start [] place is = absurd (cc (is))
open_within start (x ∷ xs) place is = elim (cases_Bool (is_none x.outcome)) [
  | inl opened ↦
      let here : start ≡ place = same_Some start place (subst (λ (b : Bool). cond b (Some start) (open_from (suc start) xs) ≡ Some place) opened is) in
      omega (arith, here)
  | inr over ↦
      let later = open_within (suc start) xs place (subst (λ (b : Bool). cond b (Some start) (open_from (suc start) xs) ≡ Some place) over is) in
      omega (arith, later)
]

open_below : (xs : List Attempt) (place : ℕ) → open_from 0 xs ≡ Some place → place < length xs
open_below xs place is =
    let within = open_within 0 xs place is in
    omega (arith, within)

module _ (was now : View) (name : List ℕ) where
  same_open : (at : Option ℕ) → ((place : ℕ) → at ≡ Some place → now.pod (pod_name name (suc place)) ≡ was.pod (pod_name name (suc place))) → waits_open now name at ≡ waits_open was name at
  same_open None same = refl
  same_open (Some place) same = ap is_awaited (same place refl)

  same_at : (o : Option TaskRunState) → ((t : TaskRunState) → o ≡ Some t → waits now name t ≡ waits was name t) → may_act_at now name o ≡ may_act_at was name o
  same_at None same = refl
  same_at (Some t) same = ap (λ (b : Bool). is_none t.closed && not b) (same t refl)

  -- the TaskRun and the pod of its open attempt are the same
  same_may : now.task_run name ≡ was.task_run name
      → ((t : TaskRunState) (place : ℕ) → now.task_run name ≡ Some t → place < length t.attempts → now.pod (pod_name name (suc place)) ≡ was.pod (pod_name name (suc place)))
      → may_act now name ≡ may_act was name
  same_may task_runs pods =
      same_at (now.task_run name) (λ t is. same_open (open_from 0 t.attempts) (λ place opened. pods t place is (open_below t.attempts place opened)))
      ∙ ap (may_act_at was name) task_runs

-- the judged TaskRun is the one that has changed
judged : (was now : View) (name : List ℕ) (old new : List ℕ) → AreQueued was old → ((other : List ℕ) → name ≢ other → may_act now other ≡ may_act was other)
    → ((place : ℕ) (other : List ℕ) → name ≢ other → slice_get now.task_runs place ≡ Some other → slice_get was.task_runs place ≡ Some other)
    → IsJudged now name old new → AreQueued now new
judged was now name old new queued others stand (None, nowhere, same) =
    subst (AreQueued now) (sym same) (absent_marked (may_act was) (may_act now) was.task_runs now.task_runs old name queued others stand nowhere)
judged was now name old new queued others stand (Some own, is, set) =
    judged_marked (may_act was) (may_act now) was.task_runs now.task_runs old name queued others stand own is new set

-- an entry of TaskRuns
pub passed_task_run : (was now : View) (name : List ℕ) (old new : List ℕ) → AreQueued was old → AreSameBut name was.task_run now.task_run was.task_runs now.task_runs
    → AreSame was.pod now.pod was.pods now.pods → IsJudged now name old new → AreQueued now new
passed_task_run was now name old new queued task_runs pods judging =
    judged was now name old new queued
    (λ other differ. same_may was now other (task_runs.objects other differ) (λ t place is within. ap (λ (p : List ℕ → Option PodState). p (pod_name other (suc place))) pods.objects))
    task_runs.places judging

-- an entry of runs
pub passed_run : (was now : View) (places : List ℕ) → AreQueued was places → AreSame was.task_run now.task_run was.task_runs now.task_runs → AreSame was.pod now.pod was.pods now.pods → AreQueued now places
passed_run was now places queued task_runs pods =
    alike_marked (may_act was) (may_act now) was.task_runs now.task_runs places task_runs.names
    (λ name. same_may was now name (ap (λ (t : List ℕ → Option TaskRunState). t name) task_runs.objects) (λ t place is within. ap (λ (p : List ℕ → Option PodState). p (pod_name name (suc place))) pods.objects))
    queued

module _ (was now : View) (name : List ℕ) (old : List ℕ) (queued : AreQueued was old) (task_runs : AreSame was.task_run now.task_run was.task_runs now.task_runs)
    (pods : AreSameBut name was.pod now.pod was.pods now.pods) where
  task_run_same : (other : List ℕ) → now.task_run other ≡ was.task_run other
  task_run_same other = ap (λ (t : List ℕ → Option TaskRunState). t other) task_runs.objects

  -- the pod isn't there
  pub passed_no_pod : now.pod name ≡ None → AreQueued now old
  passed_no_pod gone =
      alike_marked (may_act was) (may_act now) was.task_runs now.task_runs old task_runs.names
      (λ other. same_may was now other (task_run_same other) (λ t place is within. same_pod (pod_name other (suc place)))) queued
    where
      same_pod : (other : List ℕ) → now.pod other ≡ was.pod other
      same_pod other = elim (cases_Bool (bytes_eq name other)) [
        | inl same ↦
            let own : name ≡ other = (bytes_eq-Decides name other).0 same in
            subst (λ (n : List ℕ). now.pod n ≡ was.pod n) own (gone ∙ sym (pods.absent name gone))
        | inr apart ↦ pods.objects other (λ same. absurd (cc (apart, (bytes_eq-Decides name other).1 same)))
      ]

  -- it is there, and its TaskRun is judged
  pub passed_pod : (pod : PodState) → IsNamed name pod → AreFew now → (new : List ℕ) → IsJudged now pod.task_run old new → AreQueued now new
  passed_pod pod named few new judging =
      judged was now pod.task_run old new queued
      (λ other differ. same_may was now other (task_run_same other) (λ t place is within. pods.objects (pod_name other (suc place)) (λ same. differ (owner other t place is within same))))
      (λ place other differ at. ap (λ (ns : List (List ℕ)). slice_get ns place) (sym task_runs.names) ∙ at) judging
    where
      owner : (other : List ℕ) (t : TaskRunState) (place : ℕ) → now.task_run other ≡ Some t → place < length t.attempts → name ≡ pod_name other (suc place) → pod.task_run ≡ other
      owner other t place is within same =
          let limit : length t.attempts ≤ most_attempts = few other t is in
          let small : suc place ≤ most_attempts = omega (arith, limit, within) in
          (pods_apart pod.task_run other pod.attempt (suc place) named.small small (sym named.named ∙ same)).0

-- all TaskRuns one after the other

-- those before a place are judged
abbrev pub AreQueuedTo : View → ℕ → List ℕ → Type 0
AreQueuedTo view end places = (place : ℕ) (name : List ℕ) → place < end → slice_get view.task_runs place ≡ Some name → may_act view name ≡ true → has places place ≡ true

module _ (view : View) (at : ℕ) (name : List ℕ) (old new : List ℕ) (is : slice_get view.task_runs at ≡ Some name) (before : AreQueuedTo view at old) where
  own_further : (own : ℕ) → IsPlaceOf view.task_runs name (Some own) → IsSet own (may_act view name) old new → AreQueuedTo view (at + 1) new
  own_further own own_is set place other below stands may = elim (cases_Bool (nat_eq own place)) [
    | inl here ↦
        let own_place : own ≡ place = eqb-true own place here in
        let own_name : name ≡ other = same_Some name other (sym own_is.0 ∙ ap (slice_get view.task_runs) own_place ∙ stands) in
        set place ∙ ap (λ (b : Bool). cond b (may_act view name) (has old place)) here ∙ (ap (may_act view) own_name ∙ may)
    | inr elsewhere ↦
        set place ∙ ap (λ (b : Bool). cond b (may_act view name) (has old place)) elsewhere
        ∙ before place other (earlier place (own_is.1 at is) elsewhere below) stands may
  ]
    where
      earlier : (place : ℕ) → at ≡ own → nat_eq own place ≡ false → place < at + 1 → place < at
      earlier place same apart within = elim (cases_lt place at) [
        | inl less ↦ less
        | inr more ↦
            let again : own ≡ place = omega (arith, same, more, within) in
            absurd (cc (apart, eq-eqb own place again))
      ]

  pub queued_further : IsJudged view name old new → AreQueuedTo view (at + 1) new
  queued_further (None, nowhere, same) = absurd (nowhere at is)
  queued_further (Some own, own_is, set) = own_further own own_is set

pub all_queued : (view : View) (end : ℕ) (places : List ℕ) → length view.task_runs ≤ end → AreQueuedTo view end places → AreQueued view places
all_queued view end places reached before place name stands may =
    let within : place < length view.task_runs = slice_get_within view.task_runs place name stands in
    before place name (omega (arith, within, reached)) stands may

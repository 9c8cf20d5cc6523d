-- The end of a held pod: its EndPod is justified, and the conditions of a turn hold again behind it.
use Rattle.std.proofs.Common.{◌≡◌, ◌≢◌, ℕ, zero, suc, ◌<◌, ◌≤◌, ◌+◌, ◌-◌, ◌^◌, List, [], ◌∷◌, ◌++◌, length, Option, Some, None, Ok, Err, Bool, true, false, refl, sym, ◌∙◌, ap, subst, inl, inr, arith, slice_get, set}
use Rattle.std.specs.Prelude.{◌⊎◌, ◌||◌, is_some, Result, IfOk, OnErr, min}
use Rattle.std.specs.List.{remove}
use Rattle.std.proofs.lemmas.Bool.{cases_Bool}
use Rattle.std.proofs.lemmas.Option.{same_Some}
use Rattle.tk_types.specs.declared.run.Outcome.{Outcome}
use Rattle.tk_types.specs.declared.run.Outcome.TheVariants as outcomes
use Rattle.tk_edge.specs.declared.event.Event.{Event}
use Rattle.tk_edge.specs.Files.{Files}
use Rattle.tk_journal.specs.Lists.{Has}
use Rattle.tk_journal.specs.declared.act.Act.{Act}
use Rattle.tk_journal.specs.declared.act.Act.TheVariants as acts
use Rattle.tk_journal.specs.declared.entry.Entry.{Entry}
use Rattle.tk_journal.specs.declared.object.Claim.{Claim}
use Rattle.tk_journal.specs.declared.object.Plan.{Plan}
use Rattle.tk_journal.specs.declared.object.PodState.{PodState}
use Rattle.tk_journal.specs.Grows.{PodGrows}
use Rattle.tk_journal.specs.History.{View, view_at, past, pod_of}
use Rattle.tk_journal.specs.Legal.{IsLegal}
use Rattle.tk_journal.specs.PodRows.{AreExits}
use Rattle.tk_journal.proofs.Claimed.{grows_past}
use Rattle.tk_steps.specs.declared.held.HeldPod.{HeldPod}
use Rattle.tk_steps.specs.declared.held.HeldStep.{HeldStep}
use Rattle.tk_steps.specs.Kills.{IsLiving}
use Rattle.tk_steps.specs.Moves.{Moves}
use Rattle.tk_steps.specs.Ready.{ReadyIsSo}
use Rattle.tk_steps.specs.Watched.{children_of}
use Rattle.tk_steps.proofs.Gets.{get_set, set_here}
use Rattle.tk_store.specs.Writes.{Stored}
use Rattle.tk_cache.specs.Fronts.{Shows}
use Rattle.tk_cache.specs.Views.{Seen}
use Rattle.tk_choice.specs.Took.{MayTry}
use Rattle.tk_held.specs.Conditions.{AreMet, not_lost, pods_of}
use Rattle.tk_held.specs.Laws.{MovesKeep}
use Rattle.tk_held.specs.Placed.{ArePlaced, StayReady}
use Rattle.tk_held.specs.Pods.{AreApart, IsDone, KeepsPod, MovesAll, StaysDone, RoseBy, count_failed, one_if}
use Rattle.tk_held.specs.declared.judging.Settled.{Settled}
use Rattle.tk_held.specs.Settled.{settled_in}
use Rattle.tk_held.specs.Settling.{IsKilledPod, StayKilled}
use Rattle.tk_held.specs.Watched.{KeepsChildren, KeepAllChildren}
use Rattle.tk_held.proofs.Again.{own_claimed}
use Rattle.tk_held.proofs.Every.{all_at, count_set}
use Rattle.tk_held.proofs.Grown.{IsWithout, met_ended}
use Rattle.tk_held.proofs.Stays.{stay_at}
use Rattle.tk_outcome.specs.Exits.{exits_of, is_walked}
use Rattle.tk_outcome.specs.Fetches.{with_failed}
use Rattle.tk_outcome.specs.Laws.{EndsFit, ExitsAreWalked, IsHeldInOrder}
use Rattle.tk_kubelet.specs.declared.kubelet.KubeletTurn.{KubeletTurn}
use Rattle.tk_kubelet.specs.declared.kubelet.KubeletTurn.TheVariants as turns
use Rattle.tk_kubelet.specs.Answer.{Answered}
use Rattle.tk_kubelet.specs.Choice.{claimed_before, ends_held, first_end, is_over_pod}
use Rattle.tk_kubelet.specs.Ends.{EndsOwn, EndsPod, EndsSo, IsConcluded, Tries, end_by, end_of}
use Rattle.tk_kubelet.specs.Entries.{HeldAfter, held_behind}
use Rattle.tk_kubelet.specs.Seat.{Seat, HostState, Hosts, actor_of, entry_by, seat_at}
use Rattle.tk_kubelet.specs.Turn.{IsOfEnded, Concludes, ConcludesOne, EntryAnswers, EndGives, EndMissed}
use Rattle.tk_kubelet.proofs.Chosen.{first_stays, sees_own}
use Rattle.tk_kubelet.proofs.Rows.{end_may, ends_cause, ends_own}

-- a list without one of its elements

get_removed : {X : Type 0} (xs : List X) (i k : ℕ) (y : X) → slice_get (remove xs i) k ≡ Some y → (j : ℕ) × (slice_get xs j ≡ Some y) × (((j < i) × (k ≡ j)) ⊎ ((i < j) × (suc k ≡ j)))
get_removed [] zero k y at = cc (at)
get_removed [] (suc i) k y at = cc (at)
get_removed (x ∷ xs) zero k y at = (suc k, at, inr (omega arith, refl))
get_removed (x ∷ xs) (suc i) zero y at = (0, at, inl (omega arith, refl))
get_removed (x ∷ xs) (suc i) (suc k) y at =
    let rest = get_removed xs i k y at in (
      suc rest.0,
      rest.1,
      elim rest.2 [
        | inl before ↦ (let less = before.0 in let is = before.1 in inl (omega (arith, less), ap suc is))
        | inr behind ↦ (let more = behind.0 in let is = behind.1 in inr (omega (arith, more), ap suc is))
      ],
    )

get_kept : {X : Type 0} (xs : List X) (i j : ℕ) (y : X) → slice_get xs j ≡ Some y → j ≢ i → (k : ℕ) × (slice_get (remove xs i) k ≡ Some y)
get_kept [] i j y at differ = cc (at)
get_kept (x ∷ xs) zero zero y at differ = absurd (differ refl)
get_kept (x ∷ xs) zero (suc j) y at differ = (j, at)
get_kept (x ∷ xs) (suc i) zero y at differ = (0, at)
get_kept (x ∷ xs) (suc i) (suc j) y at differ =
    let rest = get_kept xs i j y at (λ same. differ (ap suc same)) in
    (suc rest.0, rest.1)

without_of : (held : List HeldPod) (place : ℕ) → AreApart held → IsWithout held place (remove held place)
without_of held place apart = record {
  was = λ i pod at. let found = get_removed held place i pod at in (found.0, found.1, differs found.0 i found.2);
  stays = λ j pod at differ. get_kept held place j pod at differ;
  apart = λ i j a b at_i at_j same.
      let p = get_removed held place i a at_i in
      let q = get_removed held place j b at_j in
      one_place p.0 q.0 i j (apart p.0 q.0 a b p.1 q.1 same) p.2 q.2;
}
  where
    differs : (j k : ℕ) → (((j < place) × (k ≡ j)) ⊎ ((place < j) × (suc k ≡ j))) → j ≢ place
    differs j k (inl before) same = let less = before.0 in absurd (omega (arith, less, same))
    differs j k (inr behind) same = let more = behind.0 in absurd (omega (arith, more, same))

    one_place : (p q i j : ℕ) → p ≡ q → (((p < place) × (i ≡ p)) ⊎ ((place < p) × (suc i ≡ p))) → (((q < place) × (j ≡ q)) ⊎ ((place < q) × (suc j ≡ q))) → i ≡ j
    one_place p q i j same (inl a) (inl b) = a.1 ∙ (same ∙ sym b.1)
    one_place p q i j same (inl a) (inr b) = let x = a.0 in let y = b.0 in absurd (omega (arith, x, y, same))
    one_place p q i j same (inr a) (inl b) = let x = a.0 in let y = b.0 in absurd (omega (arith, x, y, same))
    one_place p q i j same (inr a) (inr b) = let x = a.1 in let y = b.1 in omega (arith, x, y, same)

held_less : (held : List HeldPod) (place : ℕ) → HeldAfter held (remove held place)
held_less held place i pod at = let found = get_removed held place i pod at in inl (found.0, found.1)

-- an EndPod of a held pod, by its outcome
ends_pod_so : (seat : Seat) (ready : List HeldPod) (host : HostState) (name ended : List ℕ) (outcome : Outcome) → not_lost outcome ≡ true → EndsOwn seat ready host name ended outcome → EndsPod seat ready host name ended outcome
ends_pod_so seat ready host name ended outcomes.Lost own ends = cc (own)
ends_pod_so seat ready host name ended outcomes.Cancelled own ends = ends
ends_pod_so seat ready host name ended outcomes.TimedOut own ends = ends
ends_pod_so seat ready host name ended (outcomes.Succeeded results) own ends = ends
ends_pod_so seat ready host name ended (outcomes.Failed exit results) own ends = ends

-- one pod changed as it ends

or_true : (b : Bool) → (b || true) ≡ true
or_true true = refl
or_true false = refl

module _ (pod now : HeldPod) (concluded : IsConcluded pod now) where
  pub now_steps : now.steps.items ≡ pod.steps.items
  now_steps = ap (λ (p : HeldPod). p.steps.items) concluded.is

  pub now_name : now.name ≡ pod.name
  now_name = ap (λ (p : HeldPod). p.name) concluded.is

  pub now_plan : now.plan ≡ pod.plan
  now_plan = ap (λ (p : HeldPod). p.plan) concluded.is

  now_walked : is_walked now ≡ is_walked pod
  now_walked = ap is_walked concluded.is

  now_children : children_of now ≡ children_of pod
  now_children = ap children_of concluded.is

  now_done : IsDone pod → IsDone now
  now_done (inl failed) = inl (concluded.failed failed)
  now_done (inr whole) = inr (ap length now_steps ∙ (whole ∙ ap (λ (p : Plan). length p.orders) (sym now_plan)))

  module _ (view : View) (moment : ℕ) where
    same_settled : settled_in view moment now.name ≡ settled_in view moment pod.name
    same_settled = ap (settled_in view moment) now_name

    by_failed : (o : Option Settled) → now.failed ≡ true → (is_some o || is_over_pod now) ≡ true
    by_failed None failed = rw failed refl
    by_failed (Some settled) failed = refl

    by_walk : (o : Option Settled) → settled_in view moment pod.name ≡ o → pod.failed ≡ false → (is_some o || is_over_pod pod) ≡ true → (is_some (settled_in view moment now.name) || is_over_pod now) ≡ true
    by_walk (Some settled) is whole over = let here : settled_in view moment now.name ≡ Some settled = same_settled ∙ is in rw here refl
    by_walk None is whole over =
        let walked : is_walked pod ≡ true = rw whole at over in
        let here : is_walked now ≡ true = now_walked ∙ walked in
        let none : settled_in view moment now.name ≡ None = same_settled ∙ is in
        rw (none, here) (or_true now.failed)

    -- it still ends
    pub now_ends : ends_held view moment pod ≡ true → ends_held view moment now ≡ true
    now_ends over = elim (cases_Bool pod.failed) [
      | inl failed ↦ by_failed (settled_in view moment now.name) (concluded.failed failed)
      | inr whole ↦ by_walk (settled_in view moment pod.name) refl whole over
    ]

-- a held pod that ends

pub record IsEnding (me : Claim) (root : List ℕ) (seen : Seen) (moment : ℕ) (history : List Entry) (held : List HeldPod) (host : HostState) (place : ℕ) (pod : HeldPod) : Type 0 where
  pub legal : IsLegal history
  pub shows : Shows seen history
  pub met : AreMet me.number me.life root held history host.killed host.told
  pub at : slice_get held place ≡ Some pod
  pub first : first_end me.number me.life seen.view moment held ≡ Some pod.name
  pub own : claimed_before me.life (seen.view.pod pod.name) ≡ false
  pub over : ends_held seen.view moment pod ≡ true

module _ (me : Claim) (root : List ℕ) (seen : Seen) (moment : ℕ) (history : List Entry) (held : List HeldPod) (place : ℕ) (pod pod_now : HeldPod) (before now : HostState) (ending : IsEnding me root seen moment history held before place pod) (one : ConcludesOne root pod pod_now record { before = before; now = now }) where
  abbrev ready : List HeldPod
  ready = set held place pod_now

  abbrev seat : Seat
  seat = seat_at me root seen moment

  abbrev hosts : Hosts
  hosts = record { before = before; now = now }

  pub at_now : slice_get ready place ≡ Some pod_now
  at_now = set_here held pod_now pod place ending.at

  name_now : pod_now.name ≡ pod.name
  name_now = now_name pod pod_now one.same

  steps_now : pod_now.steps.items ≡ pod.steps.items
  steps_now = now_steps pod pod_now one.same

  plan_now : pod_now.plan ≡ pod.plan
  plan_now = now_plan pod pod_now one.same

  within : length pod_now.steps.items ≤ length pod_now.plan.orders
  within =
      let kept : length pod.steps.items ≤ length pod.plan.orders = (ending.met.keeps place pod ending.at).within in
      let steps : length pod_now.steps.items ≡ length pod.steps.items = ap length steps_now in
      let plan : length pod_now.plan.orders ≡ length pod.plan.orders = ap (λ (p : Plan). length p.orders) plan_now in
      omega (arith, kept, steps, plan)

  moved : MovesAll root held ready before.told now.told
  moved = all_at root held ready place pod pod_now before.told now.told ending.met.keeps ending.met.claimed.apart ending.at one.moves within refl

  stayed : ArePlaced root held → StayReady root held ready before.told now.told
  stayed = stay_at root held ready place pod pod_now before.told now.told ending.met.keeps ending.met.claimed.apart ending.at one.moves one.stays refl

  still_now : StayKilled before.killed now.killed
  still_now child was = one.still child was

  first_now : first_end me.number me.life seen.view moment ready ≡ Some pod_now.name
  first_now =
      let same : ends_held seen.view moment pod_now ≡ ends_held seen.view moment pod = now_ends pod pod_now one.same seen.view moment ending.over ∙ sym ending.over in
      first_stays seen.view moment pod pod_now name_now same me.number me.life held place ending.at ∙ (ending.first ∙ ap (λ (n : List ℕ). Some n) (sym name_now))

  dead_now : IsKilledPod now.killed pod_now
  dead_now i step at_step none =
      one.killed i step (subst (λ (ss : List HeldStep). slice_get ss i ≡ Some step) steps_now at_step) none

  done_now : StaysDone held ready
  done_now i a b at_a at_b = elim (get_set held pod_now b place i at_b) [
    | inl here ↦ λ done.
        let there : slice_get held i ≡ Some pod = subst (λ (n : ℕ). slice_get held n ≡ Some pod) (sym here.0) ending.at in
        let same : a ≡ pod = same_Some a pod (sym at_a ∙ there) in
        subst IsDone (sym here.1) (now_done pod pod_now one.same (subst IsDone same done))
    | inr there ↦ λ done. subst IsDone (same_Some a b (sym at_a ∙ there.1)) done
  ]

  children_kept : KeepAllChildren held ready
  children_kept i a b at_a at_b = elim (get_set held pod_now b place i at_b) [
    | inl here ↦
        let there : slice_get held i ≡ Some pod = subst (λ (n : ℕ). slice_get held n ≡ Some pod) (sym here.0) ending.at in
        let same : a ≡ pod = same_Some a pod (sym at_a ∙ there) in
        let kept : KeepsChildren pod pod_now = record { same = now_children pod pod_now one.same; failed = one.same.failed } in
        subst (λ (p : HeldPod). KeepsChildren p b) (sym same) (subst (KeepsChildren pod) (sym here.1) kept)
    | inr there ↦
        let same : a ≡ b = same_Some a b (sym at_a ∙ there.1) in
        subst (KeepsChildren a) same (record { same = refl; failed = λ failed. failed })
  ]

  -- only children of the pod were killed
  spares_now : (child : ℕ) → now.killed child ≡ true → (before.killed child ≡ true) ⊎ IsOfEnded seat ready child
  spares_now child dead = elim (one.only child dead) [
    | inl was ↦ inl was
    | inr living ↦ inr record { place = place; pod = pod_now; at = at_now; ends = first_now; living = subst (λ (ss : List HeldStep). IsLiving ss child) (sym steps_now) living }
  ]

  few_now : RoseBy (count_failed ready - count_failed held) before.faults now.faults
  few_now =
      let sum = count_set held place pod pod_now ending.at in
      let rose : RoseBy (one_if pod_now.failed - one_if pod.failed) before.faults now.faults = one.count in
      few_one (one_if pod_now.failed) (one_if pod.failed) (count_failed ready) (count_failed held) before.faults now.faults sum rose
    where
      few_one : (b a n m x z : ℕ) → n + a ≡ m + b → RoseBy (b - a) x z → RoseBy (n - m) x z
      few_one b a n m x z sum rose = omega (arith, sum, rose)

  concludes_now : Concludes seat held ready hosts
  concludes_now = record {
    moves = moved;
    stays = stayed;
    done = done_now;
    children = children_kept;
    unwatched = one.unwatched;
    plays = one.plays;
    still = still_now;
    spares = spares_now;
    few = few_now;
  }

  -- its EndPod

  exits_are : ExitsAreWalked → AreExits pod_now.plan (exits_of pod_now.steps.items)
  exits_are walk =
      let kept = ending.met.keeps place pod ending.at in
      let claimed = own_claimed me.number me.life pod history (ending.met.claimed.mine place pod ending.at) in
      let here : AreExits pod.plan (exits_of pod.steps.items) = walk root before.killed (pods_of me.number history) before.told pod record {
        claimed = claimed.it;
        is_claimed = claimed.is;
        same_keep = claimed.has.1;
        within = kept.within;
        holds = kept.holds;
        kept = ending.met.kept;
      } in
      let plan : AreExits pod_now.plan (exits_of pod.steps.items) = subst (λ (p : Plan). AreExits p (exits_of pod.steps.items)) (sym plan_now) here in
      subst (λ (ss : List HeldStep). AreExits pod_now.plan (exits_of ss)) (sym steps_now) plan

  -- the plan that is seen is the one that is held
  same_plan : (state : PodState) → seen.view.pod pod.name ≡ Some state → state.plan ≡ pod_now.plan
  same_plan state is =
      let there : pod_of (past seen.fronts.pods history) pod.name ≡ Some state = ap (λ (v : View). v.pod pod.name) (sym ending.shows.same) ∙ is in
      let grown = (grows_past seen.fronts.pods history ending.legal).pods pod.name state there in
      let mine = ending.met.claimed.mine place pod ending.at in
      let same : grown.it ≡ mine.it = same_Some grown.it mine.it (sym grown.is ∙ mine.is) in
      sym grown.has.plan ∙ (ap (λ (s : PodState). s.plan) same ∙ (mine.has.plan ∙ sym plan_now))

  pub end_tried : ExitsAreWalked → EndsFit → (outcome : Outcome) → EndsSo seen.view moment root now.told now.files pod_now outcome → MayTry seen.view (actor_of me) moment (end_of pod_now outcome)
  end_tried walk fit outcome ends =
      let it = sees_own me.number me.life moment seen.view held pod.name ending.first ending.own in
      let is : seen.view.pod pod_now.name ≡ Some it.state = ap seen.view.pod name_now ∙ it.is_seen in
      let plan = same_plan it.state it.is_seen in
      let walked : AreExits it.state.plan (exits_of pod_now.steps.items) = subst (λ (p : Plan). AreExits p (exits_of pod_now.steps.items)) (sym plan) (exits_are walk) in
      end_may me seen.view moment pod_now outcome it.state is it.claimed it.unended walked (ends_cause seen.view moment root now.told now.files pod_now fit outcome ends it.state is plan)

  pub met_now : MovesKeep → AreMet me.number me.life root ready history now.killed now.told
  met_now keep = keep me.number me.life root held ready history before.killed now.killed before.told now.told ending.legal ending.met moved stayed still_now

  met_then : MovesKeep → (outcome : Outcome) → EndsSo seen.view moment root now.told now.files pod_now outcome → (stored after : Stored) → stored.history ≡ history → (turn : KubeletTurn) → Answered stored (entry_by me seen moment (end_of pod_now outcome)) turn after → AreMet me.number me.life root (held_behind turn place ready) after.history now.killed now.told
  met_then keep outcome ends stored after same (turns.Wrote version) answered =
      let here = met_ended me.number me.life root ready history now.killed now.told (met_now keep) seen.fronts moment place pod_now at_now (exits_of pod_now.steps.items) outcome (ends_own seen.view moment root now.told now.files pod_now outcome ends) dead_now (remove ready place) (without_of ready place (met_now keep).claimed.apart) in
      let grown : after.history ≡ entry_by me seen moment (end_of pod_now outcome) ∷ history = answered.1.added ∙ ap (λ (h : List Entry). entry_by me seen moment (end_of pod_now outcome) ∷ h) same in
      subst (λ (h : List Entry). AreMet me.number me.life root (remove ready place) h now.killed now.told) (sym grown) here
  met_then keep outcome ends stored after same (turns.Conflict found) answered =
      let stands : after.history ≡ history = ap (λ (s : Stored). s.history) answered.2 ∙ same in
      subst (λ (h : List Entry). AreMet me.number me.life root ready h now.killed now.told) (sym stands) (met_now keep)
  met_then keep outcome ends stored after same turns.Acted answered = absurd answered
  met_then keep outcome ends stored after same turns.Idle answered = absurd answered
  met_then keep outcome ends stored after same turns.HostFault answered = absurd answered

  tries_now : (outcome : Outcome) → EndsSo seen.view moment root now.told now.files pod_now outcome → Tries seat ready now (end_of pod_now outcome)
  tries_now outcome ends = (
    first_now,
    ends_pod_so seat ready now pod_now.name (exits_of pod_now.steps.items) outcome (ends_own seen.view moment root now.told now.files pod_now outcome ends) record {
      place = place;
      pod = pod_now;
      at = at_now;
      named = refl;
      own_exits = refl;
      ends = ends;
      dead = dead_now;
    },
  )

  held_then : (turn : KubeletTurn) → HeldAfter ready (held_behind turn place ready)
  held_then (turns.Wrote version) = held_less ready place
  held_then (turns.Conflict found) = λ i p found_at. inl (i, found_at)
  held_then turns.Acted = λ i p found_at. inl (i, found_at)
  held_then turns.Idle = λ i p found_at. inl (i, found_at)
  held_then turns.HostFault = λ i p found_at. inl (i, found_at)

  -- by the answer

  module _ {E : Type 0} (outcome : Outcome) (ends : EndsSo seen.view moment root now.told now.files pod_now outcome) (new : List HeldPod) (stored after : Stored) (same : stored.history ≡ history) where
    pub result_gives : (result : Result KubeletTurn E) → IfOk result (λ turn. Answered stored (entry_by me seen moment (end_of pod_now outcome)) turn after) → IfOk result (λ turn. new ≡ held_behind turn place ready) → IfOk result (EndGives seat held new hosts stored after)
    result_gives (Ok turn) answered is = record {
      ready = ready;
      concludes = concludes_now;
      held = subst (HeldAfter ready) (sym is) (held_then turn);
      answers = record { act = end_of pod_now outcome; tries = tries_now outcome ends; answered = answered };
    }
    result_gives (Err e) answered is = tt

    pub result_met : MovesKeep → (result : Result KubeletTurn E) → IfOk result (λ turn. Answered stored (entry_by me seen moment (end_of pod_now outcome)) turn after) → IfOk result (λ turn. new ≡ held_behind turn place ready) → OnErr result (after ≡ stored) → OnErr result (new ≡ ready) → AreMet me.number me.life root new after.history now.killed now.told
    result_met keep (Ok turn) answered is stands kept = subst (λ (ps : List HeldPod). AreMet me.number me.life root ps after.history now.killed now.told) (sym is) (met_then keep outcome ends stored after same turn answered)
    result_met keep (Err e) answered is stands kept =
        let history_is : after.history ≡ history = ap (λ (s : Stored). s.history) stands ∙ same in
        let here : AreMet me.number me.life root ready after.history now.killed now.told = subst (λ (h : List Entry). AreMet me.number me.life root ready h now.killed now.told) (sym history_is) (met_now keep) in
        subst (λ (ps : List HeldPod). AreMet me.number me.life root ps after.history now.killed now.told) (sym kept) here

    pub result_missed : (result : Result KubeletTurn E) → OnErr result (after ≡ stored) → OnErr result (new ≡ ready) → OnErr result (EndMissed seat held new hosts stored after)
    result_missed (Ok turn) stands kept = tt
    result_missed (Err e) stands kept =
        let missed : EndMissed seat held ready hosts stored after = record { same = stands; concludes = concludes_now } in
        subst (λ (ps : List HeldPod). EndMissed seat held ps hosts stored after) (sym kept) missed

  -- memory lacked for its outcome
  pub end_missed : (stored : Stored) → EndMissed seat held ready hosts stored stored
  end_missed stored = record { same = refl; concludes = concludes_now }

-- A kubelet that watches all steps of its held pods, over a prompt host, may end each of them or moves.
use Rattle.std.proofs.Common.{◌≡◌, ℕ, suc, ◌<◌, ◌≤◌, ◌+◌, List, [], ◌∷◌, ◌++◌, length, Option, Some, None, Bool, true, refl, sym, ◌∙◌, ap, subst, arith, inl, inr}
use Rattle.std.specs.Prelude.{◌⊎◌, unwrap_or, get_or}
use Rattle.std.proofs.lemmas.Bool.{eq-eqb}
use Rattle.tk_pod.specs.Walk.{passes_at}
use Rattle.tk_types.specs.declared.run.Outcome.{Outcome}
use Rattle.tk_types.specs.declared.run.Outcome.TheVariants as outcomes
use Rattle.tk_types.specs.declared.value.Param.{Param}
use Rattle.tk_types.specs.declared.value.ResultSpec.{ResultSpec}
use Rattle.tk_edge.specs.declared.event.Event.{Event as HostEvent}
use Rattle.tk_edge.specs.declared.event.Event.TheVariants as events
use Rattle.tk_edge.specs.declared.event.Arming.{Arming}
use Rattle.tk_edge.specs.declared.order.Watch.{Watch}
use Rattle.tk_edge.specs.declared.order.Watch.TheVariants as watches
use Rattle.tk_edge.specs.Calls.{TellsTurn, TellsExit}
use Rattle.tk_edge.specs.History.{IsTold, GoesOn}
use Rattle.tk_edge.specs.InOrder.{Claimed, StepPassed, IsKept}
use Rattle.tk_edge.proofs.InOrder.{order_stays, exit_stays, step_stays}
use Rattle.tk_journal.specs.declared.act.Act.{Act}
use Rattle.tk_journal.specs.declared.act.Act.TheVariants as acts
use Rattle.tk_journal.specs.declared.entry.Actor.TheVariants as actors
use Rattle.tk_journal.specs.declared.entry.Entry.{Entry}
use Rattle.tk_journal.specs.declared.object.PodState.{PodState}
use Rattle.tk_journal.specs.Lists.{Has}
use Rattle.tk_journal.specs.History.{View, pod_of}
use Rattle.tk_journal.specs.PodRows.{claims_for, AreExits, IsWell, IsBroke, AreResults, EndCause, EndRow}
use Rattle.tk_held.specs.declared.judging.Settled.{Settled}
use Rattle.tk_held.specs.declared.judging.Settled.TheVariants as settled
use Rattle.tk_held.specs.Settled.{settled_in, settled_by}
use Rattle.tk_held.specs.Conditions.{claimed_pod, is_over, pods_of}
use Rattle.tk_machine.specs.Hosts.{Script, AreGathered, IsFree, IsHeldBy, EndsSo, EndsHeld, MayTry, exits_in, deeds_of, layout}
use Rattle.tk_machine.specs.Kills.{StepBroke}
use Rattle.tk_machine.specs.Prompt.{WatchesFrom, IsWatched, WatchedMoves}
use Rattle.tk_machine.proofs.Deeds.{deeds_grow}
use Rattle.tk_machine.proofs.Exits.{few_exits, walk_from, all_from, broke_from}
use Rattle.tk_machine.proofs.Settling.{cancelled_of, timed_out_of}
use Rattle.tk_machine.proofs.Walks.{walk_passes, well_walked, broke_walked}
use Rattle.tk_machine.proofs.Watching.{IsWalkedBy, watches_come}

-- a history goes on

go_same : (old new : List HostEvent) → new ≡ old → GoesOn old new
go_same old new is = record { since = []; is = is }

go_one : (e : HostEvent) (old new : List HostEvent) → new ≡ e ∷ old → GoesOn old new
go_one e old new is = record { since = e ∷ []; is = is }

append_assoc : (xs ys zs : List HostEvent) → (xs ++ ys) ++ zs ≡ xs ++ (ys ++ zs)
append_assoc [] ys zs = refl
append_assoc (x ∷ xs) ys zs = ap (λ (rest : List HostEvent). x ∷ rest) (append_assoc xs ys zs)

go_trans : (a b c : List HostEvent) → GoesOn a b → GoesOn b c → GoesOn a c
go_trans a b c first second = record {
  since = second.since ++ first.since;
  is = second.is ∙ (ap (λ (h : List HostEvent). second.since ++ h) first.is ∙ sym (append_assoc second.since first.since a));
}

exit_goes : (child exit : ℕ) (old new : List HostEvent) → TellsExit child exit old new → GoesOn old new
exit_goes child exit old new tells = elim tells [ inl fresh ↦ go_one (events.Exited child exit) old new fresh.1 | inr same ↦ go_same old new same.1 ]

turn_goes : (child : ℕ) (arming : Arming) (old new : List HostEvent) (watch : Watch) → TellsTurn child arming old new watch → GoesOn old new
turn_goes child arming old new watches.Waits tells = go_same old new tells.1
turn_goes child arming old new watches.Started tells = go_one (events.Started child arming.order) old new tells.2
turn_goes child arming old new watches.Runs tells = go_same old new tells.1
turn_goes child arming old new (watches.Passed exit) tells = exit_goes child exit old new tells.1
turn_goes child arming old new (watches.Broke (Some exit)) tells = exit_goes child exit old new tells.1
turn_goes child arming old new (watches.Broke None) tells = elim tells [ inl fresh ↦ go_one (events.Refused child) old new fresh.1 | inr same ↦ go_same old new same.1 ]

watches_go : (keep : ℕ) (pod : List ℕ) (step : ℕ) (children : List ℕ) (old new : List HostEvent) → WatchesFrom keep pod step children old new → GoesOn old new
watches_go keep pod step [] old new done = go_same old new done
watches_go keep pod step (child ∷ children) old new done = go_trans old done.0 new (turn_goes child done.1.arming old done.0 done.1.watch done.1.tells) (watches_go keep pod (suc step) children done.0 new done.2)

-- and what it tells of steps stays

passed_on : (keep : ℕ) (pod : List ℕ) (step : ℕ) (since old : List HostEvent) → IsTold (since ++ old) → StepPassed keep pod step old → StepPassed keep pod step (since ++ old)
passed_on keep pod step [] old told s = s
passed_on keep pod step (e ∷ since) old told s = step_stays keep pod step e (since ++ old) told.0 (passed_on keep pod step since old told.1 s)

broke_on : (keep : ℕ) (pod : List ℕ) (step : ℕ) (since old : List HostEvent) → IsTold (since ++ old) → StepBroke keep pod step old → StepBroke keep pod step (since ++ old)
broke_on keep pod step [] old told s = s
broke_on keep pod step (e ∷ since) old told s =
    let before = broke_on keep pod step since old told.1 s in
    record {
      child = before.child;
      order = before.order;
      started = order_stays before.child before.order e (since ++ old) told.0 before.started;
      same_pod = before.same_pod;
      same_step = before.same_step;
      exit = before.exit;
      exited = exit_stays before.child before.exit e (since ++ old) told.0 before.exited;
      broke = before.broke;
    }

walked_on : (keep : ℕ) (pod : List ℕ) (count : ℕ) (old new : List HostEvent) → GoesOn old new → IsTold new → IsWalkedBy keep pod count old → IsWalkedBy keep pod count new
walked_on keep pod count old new goes told walked =
    let told_since : IsTold (goes.since ++ old) = subst IsTold goes.is told in
    subst (IsWalkedBy keep pod count) (sym goes.is) (record {
      until = walked.until;
      passed = λ j below. passed_on keep pod j goes.since old told_since (walked.passed j below);
      over = elim walked.over [ inl all ↦ inl all | inr broke ↦ inr (broke.0, broke_on keep pod walked.until goes.since old told_since broke.1) ];
    })

deeds_after : (old new : List HostEvent) → GoesOn old new → length (deeds_of old) ≤ length (deeds_of new)
deeds_after old new goes = omega (arith, deeds_grow goes.since old, ap (λ (h : List HostEvent). length (deeds_of h)) goes.is)

no_results : (declared : List ResultSpec) → AreResults declared []
no_results declared = record { once = λ i j d less below. absurd (omega arith); each = λ param has. absurd (omega (arith, has.1)) }

module _ (script : Script) (gathered : AreGathered script) (number life moment : ℕ) (history : List Entry) (view : View) (killed : ℕ → Bool) (old new : List HostEvent) (kept : IsKept layout killed (pods_of number history) new)
    (name : List ℕ) (pod : PodState) (there : pod_of history name ≡ Some pod) (seen : view.pod name ≡ Some pod) (held : IsHeldBy number life pod) where
  abbrev claimed : Claimed
  claimed = record { orders = pod.plan.orders; keep = pod.plan.keep; is_over = is_over pod.ended }

  is_claimed : pods_of number history name ≡ Some claimed
  is_claimed =
      let hit : claims_for number pod.claim ≡ true = ap (claims_for number) held.claimed ∙ eq-eqb number number refl in
      ap (claimed_pod number) there ∙ rw hit refl

  abbrev steps : ℕ
  steps = length pod.plan.orders

  abbrev exits : List ℕ
  exits = exits_in name pod new

  are_exits : AreExits pod.plan exits
  are_exits = record {
    few = few_exits (pods_of number history) new kept.told kept.in_order.due name claimed is_claimed 0 steps;
    before_last = λ k below.
        let on : 0 + k ≡ k = omega arith in
        ap (λ (n : ℕ). passes_at pod.plan.keep n (get_or exits k 0)) (sym on)
        ∙ walk_passes pod.plan.keep 0 exits (walk_from (pods_of number history) new kept.told kept.in_order.due name claimed is_claimed 0 steps) k below;
  }

  row : (outcome : Outcome) → EndCause view moment exits pod outcome → EndRow view (actors.Kubelet number life) moment exits outcome pod
  row outcome cause = record { number = number; life = life; by = refl; claimed_in = life; claimed = held.claimed; unended = held.unended; fits = inl (refl, are_exits, cause) }

  ends : (outcome : Outcome) → EndCause view moment exits pod outcome → EndsSo script view moment name pod exits outcome → Has (view.pod name) (EndsHeld script number life history view moment new name exits outcome)
  ends outcome cause so = record { it = pod; is = seen; has = record { row = row outcome cause; held = held; still = record { it = pod; is = there; has = held }; exits_told = refl; ends = so } }

  abbrev CanEnd : Type 0
  CanEnd = (act : Act) × MayTry script number life history view moment new act

  -- what is seen of the pod
  judged : (s : Settled) → settled_in view moment name ≡ Some s → settled_by view.task_run moment (Some pod) ≡ Some s
  judged s is = ap (settled_by view.task_run moment) (sym seen) ∙ is

  ends_settled : (s : Settled) → settled_in view moment name ≡ Some s → CanEnd
  ends_settled settled.Cancelled is = (acts.EndPod name exits outcomes.Cancelled, ends outcomes.Cancelled (cancelled_of moment pod (view.task_run pod.task_run) (judged settled.Cancelled is)) is)
  ends_settled settled.TimedOut is = (acts.EndPod name exits outcomes.TimedOut, ends outcomes.TimedOut (timed_out_of moment pod (view.task_run pod.task_run) (judged settled.TimedOut is)) is)

  ends_well : IsFree view moment name → IsWell pod.plan exits → (g : Option (List Param)) → script.gathered name pod.plan.results ≡ g → CanEnd
  ends_well free well None refused = (acts.EndPod name exits (outcomes.Failed None []), ends (outcomes.Failed None []) refl (free, (well, refused, refl)))
  ends_well free well (Some results) is = (acts.EndPod name exits (outcomes.Succeeded results), ends (outcomes.Succeeded results) (well, gathered name pod.plan.results results is) (free, (well, is)))

  are_results : (g : Option (List Param)) → script.gathered name pod.plan.results ≡ g → AreResults pod.plan.results (unwrap_or g [])
  are_results None is = no_results pod.plan.results
  are_results (Some results) is = gathered name pod.plan.results results is

  ends_broke : IsFree view moment name → (exit : ℕ) → IsBroke pod.plan exits exit → CanEnd
  ends_broke free exit broke =
      let results = unwrap_or (script.gathered name pod.plan.results) [] in
      (acts.EndPod name exits (outcomes.Failed (Some exit) results), ends (outcomes.Failed (Some exit) results) (broke, are_results (script.gathered name pod.plan.results) refl) (free, (broke, refl)))

  ends_walked : IsFree view moment name → IsWalkedBy pod.plan.keep name steps new → CanEnd
  ends_walked free walked = elim walked.over [
    | inl all ↦ (
        let well = all_from (pods_of number history) new kept.told kept.in_order.due name claimed is_claimed pod.plan.keep 0 steps (λ j low high. walked.passed j (omega (arith, all, high))) in
        ends_well free (well_walked pod.plan exits well.0 well.1) (script.gathered name pod.plan.results) refl)
    | inr broke ↦ (
        let from = broke_from (pods_of number history) new kept.told kept.in_order.due name claimed is_claimed 0 steps walked.until (omega arith) (omega (arith, broke.0)) (λ j low below. walked.passed j below) broke.1 in
        ends_broke free broke.1.exit (broke_walked pod.plan exits from.before broke.1.exit walked.until from.last from.pass from.place broke.1.broke))
  ]

  ends_free : IsFree view moment name → IsWatched number history name pod old new → CanEnd ⊎ (length (deeds_of old) < length (deeds_of new))
  ends_free free w = elim (watches_come (pods_of number history) name claimed is_claimed w.before w.in_order w.first 0 steps w.children w.after (omega (arith, w.all)) (λ j below. absurd (omega arith)) w.watches) [
    | inl more ↦ inr (omega (arith, more, deeds_after old w.before w.from_old, deeds_after w.after new w.to_new))
    | inr walked ↦ inl (ends_walked free (walked_on pod.plan.keep name steps w.before new (go_trans w.before w.after new (watches_go pod.plan.keep name 0 w.children w.before w.after w.watches) w.to_new) kept.told walked))
  ]

  moves_one : (IsFree view moment name → IsWatched number history name pod old new) → CanEnd ⊎ (length (deeds_of old) < length (deeds_of new))
  moves_one watched = by_judgement (settled_in view moment name) refl
    where
      by_judgement : (o : Option Settled) → settled_in view moment name ≡ o → CanEnd ⊎ (length (deeds_of old) < length (deeds_of new))
      by_judgement (Some s) is = inl (ends_settled s is)
      by_judgement None free = ends_free free (watched free)

pub watched_moves : (script : Script) → WatchedMoves script
watched_moves script gathered number life moment history view killed old new kept watched name pod there seen held =
    moves_one script gathered number life moment history view killed old new kept name pod there seen held (watched name pod there held)

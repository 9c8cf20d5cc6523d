-- Nodes of which all that runs was killed.
use Rattle.std.proofs.lemmas.Bool.{cases_Bool, eqb-false, eqb-true}
use Rattle.std.proofs.Common.{◌≡◌, ◌≢◌, nat_eq, ◌≤◌, ◌<◌, ◌+◌, ℕ, List, length, sym, ◌∙◌, ap, subst, arith, Some, inl, inr}
use Rattle.std.specs.Prelude.{Bool, Option, slice_get, slice_set}
use Rattle.tk_edge.specs.declared.event.Event.{Event}
use Rattle.tk_edge.specs.declared.gate.GateTurn.{GateTurn}
use Rattle.tk_edge.specs.InOrder.{IsSettled}
use Rattle.tk_journal.specs.declared.entry.Entry.{Entry}
use Rattle.tk_journal.specs.History.{pod_of}
use Rattle.tk_journal.specs.Legal.{IsLegal}
use Rattle.tk_kubelet.specs.Holding.{AreOwnSettled, Holding, IsMet}
use Rattle.tk_steps.specs.Paths.{layout_of}
use Rattle.tk_steps.specs.declared.held.HeldPod.{HeldPod}
use Rattle.tk_held.specs.Conditions.{AreMet, pods_of}
use Rattle.tk_held.specs.Pods.{count_failed}
use Rattle.tk_held.specs.Settling.{StayKilled}
use Rattle.tk_held.proofs.Again.{kept_killed}
use Rattle.tk_rounds.specs.declared.bench.Node.{Node}
use Rattle.tk_rounds.specs.Members.{AreOfLife}
use Rattle.tk_rounds.specs.Bench.{AllFollow, AllReady, IsReadyNode, NodeFollows, node_number}
use Rattle.tk_rounds.specs.Outcomes.{AreForClaimed, HasOutcomes}
use Rattle.tk_rounds.proofs.Ended.{rose_later}
use Rattle.tk_rounds.proofs.Parts.{set_cases}
use Rattle.tk_run.specs.Run.{AreAllOfLife, AreAllSettled, AreSettledBelow}
use Rattle.tk_run.proofs.Lives.{claimed_for, own_claim}

still_settled : (killed dead : ℕ → Bool) → StayKilled killed dead → (child : ℕ) (told : List Event) → IsSettled killed child told → IsSettled dead child told
still_settled killed dead more child told (inl exit) = inl exit
still_settled killed dead more child told (inr kill) = inr (more child kill)

met_killed : (number life : ℕ) (root : List ℕ) (held : List HeldPod) (history : List Entry) (killed dead : ℕ → Bool) (told : List Event) → StayKilled killed dead → AreMet number life root held history killed told → AreMet number life root held history dead told
met_killed number life root held history killed dead told more met = record {
  claimed = met.claimed;
  keeps = met.keeps;
  ready = met.ready;
  kept = kept_killed (layout_of root) killed dead (pods_of number history) told more met.kept;
  settled = λ child arming armed over. still_settled killed dead more child told (met.settled child arming armed over);
}

-- all that a kubelet armed is settled, where all its entries are of its life
settled_all : (kubelet : Holding) (history : List Entry) (killed now : ℕ → Bool) (told : List Event) → IsLegal history → AreOfLife kubelet.number kubelet.life history → IsMet kubelet history killed told → AreOwnSettled kubelet killed now told → AreAllSettled now told
settled_all kubelet history killed now told legal lived met settled child arming armed =
    let arms = met.kept.armed.each child arming armed in
    let claimed = claimed_for kubelet.number (pod_of history arming.order.pod) arms.claimed arms.is_claimed in
    settled history met child arming armed (record { it = claimed.0; is = claimed.1; has = own_claim kubelet.number kubelet.life history legal lived arming.order.pod claimed.0 claimed.1 claimed.2 })

module _ {K H G : Type 0} (told : H → List Event) (killed : H → ℕ → Bool) (faults : H → ℕ) (answers : G → Option (List GateTurn)) (readings : K → Option (List ℕ)) (last : K → ℕ) (history : List Entry) (nodes : List (Node K H G)) (i : ℕ) (n now : Node K H G)
    (at : slice_get nodes i ≡ Some n) (same : now ≡ record n { host = now.host }) (silent : told now.host ≡ told n.host) (more : StayKilled (killed n.host) (killed now.host)) (later : faults n.host ≤ faults now.host) where
  ready_one : IsReadyNode told killed history n → IsReadyNode told killed history now
  ready_one is = subst (IsReadyNode told killed history) (sym same) (record {
    shows = is.shows;
    met = subst (AreMet n.kubelet.number n.kubelet.life n.kubelet.root n.kubelet.held history (killed now.host)) (sym silent)
        (met_killed n.kubelet.number n.kubelet.life n.kubelet.root n.kubelet.held history (killed n.host) (killed now.host) (told n.host) more is.met);
  })

  pub killed_ready : AllReady node_number (IsReadyNode told killed) history nodes → AllReady node_number (IsReadyNode told killed) history (slice_set nodes i now)
  killed_ready are j m at_m = elim (set_cases nodes i j now m at_m) [
    | inl hit ↦ (
        let was = are i n at in
        (ap node_number hit.1 ∙ (ap node_number same ∙ (was.0 ∙ sym hit.0)), subst (IsReadyNode told killed history) (sym hit.1) (ready_one was.1)))
    | inr miss ↦ are j m miss.1
  ]

  follow_one : (start : Node K H G) → NodeFollows answers readings last told faults start n history → NodeFollows answers readings last told faults start now history
  follow_one start is = subst (λ (x : Node K H G). NodeFollows answers readings last told faults start x history) (sym same) (record {
    since = is.since;
    same = is.same;
    life = is.life;
    outcomes = subst (λ (h : List Event). HasOutcomes n.kubelet.number n.kubelet.life n.kubelet.root n.kubelet.held (faults start.host) (faults now.host) h history) (sym silent) (record {
      failed = is.outcomes.failed;
      few = rose_later (length is.outcomes.failed + count_failed n.kubelet.held) (faults start.host) (faults n.host) (faults now.host) later is.outcomes.few;
      each = is.outcomes.each;
    });
    deeds = subst (AreForClaimed n.kubelet.number n.kubelet.root history) (sym silent) is.deeds;
  })

  pub killed_follow : (before : List (Node K H G)) → AllFollow (NodeFollows answers readings last told faults) before nodes history history → AllFollow (NodeFollows answers readings last told faults) before (slice_set nodes i now) history history
  killed_follow before were j start a b at_a at_b is = elim (set_cases nodes i j now b at_b) [
    | inl hit ↦ subst (λ (m : Node K H G). NodeFollows answers readings last told faults start m history) (sym hit.1)
        (follow_one start (were i start a n (subst (λ (k : ℕ). slice_get before k ≡ Some a) hit.0 at_a) at is))
    | inr miss ↦ were j start a b at_a miss.1 is
  ]

  -- the first ones and this one
  pub killed_settled : IsLegal history → AreOfLife n.kubelet.number n.kubelet.life history → IsReadyNode told killed history n → AreOwnSettled n.kubelet (killed n.host) (killed now.host) (told now.host) → AreSettledBelow told killed i nodes → AreSettledBelow told killed (i + 1) (slice_set nodes i now)
  killed_settled legal lived ready settled were j m below at_m = elim (set_cases nodes i j now m at_m) [
    | inl hit ↦ subst (λ (x : Node K H G). AreAllSettled (killed x.host) (told x.host)) (sym hit.1)
        (settled_all n.kubelet history (killed n.host) (killed now.host) (told now.host) legal lived (subst (IsMet n.kubelet history (killed n.host)) (sym silent) ready.met) settled)
    | inr miss ↦ were j m (let differ = miss.0 in other_below i j below differ) miss.1
  ]
    where
      other_below : (i j : ℕ) → j < i + 1 → (j ≢ i) → j < i
      other_below i j below differ = elim (cases_Bool (nat_eq j i)) [
        | inl hit ↦ absurd (differ (eqb-true j i hit))
        | inr miss ↦ omega (arith, below, eqb-false j i miss)
      ]

  -- its kubelet is the same
  pub killed_lived : AreAllOfLife history nodes → AreAllOfLife history (slice_set nodes i now)
  killed_lived are j m at_m = elim (set_cases nodes i j now m at_m) [
    | inl hit ↦ subst (λ (x : Node K H G). AreOfLife x.kubelet.number x.kubelet.life history) (sym (hit.1 ∙ same)) (are i n at)
    | inr miss ↦ are j m miss.1
  ]

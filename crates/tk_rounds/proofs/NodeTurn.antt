-- What stands of a node stands behind its own turn.
use Rattle.std.proofs.Common.{◌≡◌, ◌≢◌, ℕ, List, Option, Ok, Err, refl, sym, ◌∙◌, subst, inl, inr}
use Rattle.std.specs.Prelude.{Bool, IfOk, OnErr, Result}
use Rattle.tk_edge.specs.declared.event.Event.{Event}
use Rattle.tk_edge.specs.declared.gate.GateTurn.{GateTurn}
use Rattle.tk_edge.specs.declared.gate.GateTurn.TheVariants.{Deliver, Relist, Work, Pause}
use Rattle.tk_edge.specs.Files.{Files}
use Rattle.tk_edge.specs.Gates.{AddsAnswer}
use Rattle.tk_edge.specs.Plays.{Play}
use Rattle.tk_journal.specs.Legal.{IsLegal}
use Rattle.tk_store.specs.Writes.{Stored}
use Rattle.tk_cache.specs.Fronts.{Shows}
use Rattle.tk_cache.specs.Views.{seen}
use Rattle.tk_steps.specs.declared.held.HeldPod.{HeldPod}
use Rattle.tk_held.specs.Conditions.{AreMet, ArePlanned}
use Rattle.tk_held.specs.Pods.{MovesAll}
use Rattle.tk_kubelet.specs.Holding.{IsMet, IsSameKubelet}
use Rattle.tk_kubelet.specs.Seat.{Hosts, hosts_of, seat_of}
use Rattle.tk_kubelet.specs.Turn.{TurnMissed}
use Rattle.tk_rounds.specs.declared.bench.Node.{Node}
use Rattle.tk_rounds.specs.Bench.{IsReadyNode, NodeFollows}
use Rattle.tk_rounds.specs.Follows.{FollowsSince, told_by}
use Rattle.tk_rounds.specs.Members.{of_kubelet}
use Rattle.tk_rounds.specs.Outcomes.{AreForClaimed, HasOutcomes}
use Rattle.tk_rounds.specs.Turning.{AddsOfLife, IsTurn, KubeletWorks, place_of}
use Rattle.tk_rounds.proofs.Ended.{claimed_moved}
use Rattle.tk_rounds.proofs.Recorded.{claimed_all}
use Rattle.tk_rounds.proofs.Standing.{life_on, turn_on}
use Rattle.tk_rounds.proofs.Turns.{outcomes_given, outcomes_missed}

module _ {K H G E : Type 0} (answers : G → Option (List GateTurn)) (readings : K → Option (List ℕ)) (last : K → ℕ)
    (told : H → List Event) (killed : H → ℕ → Bool) (faults : H → ℕ) (watches : H → ℕ → ℕ) (files : H → Option Files) (plays : H → Option Play)
    (start old new : Node K H G) (given : GateTurn) (before after : Stored) (result : Result Bool E)
    (planned : ArePlanned before.history) (legal : IsLegal after.history) (kubelet : IsSameKubelet old.kubelet new.kubelet)
    (met : IsMet old.kubelet before.history (killed old.host) (told old.host)) (met_now : IsMet new.kubelet after.history (killed new.host) (told new.host))
    (lives : AddsOfLife old.kubelet.number old.kubelet.life before.history after.history) where
  abbrev hosts : Hosts
  hosts = hosts_of told killed faults watches files plays old.host new.host

  abbrev Worked : Type 0
  Worked = IfOk result (KubeletWorks (seat_of old.kubelet (seen old.cache) (last new.clock)) old.kubelet.held new.kubelet.held hosts before after)

  abbrev Missed : Type 0
  Missed = OnErr result (TurnMissed (seat_of old.kubelet (seen old.cache) (last new.clock)) old.kubelet.held new.kubelet.held hosts before after)

  -- the number, the life and the root are those before the turn
  abbrev Outcomes : Type 0
  Outcomes = HasOutcomes old.kubelet.number old.kubelet.life old.kubelet.root new.kubelet.held (faults start.host) (faults new.host) (told new.host) after.history

  abbrev Deeds : Type 0
  Deeds = AreForClaimed old.kubelet.number old.kubelet.root after.history (told new.host)

  met_same : AreMet old.kubelet.number old.kubelet.life old.kubelet.root new.kubelet.held after.history (killed new.host) (told new.host)
  met_same =
      subst (λ (n : ℕ). AreMet n old.kubelet.life old.kubelet.root new.kubelet.held after.history (killed new.host) (told new.host)) kubelet.number
      (subst (λ (l : ℕ). AreMet new.kubelet.number l old.kubelet.root new.kubelet.held after.history (killed new.host) (told new.host)) kubelet.life
      (subst (λ (r : List ℕ). AreMet new.kubelet.number new.kubelet.life r new.kubelet.held after.history (killed new.host) (told new.host)) kubelet.root met_now))

  deeds_moved : (ready : List HeldPod) → MovesAll old.kubelet.root old.kubelet.held ready (told old.host) (told new.host) → AreForClaimed old.kubelet.number old.kubelet.root before.history (told old.host) → Deeds
  deeds_moved ready moves was = elim lives [
    | inl same ↦ rw same now
    | inr one ↦ rw one.1 (claimed_all before.history one.0 (subst IsLegal one.1 legal) old.kubelet.number old.kubelet.root (told new.host) now)
  ]
    where
      now : AreForClaimed old.kubelet.number old.kubelet.root before.history (told new.host)
      now = claimed_moved old.kubelet.number old.kubelet.life old.kubelet.root old.kubelet.held before.history (killed old.host) (told old.host) met ready (told new.host) moves was

  module _ (was : HasOutcomes old.kubelet.number old.kubelet.life old.kubelet.root old.kubelet.held (faults start.host) (faults old.host) (told old.host) before.history)
      (did : AreForClaimed old.kubelet.number old.kubelet.root before.history (told old.host)) where
    after_work : (r : Result Bool E) → IfOk r (KubeletWorks (seat_of old.kubelet (seen old.cache) (last new.clock)) old.kubelet.held new.kubelet.held hosts before after) → OnErr r (TurnMissed (seat_of old.kubelet (seen old.cache) (last new.clock)) old.kubelet.held new.kubelet.held hosts before after) → Outcomes × Deeds
    after_work (Ok wrote) worked missed = (
      outcomes_given old.kubelet.number old.kubelet.life old.kubelet.root (seen old.cache) (last new.clock) (faults start.host) old.kubelet.held new.kubelet.held hosts before after planned legal met met_same was worked.0 worked.1,
      deeds_moved worked.1.ready worked.1.readied.moves did,
    )
    after_work (Err error) worked missed = (
      outcomes_missed old.kubelet.number old.kubelet.life old.kubelet.root (seen old.cache) (last new.clock) (faults start.host) old.kubelet.held new.kubelet.held hosts before after planned legal met met_same was missed,
      deeds_moved new.kubelet.held missed.moves did,
    )

    after_rest : after.history ≡ before.history → new.host ≡ old.host → new.kubelet ≡ old.kubelet → Outcomes × Deeds
    after_rest same host held = rw (same, host, held) (was, did)

    abbrev turned : GateTurn → Type 0
    turned g = IsTurn (of_kubelet old.kubelet.number) g (place_of readings last old.clock old.cache before) (place_of readings last new.clock new.cache after)

    pub node_kept : (g : GateTurn) → turned g → (g ≡ Work → Worked) → (g ≡ Work → Missed) → (g ≢ Work → (new.host ≡ old.host) × (new.kubelet ≡ old.kubelet)) → Outcomes × Deeds
    node_kept Work turn worked missed rests = after_work result (worked refl) (missed refl)
    node_kept (Deliver kind n) turn worked missed rests = let still = rests (λ is. cc (is)) in after_rest turn.history still.0 still.1
    node_kept (Relist kind position) turn worked missed rests = let still = rests (λ is. cc (is)) in after_rest turn.history still.0 still.1
    node_kept Pause turn worked missed rests = let still = rests (λ is. cc (is)) in after_rest turn.history still.0 still.1

  pub node_after : AddsAnswer given (answers old.gate) (answers new.gate) → Shows (seen old.cache) before.history
      → IsTurn (of_kubelet old.kubelet.number) given (place_of readings last old.clock old.cache before) (place_of readings last new.clock new.cache after)
      → (given ≡ Work → Worked) → (given ≡ Work → Missed) → (given ≢ Work → (new.host ≡ old.host) × (new.kubelet ≡ old.kubelet))
      → NodeFollows answers readings last told faults start old before.history → NodeFollows answers readings last told faults start new after.history
  node_after adds shows turn worked missed rests is =
      let kept = node_kept is.outcomes is.deeds given turn worked missed rests in
      record {
        since = subst (λ (n : ℕ). FollowsSince (of_kubelet n) (told_by answers readings last start.gate start.clock) (told_by answers readings last new.gate new.clock) new.cache.fronts after.history) (sym kubelet.number)
            (turn_on (of_kubelet old.kubelet.number) (told_by answers readings last start.gate start.clock) (answers old.gate) (answers new.gate) given (place_of readings last old.clock old.cache before) (place_of readings last new.clock new.cache after) shows.within adds turn is.since);
        same = record { number = kubelet.number ∙ is.same.number; life = kubelet.life ∙ is.same.life; root = kubelet.root ∙ is.same.root };
        life = rw (kubelet.number, kubelet.life) (life_on old.kubelet.number old.kubelet.life before.history after.history is.life lives);
        outcomes = rw (kubelet.number, kubelet.life, kubelet.root) kept.0;
        deeds = rw (kubelet.number, kubelet.root) kept.1;
      }

-- so it does behind what its gate answered
module _ {K H G E : Type 0} (answers : G → Option (List GateTurn)) (readings : K → Option (List ℕ)) (last : K → ℕ)
    (told : H → List Event) (killed : H → ℕ → Bool) (faults : H → ℕ) (watches : H → ℕ → ℕ) (files : H → Option Files) (plays : H → Option Play)
    (start old mid new : Node K H G) (given : GateTurn) (before after : Stored) (result : Result Bool E)
    (planned : ArePlanned before.history) (legal : IsLegal after.history) (ready : IsReadyNode told killed before.history old)
    (met_now : IsMet new.kubelet after.history (killed new.host) (told new.host)) where
  abbrev Turned : Node K H G → Type 0
  Turned m =
      IsSameKubelet m.kubelet new.kubelet → AddsOfLife m.kubelet.number m.kubelet.life before.history after.history
      → IsTurn (of_kubelet m.kubelet.number) given (place_of readings last m.clock m.cache before) (place_of readings last new.clock new.cache after)
      → (given ≡ Work → IfOk result (KubeletWorks (seat_of m.kubelet (seen m.cache) (last new.clock)) m.kubelet.held new.kubelet.held (hosts_of told killed faults watches files plays m.host new.host) before after))
      → (given ≡ Work → OnErr result (TurnMissed (seat_of m.kubelet (seen m.cache) (last new.clock)) m.kubelet.held new.kubelet.held (hosts_of told killed faults watches files plays m.host new.host) before after))
      → (given ≢ Work → (new.host ≡ m.host) × (new.kubelet ≡ m.kubelet))
      → NodeFollows answers readings last told faults start old before.history → NodeFollows answers readings last told faults start new after.history

  pub node_turned : mid ≡ record old { gate = mid.gate } → AddsAnswer given (answers old.gate) (answers mid.gate) → new.gate ≡ mid.gate → Turned mid
  node_turned same adds gate =
      subst Turned (sym same)
      (λ kubelet lives turn worked missed rests is.
      node_after answers readings last told killed faults watches files plays start old new given before after result planned legal kubelet ready.met met_now lives
      (subst (λ (x : G). AddsAnswer given (answers old.gate) (answers x)) (sym gate) adds) ready.shows turn worked missed rests is)

-- The end as Lost of a pod that an earlier life claimed: the conditions of a turn hold again behind it.
use Rattle.std.proofs.Common.{◌≡◌, ◌≢◌, ℕ, ◌<◌, ◌-◌, List, [], ◌∷◌, Option, Some, None, Ok, Err, Bool, true, false, refl, sym, ◌∙◌, ap, subst, inl, inr, arith, slice_get}
use Rattle.std.specs.Prelude.{bytes_eq, Result, IfOk, OnErr}
use Rattle.std.proofs.lemmas.Bool.{cases_Bool}
use Rattle.std.proofs.lemmas.Option.{same_Some}
use Rattle.std.proofs.lemmas.Slice.Eq.{bytes_eq-Decides}
use Rattle.tk_types.specs.declared.run.Outcome.TheVariants as outcomes
use Rattle.tk_edge.specs.declared.event.Event.{Event}
use Rattle.tk_edge.specs.declared.event.Arming.{Arming}
use Rattle.tk_edge.specs.History.{Has as HasEdge, arming_of}
use Rattle.tk_edge.specs.InOrder.{Claimed, Pods, PodsGrow}
use Rattle.tk_edge.proofs.Keeps.{growth_keeps}
use Rattle.tk_journal.specs.declared.act.Act.TheVariants as acts
use Rattle.tk_journal.specs.declared.entry.Entry.{Entry}
use Rattle.tk_journal.specs.declared.object.Claim.{Claim}
use Rattle.tk_journal.specs.declared.object.EndedPod.{EndedPod}
use Rattle.tk_journal.specs.declared.object.PodState.{PodState}
use Rattle.tk_journal.specs.History.{View, view_at, past, pod_of}
use Rattle.tk_journal.specs.PodRows.{claims_for}
use Rattle.tk_journal.proofs.Present.{same_pod}
use Rattle.tk_steps.specs.declared.held.HeldPod.{HeldPod}
use Rattle.tk_steps.specs.Paths.{layout_of}
use Rattle.tk_store.specs.Writes.{Stored}
use Rattle.tk_cache.specs.Fronts.{Shows}
use Rattle.tk_cache.specs.Views.{Seen}
use Rattle.tk_held.specs.Conditions.{AreArmedSettled, AreMet, claim_of, claimed_pod, claimed_with, is_over, pods_of}
use Rattle.tk_held.proofs.Again.{claims_own}
use Rattle.tk_held.proofs.Grown.{armed_enough}
use Rattle.tk_kubelet.specs.declared.kubelet.KubeletTurn.{KubeletTurn}
use Rattle.tk_kubelet.specs.declared.kubelet.KubeletTurn.TheVariants as turns
use Rattle.tk_kubelet.specs.Answer.{Answered}
use Rattle.tk_kubelet.specs.Ends.{IsLost}
use Rattle.tk_kubelet.specs.Seat.{actor_of, entry_by}

module _ (me : Claim) (root : List ℕ) (held : List HeldPod) (history : List Entry) (killed : ℕ → Bool) (told : List Event) (met : AreMet me.number me.life root held history killed told) (seen : Seen) (moment : ℕ) (name : List ℕ) (state : PodState) (there : pod_of history name ≡ Some state) (life : ℕ) (claimed : state.claim ≡ Some record { number = me.number; life = life }) (earlier : life < me.life) where
  abbrev losing : Entry
  losing = entry_by me seen moment (acts.EndPod name [] outcomes.Lost)

  abbrev lost_state : PodState
  lost_state = record state { ended = Some record { exits = []; outcome = outcomes.Lost } }

  other_pod : (other : List ℕ) → bytes_eq name other ≡ false → pod_of (losing ∷ history) other ≡ pod_of history other
  other_pod other miss = rw miss refl

  this_pod : (other : List ℕ) → bytes_eq name other ≡ true → pod_of (losing ∷ history) other ≡ Some lost_state
  this_pod other hit =
      let same : name ≡ other = (bytes_eq-Decides name other).0 hit in
      let found : pod_of history other ≡ Some state = ap (pod_of history) (sym same) ∙ there in
      rw (hit, found) refl

  not_mine : state.claim ≡ Some (claim_of me.number me.life) → ⊥
  not_mine claim =
      let both : Some record { number = me.number; life = life } ≡ Some (claim_of me.number me.life) = sym claimed ∙ claim in
      let same : record { number = me.number; life = life } ≡ claim_of me.number me.life = same_Some _ _ both in
      let lives : life ≡ me.life = ap (λ (c : Claim). c.life) same in
      absurd (omega (arith, lives, earlier))

  theirs : claims_for me.number state.claim ≡ true
  theirs = claims_own me.number life state.claim claimed

  -- a held pod has another name
  differs : (j : ℕ) (other : HeldPod) → slice_get held j ≡ Some other → bytes_eq name other.name ≡ false
  differs j other found = elim (cases_Bool (bytes_eq name other.name)) [
    | inl hit ↦
        let same : name ≡ other.name = (bytes_eq-Decides name other.name).0 hit in
        let mine = met.claimed.mine j other found in
        let is : state ≡ mine.it = same_Some state mine.it (sym there ∙ (ap (pod_of history) same ∙ mine.is)) in
        absurd (not_mine (ap (λ (s : PodState). s.claim) is ∙ mine.has.claimed))
    | inr miss ↦ miss
  ]

  was_claimed : pods_of me.number history name ≡ Some (claimed_with state)
  was_claimed = ap (claimed_pod me.number) there ∙ rw theirs refl

  is_claimed : (other : List ℕ) → bytes_eq name other ≡ true → pods_of me.number (losing ∷ history) other ≡ Some record { orders = state.plan.orders; keep = state.plan.keep; is_over = false }
  is_claimed other hit = ap (claimed_pod me.number) (this_pod other hit) ∙ rw theirs refl

  grows : PodsGrow (pods_of me.number history) (pods_of me.number (losing ∷ history))
  grows other claimed is = elim (cases_Bool (bytes_eq name other)) [
    | inl hit ↦
        let same : name ≡ other = (bytes_eq-Decides name other).0 hit in
        let now : claimed_with state ≡ claimed = same_Some _ claimed (sym was_claimed ∙ (ap (pods_of me.number history) same ∙ is)) in
        (record { orders = state.plan.orders; keep = state.plan.keep; is_over = false }, is_claimed other hit, ap (λ (c : Claimed). c.orders) now, ap (λ (c : Claimed). c.keep) now)
    | inr miss ↦ (claimed, ap (claimed_pod me.number) (other_pod other miss) ∙ is, refl, refl)
  ]

  settled : AreArmedSettled killed (pods_of me.number (losing ∷ history)) told
  settled child arming armed over = elim (cases_Bool (bytes_eq name arming.order.pod)) [
    | inl hit ↦
        let same : record { orders = state.plan.orders; keep = state.plan.keep; is_over = false } ≡ over.it = same_Some _ over.it (sym (is_claimed arming.order.pod hit) ∙ over.is) in
        let bad : false ≡ true = ap (λ (c : Claimed). c.is_over) same ∙ over.has in
        cc (bad)
    | inr miss ↦ met.settled child arming armed record { it = over.it; is = sym (ap (claimed_pod me.number) (other_pod arming.order.pod miss)) ∙ over.is; has = over.has }
  ]

  met_lost : AreMet me.number me.life root held (losing ∷ history) killed told
  met_lost = record {
    claimed = record {
      mine = λ i p found.
          let mine = met.claimed.mine i p found in
          record { it = mine.it; is = other_pod p.name (differs i p found) ∙ mine.is; has = mine.has };
      all = λ other s is mine unended. elim (cases_Bool (bytes_eq name other)) [
        | inl hit ↦
            let same : lost_state ≡ s = same_Some lost_state s (sym (this_pod other hit) ∙ is) in
            absurd (not_mine (ap (λ (x : PodState). x.claim) same ∙ mine))
        | inr miss ↦ met.claimed.all other s (sym (other_pod other miss) ∙ is) mine unended
      ];
      apart = met.claimed.apart;
      none_lost = λ other s ended is mine is_ended. elim (cases_Bool (bytes_eq name other)) [
        | inl hit ↦
            let same : lost_state ≡ s = same_Some lost_state s (sym (this_pod other hit) ∙ is) in
            absurd (not_mine (ap (λ (x : PodState). x.claim) same ∙ mine))
        | inr miss ↦ met.claimed.none_lost other s ended (sym (other_pod other miss) ∙ is) mine is_ended
      ];
    };
    keeps = met.keeps;
    ready = λ have. met.ready have.1;
    kept = growth_keeps (layout_of root) killed (pods_of me.number history) (pods_of me.number (losing ∷ history)) told grows (armed_enough killed root (pods_of me.number history) (pods_of me.number (losing ∷ history)) told met.kept settled) met.kept;
    settled = settled;
  }

-- behind the entry, or without one
pub lost_then : (me : Claim) (root : List ℕ) (held : List HeldPod) (history : List Entry) (killed : ℕ → Bool) (told : List Event) → AreMet me.number me.life root held history killed told
    → (seen : Seen) (moment : ℕ) (name : List ℕ) → Shows seen history → IsLost me seen.view name → (before after : Stored) → before.history ≡ history → (turn : KubeletTurn)
    → Answered before (entry_by me seen moment (acts.EndPod name [] outcomes.Lost)) turn after → AreMet me.number me.life root held after.history killed told
lost_then me root held history killed told met seen moment name shows lost before after same (turns.Wrote version) answered =
    let current = subst (λ (h : List Entry). pod_of (past seen.fronts.pods h) name ≡ pod_of h name) same (same_pod before.history seen.fronts (actor_of me) moment name answered.0) in
    let there : pod_of history name ≡ Some lost.state = sym current ∙ (ap (λ (v : View). v.pod name) (sym shows.same) ∙ lost.is_seen) in
    let here = met_lost me root held history killed told met seen moment name lost.state there lost.life lost.claimed lost.earlier in
    let grown : after.history ≡ entry_by me seen moment (acts.EndPod name [] outcomes.Lost) ∷ history = answered.1.added ∙ ap (λ (h : List Entry). entry_by me seen moment (acts.EndPod name [] outcomes.Lost) ∷ h) same in
    subst (λ (h : List Entry). AreMet me.number me.life root held h killed told) (sym grown) here
lost_then me root held history killed told met seen moment name shows lost before after same (turns.Conflict found) answered =
    let stands : after.history ≡ history = ap (λ (s : Stored). s.history) answered.2 ∙ same in
    subst (λ (h : List Entry). AreMet me.number me.life root held h killed told) (sym stands) met
lost_then me root held history killed told met seen moment name shows lost before after same turns.Acted answered = absurd answered
lost_then me root held history killed told met seen moment name shows lost before after same turns.Idle answered = absurd answered
lost_then me root held history killed told met seen moment name shows lost before after same turns.HostFault answered = absurd answered

pub lost_result : {E : Type 0} (me : Claim) (root : List ℕ) (held : List HeldPod) (killed : ℕ → Bool) (told : List Event) (seen : Seen) (moment : ℕ) (name : List ℕ) (before after : Stored) → AreMet me.number me.life root held before.history killed told
    → Shows seen before.history → IsLost me seen.view name → (result : Result KubeletTurn E) → IfOk result (λ turn. Answered before (entry_by me seen moment (acts.EndPod name [] outcomes.Lost)) turn after)
    → OnErr result (after ≡ before) → AreMet me.number me.life root held after.history killed told
lost_result me root held killed told seen moment name before after met shows lost (Ok turn) answered stands =
    lost_then me root held before.history killed told met seen moment name shows lost before after refl turn answered
lost_result me root held killed told seen moment name before after met shows lost (Err e) answered stands =
    subst (λ (s : Stored). AreMet me.number me.life root held s.history killed told) (sym stands) met

-- Kills stay right: under entries of others, as time goes on, and in a kubelet's next life.
use Rattle.std.proofs.Common.{◌≡◌, ℕ, ◌<◌, ◌≤◌, List, [], ◌∷◌, Option, Some, None, Bool, true, refl, sym, ◌∙◌, ap, subst, inl, inr, arith}
use Rattle.std.specs.Prelude.{slice_get}
use Rattle.std.proofs.lemmas.Option.{same_Some}
use Rattle.tk_types.specs.declared.scenario.Kind.TheVariants as kinds
use Rattle.tk_edge.specs.declared.event.Event.{Event as HostEvent}
use Rattle.tk_journal.specs.declared.act.Act.{Act}
use Rattle.tk_journal.specs.declared.act.Act.TheVariants as acts
use Rattle.tk_journal.specs.declared.entry.Actor.{Actor}
use Rattle.tk_journal.specs.declared.entry.Actor.TheVariants as actors
use Rattle.tk_journal.specs.declared.entry.Entry.{Entry}
use Rattle.tk_journal.specs.declared.object.Claim.{Claim}
use Rattle.tk_journal.specs.declared.object.Plan.{Plan}
use Rattle.tk_journal.specs.declared.object.PodState.{PodState}
use Rattle.tk_journal.specs.Lists.{Has}
use Rattle.tk_journal.specs.Effects.{writes, pod_after, claim_of}
use Rattle.tk_journal.specs.History.{View, pod_of, pod_written, view_at}
use Rattle.tk_journal.specs.Legal.{IsLegal}
use Rattle.tk_journal.proofs.Past.{state_cases}
use Rattle.tk_journal.proofs.Present.{PodRow}
use Rattle.tk_journal.proofs.Grows.{pod_row_of}
use Rattle.tk_machine.specs.State.{KubeletState}
use Rattle.tk_machine.specs.Hosts.{IsHeldBy}
use Rattle.tk_machine.specs.Kills.{BrokeBefore, AreKilledRight}
use Rattle.tk_machine.specs.Machine.{AreClaimsOf}
use Rattle.tk_machine.proofs.Claims.{IsNotBy, unclaimed_new}
use Rattle.tk_machine.proofs.SettledLasts.{settled_goes_on}

-- as it was, with its plan
record WasHeld (number life : ℕ) (now was : PodState) : Type 0 where
  held : IsHeldBy number life was
  plan : now.plan ≡ was.plan

changed_held : (i life : ℕ) (view : View) (actor : Actor) (moment : ℕ) (act : Act) (pod : PodState) → IsNotBy i actor → PodRow view actor moment act pod → IsHeldBy i life (pod_after actor act pod) → WasHeld i life (pod_after actor act pod) pod
changed_held i life view actor moment (acts.ClaimPod name) pod other row held =
    let mine : record { number = row.number; life = row.life } ≡ record { number = i; life = life } = same_Some _ _ (ap claim_of (sym row.by) ∙ held.claimed) in
    absurd (other row.life (row.by ∙ ap (λ (c : Claim). actors.Kubelet c.number row.life) mine))
changed_held i life view actor moment (acts.EndPod name exits outcome) pod other row held = let ended = held.unended in cc (ended)
changed_held i life view actor moment _ pod other row held = absurd row

-- a pod that this kubelet holds behind an entry of another was held before
held_before : (e : Entry) (older : List Entry) → IsLegal (e ∷ older) → (i life : ℕ) → IsNotBy i e.actor → (name : List ℕ) (pod : PodState) → pod_of (e ∷ older) name ≡ Some pod → IsHeldBy i life pod → Has (pod_of older name) (WasHeld i life pod)
held_before e older legal i life other name pod there held =
    state_cases (writes kinds.Pods name) (λ (before : List Entry) d was. pod_written d was) (λ (o : Option PodState). (p : PodState) → o ≡ Some p → IsHeldBy i life p → Has (pod_of older name) (WasHeld i life p)) e older
    (λ miss p at held_now. record { it = p; is = at; has = record { held = held_now; plan = refl } })
    (λ hit. written (pod_of older name) refl hit) pod there held
  where
    written : (was : Option PodState) → pod_of older name ≡ was → writes kinds.Pods name e ≡ true → (p : PodState) → pod_written e was ≡ Some p → IsHeldBy i life p → Has (pod_of older name) (WasHeld i life p)
    written None at hit p now held_now = let none = unclaimed_new e.act p now in let mine = held_now.claimed in cc (none, mine)
    written (Some before) at hit p now held_now =
        let same : pod_after e.actor e.act before ≡ p = same_Some _ p now in
        record {
          it = before;
          is = at;
          has = subst (λ (x : PodState). WasHeld i life x before) same
              (changed_held i life (view_at e.fronts older) e.actor e.moment e.act before other (pod_row_of older e legal.1 name before hit at) (subst (IsHeldBy i life) (sym same) held_now));
        }

module _ (number life : ℕ) (killed : ℕ → Bool) (told : List HostEvent) where
  pub others_spare : (e : Entry) (older : List Entry) (moment : ℕ) → IsLegal (e ∷ older) → IsNotBy number e.actor → AreKilledRight number life killed told older moment → AreKilledRight number life killed told (e ∷ older) moment
  others_spare e older moment legal other right child arming pod is_killed armed there held =
      let was = held_before e older legal number life other arming.order.pod pod there held in
      elim (right child arming was.it is_killed armed was.is was.has.held) [
        | inl settled ↦ inl (settled_goes_on (e ∷ []) older moment moment arming.order.pod (omega arith) settled)
        | inr broke ↦ inr (subst (λ (p : Plan). BrokeBefore p.keep arming.order.pod arming.order.step told) (sym was.has.plan) broke)
      ]

  pub time_spares : (history : List Entry) (moment later : ℕ) → moment ≤ later → AreKilledRight number life killed told history moment → AreKilledRight number life killed told history later
  time_spares history moment later le right child arming pod is_killed armed there held =
      elim (right child arming pod is_killed armed there held) [
        | inl settled ↦ inl (settled_goes_on [] history moment later arming.order.pod le settled)
        | inr broke ↦ inr broke
      ]

  -- nothing is held in a life that hasn't begun
  pub next_life_spares : (kubelets : List KubeletState) (k : KubeletState) (history : List Entry) (moment : ℕ) → AreClaimsOf kubelets history → slice_get kubelets number ≡ Some k → k.life < life → AreKilledRight number life killed told history moment
  next_life_spares kubelets k history moment claims at more child arming pod is_killed armed there held =
      let owner = claims arming.order.pod pod (record { number = number; life = life }) there held.claimed in
      let same : owner.it ≡ k = same_Some owner.it k (sym owner.is ∙ at) in
      absurd (omega (arith, owner.has, more, ap (λ (x : KubeletState). x.life) same))

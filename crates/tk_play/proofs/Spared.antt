-- What a turn kills is right: children of pods that are settled, or that wait behind a step that broke.
use Rattle.std.proofs.Common.{◌≡◌, ◌≢◌, ℕ, List, [], ◌∷◌, Option, Some, None, Bool, true, false, refl, sym, ◌∙◌, ap, subst, inl, inr, arith, slice_get}
use Rattle.std.specs.Prelude.{◌⊎◌, bytes_eq}
use Rattle.std.proofs.lemmas.Bool.{cases_Bool}
use Rattle.std.proofs.lemmas.Option.{same_Some}
use Rattle.std.proofs.lemmas.Slice.Eq.{bytes_eq-Decides}
use Rattle.tk_edge.specs.declared.event.Event.{Event}
use Rattle.tk_edge.specs.declared.event.Arming.{Arming}
use Rattle.tk_edge.specs.History.{Has as HostHas, GoesOn, arming_of}
use Rattle.tk_edge.specs.InOrder.{Claimed}
use Rattle.tk_journal.specs.declared.act.Act.{Act}
use Rattle.tk_journal.specs.declared.act.Act.TheVariants as acts
use Rattle.tk_journal.specs.declared.entry.Entry.{Entry}
use Rattle.tk_journal.specs.declared.entry.Actor.TheVariants as actors
use Rattle.tk_journal.specs.declared.entry.Fronts.{Fronts}
use Rattle.tk_journal.specs.declared.object.Plan.{Plan}
use Rattle.tk_journal.specs.declared.object.PodState.{PodState}
use Rattle.tk_journal.specs.History.{View, pod_of, pod_written, view_at}
use Rattle.tk_journal.specs.Legal.{IsLegal}
use Rattle.tk_journal.specs.Lists.{Has}
use Rattle.tk_choice.specs.Took.{entry_of}
use Rattle.tk_script.specs.ScriptHost.{Scripts}
use Rattle.tk_steps.specs.declared.held.HeldPod.{HeldPod}
use Rattle.tk_steps.specs.Kills.{IsLiving}
use Rattle.tk_held.specs.declared.judging.Settled.{Settled}
use Rattle.tk_held.specs.Conditions.{AreMet, claimed_pod, pods_of}
use Rattle.tk_held.specs.Settled.{settled_in}
use Rattle.tk_held.specs.Settling.{IsOfSettled}
use Rattle.tk_outcome.specs.Exits.{is_walked}
use Rattle.tk_kubelet.specs.Choice.{ends_held, first_end}
use Rattle.tk_machine.specs.Hosts.{IsHeldBy}
use Rattle.tk_machine.specs.Kills.{AreKilledRight, BrokeBefore, IsSettledBy}
use Rattle.tk_machine.proofs.SettledLasts.{settled_lasts, settled_goes_on}
use Rattle.tk_play.proofs.Exits.{behind_broke}
use Rattle.tk_play.proofs.Own.{arming_later, broke_later}
use Rattle.tk_play.proofs.Tries.{ends_first, in_order}

-- an act of a kubelet: it ends a pod, or claims one that nobody claimed
abbrev pub IsOwnAct : List Entry → Act → Type 0
IsOwnAct history (acts.EndPod name exits outcome) = Unit {0}
IsOwnAct history (acts.ClaimPod name) = Has (pod_of history name) (λ (state : PodState). state.claim ≡ None)
IsOwnAct history _ = ⊥

-- the history stays, or such an entry is added
abbrev pub AddsOwn : ℕ → ℕ → Fronts → ℕ → List Entry → List Entry → Type 0
AddsOwn number life fronts moment history after =
    (after ≡ history) ⊎ ((act : Act) × IsOwnAct history act × (after ≡ entry_of (actors.Kubelet number life) fronts moment act ∷ history))

-- a pod that is held behind it was held before it, where a child of it was armed
pub record WasHeld (number life : ℕ) (now was : PodState) : Type 0 where
  pub held : IsHeldBy number life was
  pub plan : now.plan ≡ was.plan

module _ (number life : ℕ) (fronts : Fronts) (moment : ℕ) (history : List Entry) (name : List ℕ) (claimed : Claimed) (is_claimed : pods_of number history name ≡ Some claimed) where
  by_entry : (act : Act) → IsOwnAct history act → (pod : PodState) → pod_of (entry_of (actors.Kubelet number life) fronts moment act ∷ history) name ≡ Some pod → IsHeldBy number life pod → Has (pod_of history name) (WasHeld number life pod)
  by_entry (acts.EndPod ended exits outcome) own pod is held = elim (cases_Bool (bytes_eq ended name)) [
    | inl hit ↦ by_state (pod_of history name) hit (rw hit at is)
    | inr miss ↦ record { it = pod; is = rw miss at is; has = record { held = held; plan = refl } }
  ]
    where
      by_state : (o : Option PodState) → bytes_eq ended name ≡ true → pod_written (entry_of (actors.Kubelet number life) fronts moment (acts.EndPod ended exits outcome)) o ≡ Some pod → Has (pod_of history name) (WasHeld number life pod)
      by_state None hit written = cc (written)
      by_state (Some state) hit written =
          let ended_now : Some record { exits = exits; outcome = outcome } ≡ pod.ended = ap (λ (s : PodState). s.ended) (same_Some _ pod written) in
          let bad : Some record { exits = exits; outcome = outcome } ≡ None = ended_now ∙ held.unended in
          cc (bad)
  by_entry (acts.ClaimPod taken) own pod is held = elim (cases_Bool (bytes_eq taken name)) [
    | inl hit ↦
        let same : taken ≡ name = (bytes_eq-Decides taken name).0 hit in
        let there : pod_of history name ≡ Some own.it = ap (pod_of history) (sym same) ∙ own.is in
        let none : claimed_pod number (Some own.it) ≡ None = unclaimed own.it own.has in
        let bad : None ≡ Some claimed = sym none ∙ (ap (claimed_pod number) (sym there) ∙ is_claimed) in
        cc (bad)
    | inr miss ↦ record { it = pod; is = rw miss at is; has = record { held = held; plan = refl } }
  ]
    where
      unclaimed : (state : PodState) → state.claim ≡ None → claimed_pod number (Some state) ≡ None
      unclaimed state none = rw none refl
  by_entry _ own pod is held = absurd own

  pub held_before : (after : List Entry) → AddsOwn number life fronts moment history after → (pod : PodState) → pod_of after name ≡ Some pod → IsHeldBy number life pod → Has (pod_of history name) (WasHeld number life pod)
  held_before after adds pod is held = elim adds [
    | inl same ↦ record { it = pod; is = subst (λ (h : List Entry). pod_of h name ≡ Some pod) same is; has = record { held = held; plan = refl } }
    | inr added ↦ by_entry added.0 added.1 pod (subst (λ (h : List Entry). pod_of h name ≡ Some pod) added.2 is) held
  ]

-- what was settled is so behind it
pub settled_then : (number life : ℕ) (fronts : Fronts) (moment : ℕ) (history after : List Entry) (name : List ℕ) → AddsOwn number life fronts moment history after → (now : Fronts) → settled_in (view_at now history) moment name ≢ None → IsSettledBy after moment name
settled_then number life fronts moment history after name adds now settled = elim adds [
  | inl same ↦ subst (λ (h : List Entry). IsSettledBy h moment name) (sym same) (settled_lasts [] history now moment moment name (omega arith) settled)
  | inr added ↦ subst (λ (h : List Entry). IsSettledBy h moment name) (sym added.2) (settled_lasts (entry_of (actors.Kubelet number life) fronts moment added.0 ∷ []) history now moment moment name (omega arith) settled)
]

pub settled_still : (number life : ℕ) (fronts : Fronts) (moment : ℕ) (history after : List Entry) (name : List ℕ) → AddsOwn number life fronts moment history after → IsSettledBy history moment name → IsSettledBy after moment name
settled_still number life fronts moment history after name adds settled = elim adds [
  | inl same ↦ subst (λ (h : List Entry). IsSettledBy h moment name) (sym same) settled
  | inr added ↦ subst (λ (h : List Entry). IsSettledBy h moment name) (sym added.2) (settled_goes_on (entry_of (actors.Kubelet number life) fronts moment added.0 ∷ []) history moment moment name (omega arith) settled)
]

-- a child without an exit of the pod that ends first
pub record IsOfFirst (number life : ℕ) (view : View) (moment : ℕ) (held : List HeldPod) (child : ℕ) : Type 0 where
  pub place : ℕ
  pub pod : HeldPod
  pub at : slice_get held place ≡ Some pod
  pub ends : first_end number life view moment held ≡ Some pod.name
  pub living : IsLiving pod.steps.items child

module _ (scripts : Scripts) (number life : ℕ) (history after : List Entry) (fronts : Fronts) (moment : ℕ) (killed dead : ℕ → Bool) (told now : List Event) (held ready : List HeldPod) (legal : IsLegal history)
    (met : AreMet number life scripts.root held history killed told) (met_now : AreMet number life scripts.root ready history dead now) (whole : (place : ℕ) (pod : HeldPod) → slice_get ready place ≡ Some pod → pod.failed ≡ false)
    (goes : GoesOn told now) (adds : AddsOwn number life fronts moment history after)
    (armed_before : (child : ℕ) → killed child ≡ true → HostHas (arming_of child told) (λ arming. Unit {0}))
    (spares : (child : ℕ) → dead child ≡ true → (killed child ≡ true) ⊎ (IsOfSettled (view_at fronts history) moment held child ⊎ IsOfFirst number life (view_at fronts history) moment ready child)) where
  abbrev view : View
  view = view_at fronts history

  -- a held child that lives was armed as a step of its pod
  record IsArmedAs (pod : List ℕ) (place child : ℕ) (at : List Event) : Type 0 where
    pub arming : Arming
    pub armed : arming_of child at ≡ Some arming
    pub same_pod : arming.order.pod ≡ pod
    pub same_step : arming.order.step ≡ place

  living_armed : (hs : List HeldPod) (ks : ℕ → Bool) (at : List Event) → AreMet number life scripts.root hs history ks at → (place : ℕ) (pod : HeldPod) → slice_get hs place ≡ Some pod → (child : ℕ) → (living : IsLiving pod.steps.items child) → IsArmedAs pod.name living.place child at
  living_armed hs ks at m place pod there child living =
      let holds = (m.keeps place pod there).holds.steps living.place living.step living.at in
      record { arming = holds.arming; armed = ap (λ (c : ℕ). arming_of c at) (sym living.is) ∙ holds.armed; same_pod = holds.same_pod; same_step = holds.same_step }

  module _ (right : AreKilledRight number life killed told history moment) (child : ℕ) (arming : Arming) (pod : PodState) (is_dead : dead child ≡ true) (armed : arming_of child now ≡ Some arming) (there : pod_of after arming.order.pod ≡ Some pod) (is_held : IsHeldBy number life pod) where
    abbrev Right : Type 0
    Right = IsSettledBy after moment arming.order.pod ⊎ BrokeBefore pod.plan.keep arming.order.pod arming.order.step now

    was : Has (pod_of history arming.order.pod) (WasHeld number life pod)
    was =
        let at = met_now.kept.armed.each child arming armed in
        held_before number life fronts moment history arming.order.pod at.claimed at.is_claimed after adds pod there is_held

    -- it was killed before
    by_before : killed child ≡ true → Right
    by_before before =
        let entry = armed_before child before in
        let later = arming_later told now goes met_now.kept.told child entry.it entry.is in
        let same : entry.it ≡ arming = same_Some entry.it arming (sym later ∙ armed) in
        let armed_then : arming_of child told ≡ Some arming = entry.is ∙ ap Some same in
        elim (right child arming was.it before armed_then was.is was.has.held) [
          | inl settled ↦ inl (settled_still number life fronts moment history after arming.order.pod adds settled)
          | inr broke ↦ inr (subst (λ (p : Plan). BrokeBefore p.keep arming.order.pod arming.order.step now) (sym was.has.plan) (broke_later was.it.plan.keep arming.order.pod arming.order.step told now goes met_now.kept.told broke))
        ]

    -- its pod was marked or late, as it was seen
    by_settled : IsOfSettled view moment held child → Right
    by_settled of =
        let entry = living_armed held killed told met of.place of.pod of.at child of.own.living in
        let later = arming_later told now goes met_now.kept.told child entry.arming entry.armed in
        let same : entry.arming ≡ arming = same_Some entry.arming arming (sym later ∙ armed) in
        let named : of.pod.name ≡ arming.order.pod = sym entry.same_pod ∙ ap (λ (a : Arming). a.order.pod) same in
        inl (settled_then number life fronts moment history after arming.order.pod adds fronts (subst (λ (n : List ℕ). settled_in view moment n ≢ None) named of.own.settled))

    -- its pod ends
    by_first : IsOfFirst number life view moment ready child → Right
    by_first of = by_settling (settled_in view moment of.pod.name) refl (ends_first scripts number life history fronts moment dead now ready legal met_now of.place of.pod of.at of.ends)
      where
        entry : IsArmedAs of.pod.name of.living.place child now
        entry = living_armed ready dead now met_now of.place of.pod of.at child of.living

        same : entry.arming ≡ arming
        same = same_Some entry.arming arming (sym entry.armed ∙ armed)

        named : of.pod.name ≡ arming.order.pod
        named = sym entry.same_pod ∙ ap (λ (a : Arming). a.order.pod) same

        place : of.living.place ≡ arming.order.step
        place = sym entry.same_step ∙ ap (λ (a : Arming). a.order.step) same

        keeps : of.pod.plan ≡ pod.plan
        keeps =
            let mine = met_now.claimed.mine of.place of.pod of.at in
            let states : mine.it ≡ was.it = same_Some mine.it was.it (sym mine.is ∙ (ap (pod_of history) named ∙ was.is)) in
            sym mine.has.plan ∙ (ap (λ (s : PodState). s.plan) states ∙ sym was.has.plan)

        some_settled : (s : Settled) → settled_in view moment of.pod.name ≡ Some s → settled_in view moment arming.order.pod ≢ None
        some_settled s is none = let bad : Some s ≡ None = sym is ∙ (ap (settled_in view moment) named ∙ none) in cc (bad)

        by_settling : (o : Option Settled) → settled_in view moment of.pod.name ≡ o → ends_held view moment of.pod ≡ true → Right
        by_settling (Some s) is ends = inl (settled_then number life fronts moment history after arming.order.pod adds fronts (some_settled s is))
        by_settling None is ends =
            let over : is_walked of.pod ≡ true = rw (is, whole of.place of.pod of.at) at ends in
            let order = in_order scripts number life history fronts moment dead now ready legal met_now of.place of.pod of.at in
            let broke = behind_broke scripts.root dead (pods_of number history) now of.pod order of.living.place of.living.step of.living.at of.living.no_exit over in
            inr (subst (λ (p : Plan). BrokeBefore p.keep arming.order.pod arming.order.step now) keeps (subst (λ (n : ℕ). BrokeBefore of.pod.plan.keep arming.order.pod n now) place (subst (λ (n : List ℕ). BrokeBefore of.pod.plan.keep n of.living.place now) named broke)))

    right_one : Right
    right_one = elim (spares child is_dead) [ inl before ↦ by_before before | inr fresh ↦ elim fresh [ inl settled ↦ by_settled settled | inr first ↦ by_first first ] ]

  pub spared : AreKilledRight number life killed told history moment → AreKilledRight number life dead now after moment
  spared right child arming pod is_dead armed there is_held = right_one right child arming pod is_dead armed there is_held

-- What a kubelet holds of its pods stays what the host tells.
use Rattle.std.proofs.Common.{◌≡◌, ◌≢◌, ℕ, ◌<◌, List, [], ◌∷◌, ◌++◌, length, Some, None, Bool, true, false, refl, sym, ◌∙◌, ap, subst, inl, inr, arith, nat_eq, set, slice_get}
use Rattle.std.proofs.lemmas.Bool.{cases_Bool, eqb-true, eq-eqb}
use Rattle.std.proofs.lemmas.Option.{slice_get_within}
use Rattle.tk_edge.specs.declared.event.Event.{Event}
use Rattle.tk_edge.specs.declared.event.Event.TheVariants as events
use Rattle.tk_edge.specs.declared.event.Arming.{Arming}
use Rattle.tk_edge.specs.History.{names, IsNew, exit_of, arming_of, is_refused}
use Rattle.tk_journal.specs.declared.object.Plan.{Plan}
use Rattle.tk_steps.specs.declared.held.HeldPod.{HeldPod}
use Rattle.tk_steps.specs.declared.held.HeldStep.{HeldStep}
use Rattle.tk_steps.specs.Held.{HoldsStep, HoldsPod}
use Rattle.tk_steps.specs.May.{May, IsStepUnarmed, IsUnarmed}
use Rattle.tk_steps.proofs.Gets.{get_more, get_before, get_last, get_set, set_here, set_there}
use Rattle.tk_steps.proofs.Names.{arming_unnamed, exit_unnamed, refused_unnamed, exit_new, refused_new, armed_not_new, two_children}

pub step_stays : (h : List Event) (name : List ℕ) (place : ℕ) (step : HeldStep) (e : Event) → names step.child e ≡ false → HoldsStep h name place step → HoldsStep (e ∷ h) name place step
step_stays h name place step e miss s = record {
  arming = s.arming;
  armed = arming_unnamed step.child e h miss ∙ s.armed;
  same_pod = s.same_pod;
  same_step = s.same_step;
  exit = s.exit ∙ sym (exit_unnamed step.child e h miss);
  refused = s.refused ∙ sym (refused_unnamed step.child e h miss);
}

-- an event that names no child
abbrev pub is_file : Event → Bool
is_file (events.Put path bytes answered) = true
is_file (events.Cleared folder answered) = true
is_file (events.Fetched path bytes) = true
is_file _ = false

pub holds_file : (h : List Event) (pod : HeldPod) (e : Event) → is_file e ≡ true → HoldsPod h pod → HoldsPod (e ∷ h) pod
holds_file h pod (events.Put path bytes answered) file holds = record { steps = λ place step is. step_stays h pod.name place step (events.Put path bytes answered) refl (holds.steps place step is); all = holds.all; unready = holds.unready }
holds_file h pod (events.Cleared folder answered) file holds = record { steps = λ place step is. step_stays h pod.name place step (events.Cleared folder answered) refl (holds.steps place step is); all = holds.all; unready = holds.unready }
holds_file h pod (events.Fetched path bytes) file holds = record { steps = λ place step is. step_stays h pod.name place step (events.Fetched path bytes) refl (holds.steps place step is); all = holds.all; unready = holds.unready }
holds_file h pod (events.Armed child arming) file holds = cc
holds_file h pod (events.Started child order) file holds = cc
holds_file h pod (events.Refused child) file holds = cc
holds_file h pod (events.Exited child exit) file holds = cc

-- an event on a child of another pod
holds_unnamed : (h : List Event) (pod : HeldPod) (e : Event) → ((child : ℕ) (arming : Arming) → arming_of child (e ∷ h) ≡ Some arming → arming_of child h ≡ Some arming) → ((place : ℕ) (step : HeldStep) → slice_get pod.steps.items place ≡ Some step → names step.child e ≡ false) → HoldsPod h pod → HoldsPod (e ∷ h) pod
holds_unnamed h pod e same miss holds = record {
  steps = λ place step is. step_stays h pod.name place step e (miss place step is) (holds.steps place step is);
  all = λ child arming is. holds.all child arming (same child arming is);
  unready = holds.unready;
}

module _ (root other : List ℕ) (plan : Plan) (pod : HeldPod) (differ : other ≡ pod.name → ⊥) where
  -- the child is armed for the other pod
  not_ours : (h : List Event) → HoldsPod h pod → (child : ℕ) (arming : Arming) → arming_of child h ≡ Some arming → arming.order.pod ≡ other → (place : ℕ) (step : HeldStep) → slice_get pod.steps.items place ≡ Some step → nat_eq step.child child ≡ false
  not_ours h holds child arming armed theirs place step is =
      let ours = holds.steps place step is in
      two_children step.child child ours.arming arming h ours.armed armed (λ same. differ (sym theirs ∙ (ap (λ (a : Arming). a.order.pod) (sym same) ∙ ours.same_pod)))

  -- what is done for another pod leaves what is held of this one
  pub holds_other : (e : Event) (h : List Event) → May root other plan e h → HoldsPod h pod → HoldsPod (e ∷ h) pod
  holds_other (events.Put path bytes answered) h may holds = holds_file h pod (events.Put path bytes answered) refl holds
  holds_other (events.Cleared folder answered) h may holds = holds_file h pod (events.Cleared folder answered) refl holds
  holds_other (events.Fetched path bytes) h may holds = holds_file h pod (events.Fetched path bytes) refl holds
  holds_other (events.Armed child arming) h may holds = record {
    steps = λ place step is. let ours = holds.steps place step is in step_stays h pod.name place step (events.Armed child arming) (armed_not_new step.child child ours.arming h ours.armed may.0) ours;
    all = λ c b is same. elim (cases_Bool (nat_eq c child)) [
      | inl hit ↦
          let now : Some arming ≡ Some b = rw hit at is in
          let entry : arming ≡ b = cc in
          absurd (differ (sym may.1.same_pod ∙ (ap (λ (a : Arming). a.order.pod) entry ∙ same)))
      | inr miss ↦ holds.all c b (rw miss at is) same
    ];
    unready = holds.unready;
  }
  holds_other (events.Started child order) h may holds = holds_unnamed h pod (events.Started child order) (λ c a is. is) (not_ours h holds child may.arming may.armed may.same_pod) holds
  holds_other (events.Refused child) h may holds = holds_unnamed h pod (events.Refused child) (λ c a is. is) (not_ours h holds child may.0.it may.0.is may.0.has) holds
  holds_other (events.Exited child exit) h may holds = holds_unnamed h pod (events.Exited child exit) (λ c a is. is) (not_ours h holds child may.0.it may.0.is may.0.has) holds

-- the next step isn't armed
pub next_unarmed : (h : List Event) (pod : HeldPod) → HoldsPod h pod → IsStepUnarmed pod.name (length pod.steps.items) h
next_unarmed h pod holds child arming armed same step =
    let ours = holds.all child arming armed same in
    let within : arming.order.step < length pod.steps.items = slice_get_within pod.steps.items arming.order.step ours.0 ours.1 in
    absurd (omega (arith, within, step))

pub none_armed : (h : List Event) (pod : HeldPod) → HoldsPod h pod → pod.steps.items ≡ [] → IsUnarmed pod.name h
none_armed h pod holds none child arming armed same =
    let ours = holds.all child arming armed same in
    let is : slice_get pod.steps.items arming.order.step ≡ Some ours.0 = ours.1 in
    let at : slice_get [] arming.order.step ≡ Some ours.0 = subst (λ (steps : List HeldStep). slice_get steps arming.order.step ≡ Some ours.0) none is in
    cc (at)

-- one step more is armed
pub holds_launch : (h : List Event) (old new : HeldPod) (child : ℕ) (arming : Arming) (step : HeldStep) → HoldsPod h old → IsNew child h → arming.order.pod ≡ old.name → arming.order.step ≡ length old.steps.items → step.child ≡ child → step.exit ≡ None → step.refused ≡ false → new.name ≡ old.name → new.ready ≡ true → new.steps.items ≡ old.steps.items ++ step ∷ [] → HoldsPod (events.Armed child arming ∷ h) new
holds_launch h old new child arming step holds fresh pod number is_child no_exit no_refusal name ready steps = record {
  steps = λ place s is. elim (get_more old.steps.items step s place (subst (λ (ss : List HeldStep). slice_get ss place ≡ Some s) steps is)) [
    | inl before ↦
        let ours = holds.steps place s before in
        let miss : nat_eq s.child child ≡ false = armed_not_new s.child child ours.arming h ours.armed fresh in
        subst (λ (n : List ℕ). HoldsStep (events.Armed child arming ∷ h) n place s) (sym name) (step_stays h old.name place s (events.Armed child arming) miss ours)
    | inr last ↦
        let now : HoldsStep (events.Armed child arming ∷ h) new.name place step = record {
          arming = arming;
          armed = here step.child is_child;
          same_pod = pod ∙ sym name;
          same_step = number ∙ sym last.0;
          exit = no_exit ∙ sym (ap (λ (c : ℕ). exit_of c h) is_child ∙ exit_new child h fresh);
          refused = no_refusal ∙ sym (ap (λ (c : ℕ). is_refused c h) is_child ∙ refused_new child h fresh);
        } in
        subst (HoldsStep (events.Armed child arming ∷ h) new.name place) (sym last.1) now
  ];
  all = λ c b is same. elim (cases_Bool (nat_eq c child)) [
    | inl hit ↦
        let now : Some arming ≡ Some b = rw hit at is in
        let entry : arming ≡ b = cc in
        let at : b.order.step ≡ length old.steps.items = ap (λ (a : Arming). a.order.step) (sym entry) ∙ number in
        let found : slice_get new.steps.items b.order.step ≡ Some step = subst (λ (ss : List HeldStep). slice_get ss b.order.step ≡ Some step) (sym steps) (subst (λ (n : ℕ). slice_get (old.steps.items ++ step ∷ []) n ≡ Some step) (sym at) (get_last old.steps.items step)) in
        (step, found, is_child ∙ sym (eqb-true c child hit))
    | inr miss ↦
        let ours = holds.all c b (rw miss at is) (same ∙ name) in
        let found : slice_get new.steps.items b.order.step ≡ Some ours.0 = subst (λ (ss : List HeldStep). slice_get ss b.order.step ≡ Some ours.0) (sym steps) (get_before old.steps.items step ours.0 b.order.step ours.1) in
        (ours.0, found, ours.2)
  ];
  unready = λ not_ready. let bad : true ≡ false = sym ready ∙ not_ready in cc;
}
  where
    here : (c : ℕ) → c ≡ child → arming_of c (events.Armed child arming ∷ h) ≡ Some arming
    here c is = elim (cases_Bool (nat_eq c child)) [
      | inl hit ↦ rw hit refl
      | inr miss ↦ absurd (apart c is miss)
    ]
      where
        apart : (c : ℕ) → c ≡ child → nat_eq c child ≡ false → ⊥
        apart c is miss = let hit : nat_eq c child ≡ true = eq-eqb c child is in cc

-- one step is seen anew
pub holds_seen : (h new : List Event) (old pod : HeldPod) (place : ℕ) (step seen : HeldStep) → HoldsPod h old → slice_get old.steps.items place ≡ Some step → seen.child ≡ step.child → ((c : ℕ) → arming_of c new ≡ arming_of c h) → ((c : ℕ) → nat_eq c step.child ≡ false → exit_of c new ≡ exit_of c h) → ((c : ℕ) → nat_eq c step.child ≡ false → is_refused c new ≡ is_refused c h) → seen.exit ≡ exit_of seen.child new → seen.refused ≡ is_refused seen.child new → pod.name ≡ old.name → pod.ready ≡ old.ready → pod.steps.items ≡ set old.steps.items place seen → HoldsPod new pod
holds_seen h new old pod place step seen holds at same_child armings exits refusals exit refused name ready steps = record {
  steps = λ i s is. elim (get_set old.steps.items seen s place i (subst (λ (ss : List HeldStep). slice_get ss i ≡ Some s) steps is)) [
    | inl here ↦
        let ours = holds.steps place step at in
        let now : HoldsStep new pod.name i seen = record {
          arming = ours.arming;
          armed = armings seen.child ∙ (ap (λ (c : ℕ). arming_of c h) same_child ∙ ours.armed);
          same_pod = ours.same_pod ∙ sym name;
          same_step = ours.same_step ∙ sym here.0;
          exit = exit;
          refused = refused;
        } in
        subst (HoldsStep new pod.name i) (sym here.1) now
    | inr there ↦
        let ours = holds.steps i s there.1 in
        let first = holds.steps place step at in
        let miss : nat_eq s.child step.child ≡ false = two_children s.child step.child ours.arming first.arming h ours.armed first.armed (λ same. there.0 (sym ours.same_step ∙ (ap (λ (a : Arming). a.order.step) same ∙ first.same_step))) in
        record {
          arming = ours.arming;
          armed = armings s.child ∙ ours.armed;
          same_pod = ours.same_pod ∙ sym name;
          same_step = ours.same_step;
          exit = ours.exit ∙ sym (exits s.child miss);
          refused = ours.refused ∙ sym (refusals s.child miss);
        }
  ];
  all = λ c b is same.
      let ours = holds.all c b (sym (armings c) ∙ is) (same ∙ name) in
      elim (cases_Bool (nat_eq b.order.step place)) [
        | inl hit ↦
            let number : b.order.step ≡ place = eqb-true b.order.step place hit in
            let first : slice_get old.steps.items place ≡ Some ours.0 = subst (λ (n : ℕ). slice_get old.steps.items n ≡ Some ours.0) number ours.1 in
            let same_step : ours.0 ≡ step = cc in
            let found : slice_get (set old.steps.items place seen) place ≡ Some seen = set_here old.steps.items seen step place at in
            let there : slice_get (set old.steps.items place seen) b.order.step ≡ Some seen = subst (λ (n : ℕ). slice_get (set old.steps.items place seen) n ≡ Some seen) (sym number) found in
            (seen, subst (λ (ss : List HeldStep). slice_get ss b.order.step ≡ Some seen) (sym steps) there, same_child ∙ (ap (λ (s : HeldStep). s.child) (sym same_step) ∙ ours.2))
        | inr miss ↦
            let apart : b.order.step ≢ place = λ is_place. absurd_eq b.order.step place is_place miss in
            let there : slice_get (set old.steps.items place seen) b.order.step ≡ Some ours.0 = set_there old.steps.items seen ours.0 place b.order.step apart ours.1 in
            (ours.0, subst (λ (ss : List HeldStep). slice_get ss b.order.step ≡ Some ours.0) (sym steps) there, ours.2)
      ];
  unready = λ not_ready.
      let none : old.steps.items ≡ [] = holds.unready (sym ready ∙ not_ready) in
      let empty : slice_get [] place ≡ Some step = subst (λ (ss : List HeldStep). slice_get ss place ≡ Some step) none at in
      cc (empty);
}
  where
    absurd_eq : (m n : ℕ) → m ≡ n → nat_eq m n ≡ false → ⊥
    absurd_eq m n is miss = let hit : nat_eq m n ≡ true = eq-eqb m n is in cc

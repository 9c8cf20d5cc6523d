-- The conditions of a kubelet's turn hold again behind its calls.
use Rattle.std.proofs.Common.{◌≡◌, ℕ, ◌<◌, List, ◌∷◌, length, Option, Some, None, Bool, true, false, refl, sym, ◌∙◌, ap, subst, inl, inr, arith, nat_eq, slice_get, get_or}
use Rattle.std.proofs.lemmas.Bool.{cases_Bool, eq-eqb}
use Rattle.std.proofs.lemmas.Option.{same_Some, slice_get_within, slice_get-get_or}
use Rattle.tk_edge.specs.declared.event.Event.{Event}
use Rattle.tk_edge.specs.declared.event.Event.TheVariants as events
use Rattle.tk_edge.specs.declared.event.Arming.{Arming}
use Rattle.tk_edge.specs.History.{Has, arming_of, exit_of}
use Rattle.tk_edge.specs.InOrder.{Claimed, Pods, IsSettled, Layout, IsKept}
use Rattle.tk_journal.specs.declared.entry.Entry.{Entry}
use Rattle.tk_journal.specs.declared.object.Claim.{Claim}
use Rattle.tk_journal.specs.declared.object.EndedPod.{EndedPod}
use Rattle.tk_journal.specs.declared.object.Plan.{Plan}
use Rattle.tk_journal.specs.declared.object.PodState.{PodState}
use Rattle.tk_journal.specs.Folders.{HaveRoot}
use Rattle.tk_journal.specs.History.{pod_of}
use Rattle.tk_journal.specs.PodRows.{claims_for}
use Rattle.tk_steps.specs.declared.held.HeldPod.{HeldPod}
use Rattle.tk_steps.specs.declared.held.HeldStep.{HeldStep}
use Rattle.tk_steps.specs.Held.{IsPlanOf}
use Rattle.tk_steps.specs.Paths.{layout_of}
use Rattle.tk_steps.proofs.Adds.{adds_keep}
use Rattle.tk_held.specs.Conditions.{claim_of, claimed_with, claimed_pod, pods_of, is_over, IsMine, IsHeld, HoldsClaimed, AreArmedSettled, AreMet}
use Rattle.tk_held.specs.Placed.{StayReady, AreReady}
use Rattle.tk_held.specs.Pods.{MayAny, MovesAll}
use Rattle.tk_held.specs.Settling.{AreAllKilled, StayKilled}
use Rattle.tk_held.proofs.Every.{all_apart}
use Rattle.tk_held.proofs.Kept.{kept_may}

-- more is killed

settled_more : (killed dead : ℕ → Bool) → StayKilled killed dead → (child : ℕ) (told : List Event) → IsSettled killed child told → IsSettled dead child told
settled_more killed dead more child told (inl exit) = inl exit
settled_more killed dead more child told (inr ended) = inr (more child ended)

pub kept_killed : (layout : Layout) (killed dead : ℕ → Bool) (pods : Pods) (told : List Event) → StayKilled killed dead → IsKept layout killed pods told → IsKept layout dead pods told
kept_killed layout killed dead pods told more kept = record {
  told = kept.told;
  in_order = record {
    due = kept.in_order.due;
    settled = λ child order is over. settled_more killed dead more child told (kept.in_order.settled child order is over);
  };
  armed = kept.armed;
}

-- a pod of the kubelet's own is claimed, with its plan, and isn't over

pub claims_own : (number life : ℕ) (claim : Option Claim) → claim ≡ Some (claim_of number life) → claims_for number claim ≡ true
claims_own number life None is = cc
claims_own number life (Some claim) is =
    let same : claim ≡ claim_of number life = same_Some claim (claim_of number life) is in
    eq-eqb claim.number number (ap (λ (c : Claim). c.number) same)

over_none : (ended : Option EndedPod) → ended ≡ None → is_over ended ≡ false
over_none None is = refl
over_none (Some ended) is = cc

-- what the kubelet has of a pod that it claimed
pub claimed_is : (number life : ℕ) (state : PodState) → state.claim ≡ Some (claim_of number life) → claimed_pod number (Some state) ≡ Some (claimed_with state)
claimed_is number life state mine = rw (claims_own number life state.claim mine) refl

pub own_claimed : (number life : ℕ) (pod : HeldPod) (history : List Entry) → Has (pod_of history pod.name) (IsMine number life pod)
    → Has (pods_of number history pod.name) (λ claimed. (claimed.orders ≡ pod.plan.orders) × (claimed.keep ≡ pod.plan.keep) × (claimed.is_over ≡ false))
own_claimed number life pod history mine = record {
  it = claimed_with mine.it;
  is = ap (claimed_pod number) mine.is ∙ claimed_is number life mine.it mine.has.claimed;
  has = (ap (λ (p : Plan). p.orders) mine.has.plan, ap (λ (p : Plan). p.keep) mine.has.plan, over_none mine.it.ended mine.has.unended);
}

module _ (number life : ℕ) (root : List ℕ) (held : List HeldPod) (history : List Entry) (killed : ℕ → Bool) (claimed : HoldsClaimed number life held history) (planned : (place : ℕ) (pod : HeldPod) → slice_get held place ≡ Some pod → IsPlanOf pod.name pod.plan) where
  pub kept_any : (e : Event) (h : List Event) → MayAny root held e h → IsKept (layout_of root) killed (pods_of number history) h → IsKept (layout_of root) killed (pods_of number history) (e ∷ h)
  kept_any e h any kept =
      let own = own_claimed number life any.pod history (claimed.mine any.place any.pod any.at) in
      kept_may root any.pod.name any.pod.plan (planned any.place any.pod any.at) killed (pods_of number history) own.it own.is own.has.0 own.has.1 own.has.2 e h any.may kept

  -- nothing is armed for a pod that is over
  settled_any : (e : Event) (h : List Event) → MayAny root held e h → AreArmedSettled killed (pods_of number history) h → AreArmedSettled killed (pods_of number history) (e ∷ h)
  settled_any (events.Armed child arming) h any settled c b is over = elim (cases_Bool (nat_eq c child)) [
    | inl hit ↦
        let now : Some arming ≡ Some b = rw hit at is in
        let entry : arming ≡ b = cc in
        let own = own_claimed number life any.pod history (claimed.mine any.place any.pod any.at) in
        let pod : b.order.pod ≡ any.pod.name = ap (λ (a : Arming). a.order.pod) (sym entry) ∙ any.may.1.same_pod in
        let there : pods_of number history b.order.pod ≡ Some own.it = ap (pods_of number history) pod ∙ own.is in
        let same : own.it ≡ over.it = same_Some own.it over.it (sym there ∙ over.is) in
        let bad : true ≡ false = sym over.has ∙ (ap (λ (x : Claimed). x.is_over) (sym same) ∙ own.has.2) in
        cc
    | inr miss ↦ settled c b (rw miss at is) over
  ]
  settled_any (events.Exited child exit) h any settled c b is over = elim (settled c b is over) [
    | inl has ↦ elim (cases_Bool (nat_eq c child)) [
      | inl hit ↦ inl record { it = exit; is = rw hit refl; has = tt }
      | inr miss ↦ inl record { it = has.it; is = rw miss has.is; has = tt }
    ]
    | inr dead ↦ inr dead
  ]
  settled_any (events.Put path bytes answered) h any settled c b is over = settled c b is over
  settled_any (events.Cleared folder answered) h any settled c b is over = settled c b is over
  settled_any (events.Fetched path bytes) h any settled c b is over = settled c b is over
  settled_any (events.Started child order) h any settled c b is over = settled c b is over
  settled_any (events.Refused child) h any settled c b is over = settled c b is over

-- a held pod of this name is there behind the calls
pub held_stays : (root : List ℕ) (held new : List HeldPod) (told now : List Event) → MovesAll root held new told now → (name : List ℕ) → IsHeld held name → IsHeld new name
held_stays root held new told now moves name found =
    let within : found.place < length held = slice_get_within held found.place found.pod found.at in
    let there : slice_get new found.place ≡ Some (get_or new found.place found.pod) = slice_get-get_or new found.place found.pod (omega (arith, within, moves.same_length)) in
    let was = moves.same found.place (get_or new found.place found.pod) there in
    let same : was.was ≡ found.pod = same_Some was.was found.pod (sym was.at ∙ found.at) in
    record { place = found.place; pod = get_or new found.place found.pod; at = there; named = was.name ∙ (ap (λ (p : HeldPod). p.name) same ∙ found.named) }

-- where the held pods stay ready, they are so
pub ready_stays : (root : List ℕ) (held new : List HeldPod) (told now : List Event) → MovesAll root held new told now → StayReady root held new told now → AreReady root held told → AreReady root new now
ready_stays root held new told now moves stay ready place pod at =
    let was = moves.same place pod at in
    stay place was.was pod was.at at (ready place was.was was.at)

-- the conditions hold after calls for the held pods
pub met_moves : (number life : ℕ) (root : List ℕ) (held new : List HeldPod) (history : List Entry) (killed dead : ℕ → Bool) (told now : List Event)
    → AreMet number life root held history killed told → MovesAll root held new told now → (HaveRoot root history → StayReady root held new told now) → StayKilled killed dead
    → AreMet number life root new history dead now
met_moves number life root held new history killed dead told now met moves stay more =
    let planned : (place : ℕ) (pod : HeldPod) → slice_get held place ≡ Some pod → IsPlanOf pod.name pod.plan = λ place pod at. (met.keeps place pod at).planned in
    record {
      claimed = record {
        mine = λ place pod at.
            let was = moves.same place pod at in
            let mine = met.claimed.mine place was.was was.at in
            record {
              it = mine.it;
              is = ap (pod_of history) was.name ∙ mine.is;
              has = record { claimed = mine.has.claimed; unended = mine.has.unended; plan = mine.has.plan ∙ sym was.plan };
            };
        all = λ name state is mine unended. held_stays root held new told now moves name (met.claimed.all name state is mine unended);
        apart = all_apart root held new told now moves met.claimed.apart;
        none_lost = met.claimed.none_lost;
      };
      keeps = moves.keeps;
      ready = λ have. ready_stays root held new told now moves (stay have) (met.ready have);
      kept = kept_killed (layout_of root) killed dead (pods_of number history) now more
          (adds_keep (MayAny root held) (λ h. IsKept (layout_of root) killed (pods_of number history) h) (kept_any number life root held history killed met.claimed planned) told now moves.adds met.kept);
      settled = λ c b is over. settled_more killed dead more c now
          (adds_keep (MayAny root held) (λ h. AreArmedSettled killed (pods_of number history) h) (settled_any number life root held history killed met.claimed planned) told now moves.adds met.settled c b is over);
    }

-- after the kills each child of this life is settled
pub all_settled : (number life : ℕ) (root : List ℕ) (held : List HeldPod) (history : List Entry) (killed dead : ℕ → Bool) (told now : List Event) → now ≡ told
    → AreMet number life root held history killed told → AreAllKilled dead held → StayKilled killed dead
    → (child : ℕ) (arming : Arming) → arming_of child now ≡ Some arming → Has (pod_of history arming.order.pod) (λ state. state.claim ≡ Some (claim_of number life)) → IsSettled dead child now
all_settled number life root held history killed dead told now is met ended more child arming armed mine = subst (IsSettled dead child) (sym is) (by_end mine.it.ended refl)
  where
    here : arming_of child told ≡ Some arming
    here = subst (λ (h : List Event). arming_of child h ≡ Some arming) is armed

    by_exit : (step : HeldStep) (exit : Option ℕ) → step.exit ≡ exit → step.exit ≡ exit_of child told → (step.exit ≡ None → dead child ≡ true) → IsSettled dead child told
    by_exit step None none same kill = inr (kill none)
    by_exit step (Some exit) some same kill = inl record { it = exit; is = sym same ∙ some; has = tt }

    by_end : (end : Option EndedPod) → mine.it.ended ≡ end → IsSettled dead child told
    by_end None unended =
        let found = met.claimed.all arming.order.pod mine.it mine.is mine.has unended in
        let holds = (met.keeps found.place found.pod found.at).holds in
        let step = holds.all child arming here (sym found.named) in
        let held_step = holds.steps arming.order.step step.0 step.1 in
        let exit : step.0.exit ≡ exit_of child told = held_step.exit ∙ ap (λ (c : ℕ). exit_of c told) step.2 in
        by_exit step.0 step.0.exit refl exit (λ none. subst (λ (c : ℕ). dead c ≡ true) step.2 (ended found.place found.pod found.at arming.order.step step.0 step.1 none))
    by_end (Some end) is_ended =
        let over : is_over mine.it.ended ≡ true = ap is_over is_ended ∙ met.claimed.none_lost arming.order.pod mine.it end mine.is mine.has is_ended in
        settled_more killed dead more child told (met.settled child arming here record {
          it = claimed_with mine.it;
          is = ap (claimed_pod number) mine.is ∙ claimed_is number life mine.it mine.has;
          has = over;
        })

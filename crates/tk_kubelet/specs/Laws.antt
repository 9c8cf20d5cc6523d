-- What a kubelet's choice is to the journal's rows.
use Rattle.std.specs.Prelude.{◌≡◌, ℕ, List, [], Option, Some, None, true}
use Rattle.tk_types.specs.declared.run.Outcome.TheVariants as outcomes
use Rattle.tk_journal.specs.declared.act.Act.TheVariants as acts
use Rattle.tk_journal.specs.declared.entry.Entry.{Entry}
use Rattle.tk_journal.specs.declared.entry.Fronts.{Fronts}
use Rattle.tk_journal.specs.declared.object.Claim.{Claim}
use Rattle.tk_journal.specs.History.{View, view_at}
use Rattle.tk_journal.specs.Rows.{IsJustified}
use Rattle.tk_steps.specs.declared.held.HeldPod.{HeldPod}
use Rattle.tk_kubelet.specs.Choice.{first_end, first_claim, claimed_before}
use Rattle.tk_kubelet.specs.Seat.{actor_of}

-- the claim that is tried is justified, by whatever is seen
abbrev pub ClaimIsJustified : Type 0
ClaimIsJustified =
    (me : Claim) (view : View) (moment : ℕ) (name : List ℕ) → first_claim me.number view ≡ Some name
    → IsJustified view (actor_of me) moment (acts.ClaimPod name)

-- so is Lost of a pod that an earlier life claimed
abbrev pub LostIsJustified : Type 0
LostIsJustified =
    (me : Claim) (view : View) (moment : ℕ) (held : List HeldPod) (name : List ℕ) → first_end me.number me.life view moment held ≡ Some name
    → claimed_before me.life (view.pod name) ≡ true → IsJustified view (actor_of me) moment (acts.EndPod name [] outcomes.Lost)

-- where no claim is found, none is justified
abbrev pub NoClaimIsLeft : Type 0
NoClaimIsLeft =
    (history : List Entry) (fronts : Fronts) (me : Claim) (moment : ℕ) (name : List ℕ) → first_claim me.number (view_at fronts history) ≡ None
    → IsJustified (view_at fronts history) (actor_of me) moment (acts.ClaimPod name) → ⊥

-- where no pod is found to end, none is to end as Lost
abbrev pub NoneIsLost : Type 0
NoneIsLost =
    (history : List Entry) (fronts : Fronts) (me : Claim) (moment : ℕ) (held : List HeldPod) (name ended : List ℕ)
    → first_end me.number me.life (view_at fronts history) moment held ≡ None
    → IsJustified (view_at fronts history) (actor_of me) moment (acts.EndPod name ended outcomes.Lost) → ⊥

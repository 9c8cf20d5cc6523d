-- What a kubelet finds is what the journal's rows justify.
use Rattle.std.proofs.Common.{◌≡◌, ℕ, ◌<◌, ◌≤◌, List, [], length, Contains, Option, Some, None, Bool, true, false, refl, sym, ◌∙◌, ap, subst, inl, inr, nat_eq}
use Rattle.std.specs.Prelude.{◌&&◌, ◌||◌, nat_lt, filter, is_none}
use Rattle.std.proofs.lemmas.Bool.{cases_Bool, eq-eqb, lt-ltb}
use Rattle.tk_types.specs.declared.scenario.Kind.TheVariants as kinds
use Rattle.tk_types.specs.declared.run.Outcome.TheVariants as outcomes
use Rattle.tk_journal.specs.declared.act.Act.TheVariants as acts
use Rattle.tk_journal.specs.declared.entry.Actor.{Actor}
use Rattle.tk_journal.specs.declared.entry.Actor.TheVariants as actors
use Rattle.tk_journal.specs.declared.entry.Entry.{Entry}
use Rattle.tk_journal.specs.declared.entry.Fronts.{Fronts}
use Rattle.tk_journal.specs.declared.object.Claim.{Claim}
use Rattle.tk_journal.specs.declared.object.PodState.{PodState}
use Rattle.tk_journal.specs.History.{View, view_at, past}
use Rattle.tk_journal.specs.PodRows.{ClaimRow, EndRow, is_held_by, is_unended}
use Rattle.tk_journal.specs.Rows.{IsJustified}
use Rattle.tk_journal.proofs.Search.{pod_named}
use Rattle.tk_steps.specs.declared.held.HeldPod.{HeldPod}
use Rattle.tk_kubelet.specs.Choice.{claimed_before, ends_claim, ends_of_held, ends_pod, ends_state, first_end, first_claim, has_room, held_named, is_unclaimed}
use Rattle.tk_kubelet.specs.Laws.{ClaimIsJustified, LostIsJustified, NoClaimIsLeft, NoneIsLost}
use Rattle.tk_kubelet.specs.Seat.{actor_of}
use Rattle.tk_kubelet.proofs.Chosen.{sees_lost}
use Rattle.tk_kubelet.proofs.Found.{find_none}
use Rattle.tk_kubelet.proofs.Rows.{claim_row, lost_row}

pub claim_is_justified : ClaimIsJustified
claim_is_justified me view moment name first = claim_row me.number view name first me.life

pub lost_is_justified : LostIsJustified
lost_is_justified me view moment held name first before = lost_row me view moment name (sees_lost me.number me.life moment view held name first before)

abbrev number_of : Actor → ℕ
number_of (actors.Kubelet number life) = number
number_of _ = 0

abbrev life_of : Actor → ℕ
life_of (actors.Kubelet number life) = life
life_of _ = 0

module _ (history : List Entry) (fronts : Fronts) (me : Claim) (moment : ℕ) (name : List ℕ) where
  abbrev view : View
  view = view_at fronts history

  -- the pod stands among those that are seen
  named : (state : PodState) → view.pod name ≡ Some state → Contains view.pods name
  named state is = pod_named (past fronts.pods history) name state is

  same_number : (number life : ℕ) → actor_of me ≡ actors.Kubelet number life → me.number ≡ number
  same_number number life by = ap number_of by

  same_life : (number life : ℕ) → actor_of me ≡ actors.Kubelet number life → me.life ≡ life
  same_life number life by = ap life_of by

  module _ (state : PodState) (is : view.pod name ≡ Some state) (row : ClaimRow view (actor_of me) state) where
    room : has_room me.number view ≡ true
    room = lt-ltb (length (filter (λ (n : List ℕ). is_held_by me.number (view.pod n)) view.pods)) 8
        (subst (λ (n : ℕ). length (filter (λ (m : List ℕ). is_held_by n (view.pod m)) view.pods) < 8) (sym (same_number row.number row.life row.by)) row.room)

    unclaimed : is_unclaimed (view.pod name) ≡ true
    unclaimed = ap is_unclaimed is ∙ ap is_none row.unclaimed

    no_claim : first_claim me.number view ≡ None → ⊥
    no_claim none =
        let missed : is_unclaimed (view.pod name) ≡ false = find_none (λ (n : List ℕ). is_unclaimed (view.pod n)) view.pods name (rw room at none) (named state is) in
        let bad : true ≡ false = sym unclaimed ∙ missed in
        cc (bad)

  module _ (held : List HeldPod) (state : PodState) (is : view.pod name ≡ Some state) (ended : List ℕ) (row : EndRow view (actor_of me) moment ended outcomes.Lost state) where
    abbrev ends : Bool
    ends = ends_of_held view moment (held_named held name)

    found : row.claimed_in < row.life → ends_pod me.number me.life view moment held name ≡ true
    found earlier =
        let mine : nat_eq row.number me.number ≡ true = eq-eqb row.number me.number (sym (same_number row.number row.life row.by)) in
        let before : nat_lt row.claimed_in me.life ≡ true = lt-ltb row.claimed_in me.life (subst (λ (l : ℕ). row.claimed_in < l) (sym (same_life row.number row.life row.by)) earlier) in
        rw (is, row.claimed, row.unended, mine, before) refl

    no_lost : first_end me.number me.life view moment held ≡ None → ⊥
    no_lost none = elim row.fits [
      | inl own ↦ own.2
      | inr lost ↦
          let missed : ends_pod me.number me.life view moment held name ≡ false = find_none (ends_pod me.number me.life view moment held) view.pods name none (named state is) in
          let bad : true ≡ false = sym (found lost.0) ∙ missed in
          cc (bad)
    ]

-- where no claim is found, none is justified
pub no_claim_is_left : NoClaimIsLeft
no_claim_is_left history fronts me moment name none row = no_claim history fronts me moment name row.it row.is row.has none

-- where no pod is found to end, none is to end as Lost
pub none_is_lost : NoneIsLost
none_is_lost history fronts me moment held name ended none row = no_lost history fronts me moment name held row.it row.is ended row.has none

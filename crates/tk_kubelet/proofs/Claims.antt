-- The claim of a pod: the conditions of a turn hold again behind it.
use Rattle.std.proofs.Common.{◌≡◌, ℕ, List, [], ◌∷◌, ◌++◌, Option, Some, None, Ok, Err, Bool, true, false, refl, sym, ◌∙◌, ap, subst, inl, inr, slice_get}
use Rattle.std.specs.Prelude.{◌⊎◌, Result, IfOk, OnErr}
use Rattle.std.proofs.lemmas.Option.{same_Some}
use Rattle.tk_edge.specs.declared.event.Event.{Event}
use Rattle.tk_journal.specs.declared.act.Act.TheVariants as acts
use Rattle.tk_journal.specs.declared.entry.Entry.{Entry}
use Rattle.tk_journal.specs.declared.object.Claim.{Claim}
use Rattle.tk_journal.specs.declared.object.PodState.{PodState}
use Rattle.tk_journal.specs.History.{View, past, pod_of}
use Rattle.tk_journal.specs.Legal.{IsLegal}
use Rattle.tk_journal.specs.Lists.{IsThere}
use Rattle.tk_journal.proofs.Present.{same_pod}
use Rattle.tk_steps.specs.declared.held.HeldPod.{HeldPod}
use Rattle.tk_steps.proofs.Gets.{get_more}
use Rattle.tk_store.specs.Writes.{Stored}
use Rattle.tk_cache.specs.Fronts.{Shows}
use Rattle.tk_cache.specs.Views.{Seen}
use Rattle.tk_held.specs.Conditions.{AreMet}
use Rattle.tk_held.specs.Laws.{LegalIsPlanned}
use Rattle.tk_held.proofs.Grown.{met_claimed}
use Rattle.tk_kubelet.specs.declared.kubelet.KubeletTurn.{KubeletTurn}
use Rattle.tk_kubelet.specs.declared.kubelet.KubeletTurn.TheVariants as turns
use Rattle.tk_kubelet.specs.Answer.{Answered}
use Rattle.tk_kubelet.specs.Choice.{first_claim}
use Rattle.tk_kubelet.specs.Entries.{HeldAfter, HeldClaim, IsFresh}
use Rattle.tk_kubelet.specs.Seat.{actor_of, entry_by}
use Rattle.tk_kubelet.proofs.Rows.{is_free}

pub claim_there : (number : ℕ) (view : View) (name : List ℕ) → first_claim number view ≡ Some name → IsThere (view.pod name)
claim_there number view name first = let free = is_free number view name first in (free.state, free.is_seen)

-- one pod more, for which nothing was done
pub held_claim : (view : View) (name : List ℕ) (held new : List HeldPod) (turn : KubeletTurn) → HeldClaim view name turn held new → HeldAfter held new
held_claim view name held new (turns.Wrote version) claimed place p at = elim (get_more held claimed.0 p place (subst (λ (ps : List HeldPod). slice_get ps place ≡ Some p) claimed.2 at)) [
  | inl before ↦ inl (place, before)
  | inr last ↦ inr (subst IsFresh (sym last.1) claimed.1.fresh)
]
held_claim view name held new (turns.Conflict found) same place p at = inl (place, subst (λ (ps : List HeldPod). slice_get ps place ≡ Some p) same at)
held_claim view name held new turns.Acted same place p at = inl (place, subst (λ (ps : List HeldPod). slice_get ps place ≡ Some p) same at)
held_claim view name held new turns.Idle same place p at = inl (place, subst (λ (ps : List HeldPod). slice_get ps place ≡ Some p) same at)
held_claim view name held new turns.HostFault same place p at = inl (place, subst (λ (ps : List HeldPod). slice_get ps place ≡ Some p) same at)

-- behind the claim, or without it
pub claim_then : LegalIsPlanned → (me : Claim) (root : List ℕ) (held new : List HeldPod) (history : List Entry) (killed : ℕ → Bool) (told : List Event) → IsLegal history → AreMet me.number me.life root held history killed told
    → (seen : Seen) (moment : ℕ) (name : List ℕ) → Shows seen history → first_claim me.number seen.view ≡ Some name → (before after : Stored) → before.history ≡ history → (turn : KubeletTurn)
    → Answered before (entry_by me seen moment (acts.ClaimPod name)) turn after → HeldClaim seen.view name turn held new → AreMet me.number me.life root new after.history killed told
claim_then planned me root held new history killed told legal met seen moment name shows first before after same (turns.Wrote version) answered (pod, claimed, more) =
    let current = subst (λ (h : List Entry). pod_of (past seen.fronts.pods h) name ≡ pod_of h name) same (same_pod before.history seen.fronts (actor_of me) moment name answered.0) in
    let free = is_free me.number seen.view name first in
    let there : pod_of history name ≡ Some free.state = sym current ∙ (ap (λ (v : View). v.pod name) (sym shows.same) ∙ free.is_seen) in
    let sound = planned history legal name free.state there in
    let state : claimed.planned.it ≡ free.state = same_Some claimed.planned.it free.state (sym claimed.planned.is ∙ free.is_seen) in
    let plan = claimed.planned.has ∙ ap (λ (s : PodState). s.plan) state in
    let here = met_claimed me.number me.life root held history killed told met seen.fronts moment name free.state there free.free (sound.claimed_first free.free) pod claimed.named plan sound.planned claimed.fresh.no_steps claimed.fresh.not_ready in
    let grown : after.history ≡ entry_by me seen moment (acts.ClaimPod name) ∷ history = answered.1.added ∙ ap (λ (h : List Entry). entry_by me seen moment (acts.ClaimPod name) ∷ h) same in
    subst (λ (hs : List HeldPod). AreMet me.number me.life root hs after.history killed told) (sym more) (subst (λ (h : List Entry). AreMet me.number me.life root (held ++ pod ∷ []) h killed told) (sym grown) here)
claim_then planned me root held new history killed told legal met seen moment name shows first before after same (turns.Conflict found) answered kept =
    let stands : after.history ≡ history = ap (λ (s : Stored). s.history) answered.2 ∙ same in
    subst (λ (hs : List HeldPod). AreMet me.number me.life root hs after.history killed told) (sym kept) (subst (λ (h : List Entry). AreMet me.number me.life root held h killed told) (sym stands) met)
claim_then planned me root held new history killed told legal met seen moment name shows first before after same turns.Acted answered kept = absurd answered
claim_then planned me root held new history killed told legal met seen moment name shows first before after same turns.Idle answered kept = absurd answered
claim_then planned me root held new history killed told legal met seen moment name shows first before after same turns.HostFault answered kept = absurd answered

pub claim_result : {E : Type 0} → LegalIsPlanned → (me : Claim) (root : List ℕ) (held new : List HeldPod) (killed : ℕ → Bool) (told : List Event) (seen : Seen) (moment : ℕ) (name : List ℕ) (before after : Stored) → IsLegal before.history
    → AreMet me.number me.life root held before.history killed told → Shows seen before.history → first_claim me.number seen.view ≡ Some name → (result : Result KubeletTurn E)
    → IfOk result (λ turn. Answered before (entry_by me seen moment (acts.ClaimPod name)) turn after) → IfOk result (λ turn. HeldClaim seen.view name turn held new)
    → OnErr result (after ≡ before) → OnErr result (new ≡ held) → AreMet me.number me.life root new after.history killed told
claim_result planned me root held new killed told seen moment name before after legal met shows first (Ok turn) answered claimed stands kept =
    claim_then planned me root held new before.history killed told legal met seen moment name shows first before after refl turn answered claimed
claim_result planned me root held new killed told seen moment name before after legal met shows first (Err e) answered claimed stands kept =
    let here : AreMet me.number me.life root held after.history killed told = subst (λ (s : Stored). AreMet me.number me.life root held s.history killed told) (sym stands) met in
    subst (λ (hs : List HeldPod). AreMet me.number me.life root hs after.history killed told) (sym kept) here

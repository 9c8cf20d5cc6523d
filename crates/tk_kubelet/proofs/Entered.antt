-- Entries in the words of the pod that they are of, and what is held behind them.
use Rattle.std.proofs.Common.{◌≡◌, ℕ, List, [], ◌∷◌, ◌++◌, Bool, true, false, Ok, Err, refl, sym, ◌∙◌, ap, subst}
use Rattle.std.specs.Prelude.{Result, IfOk}
use Rattle.std.specs.List.{remove}
use Rattle.tk_types.specs.declared.run.Outcome.{Outcome}
use Rattle.tk_journal.specs.declared.act.Act.{Act}
use Rattle.tk_journal.specs.declared.act.Act.TheVariants as acts
use Rattle.tk_journal.specs.declared.object.Claim.{Claim}
use Rattle.tk_journal.specs.History.{View}
use Rattle.tk_steps.specs.declared.held.HeldPod.{HeldPod}
use Rattle.tk_store.specs.Writes.{Stored}
use Rattle.tk_cache.specs.Views.{Seen}
use Rattle.tk_choice.specs.Took.{MayTry}
use Rattle.tk_kubelet.specs.declared.kubelet.KubeletTurn.{KubeletTurn}
use Rattle.tk_kubelet.specs.declared.kubelet.KubeletTurn.TheVariants as turns
use Rattle.tk_kubelet.specs.Answer.{Answered, is_written}
use Rattle.tk_kubelet.specs.Entries.{HeldClaim, IsClaimed, held_behind}
use Rattle.tk_kubelet.specs.Seat.{actor_of, entry_by}

pub claim_is : (text name : List ℕ) → text ≡ name → acts.ClaimPod text ≡ acts.ClaimPod name
claim_is text name same = ap (λ (n : List ℕ). acts.ClaimPod n) same

pub end_is : (text name ended exits : List ℕ) (outcome : Outcome) → text ≡ name → ended ≡ exits → acts.EndPod text ended outcome ≡ acts.EndPod name exits outcome
end_is text name ended exits outcome same_name same_exits =
    ap (λ (n : List ℕ). acts.EndPod n ended outcome) same_name ∙ ap (λ (es : List ℕ). acts.EndPod name es outcome) same_exits

module _ (me : Claim) (seen : Seen) (moment : ℕ) (act of : Act) (same : act ≡ of) where
  pub may_same : MayTry seen.view (actor_of me) moment of → MayTry seen.view (actor_of me) moment act
  may_same may = subst (MayTry seen.view (actor_of me) moment) (sym same) may

  pub answered_same : {E : Type 0} (before after : Stored) (result : Result KubeletTurn E) → IfOk result (λ turn. Answered before (entry_by me seen moment act) turn after) → IfOk result (λ turn. Answered before (entry_by me seen moment of) turn after)
  answered_same before after (Ok turn) answered = subst (λ (a : Act). Answered before (entry_by me seen moment a) turn after) same answered
  answered_same before after (Err e) answered = tt

  pub answer_same : (before after : Stored) (turn : KubeletTurn) → Answered before (entry_by me seen moment act) turn after → Answered before (entry_by me seen moment of) turn after
  answer_same before after turn answered = subst (λ (a : Act). Answered before (entry_by me seen moment a) turn after) same answered

-- what is held behind an entry that was written, or wasn't

pub behind_written : (turn : KubeletTurn) (place : ℕ) (held : List HeldPod) → is_written turn ≡ true → held_behind turn place held ≡ remove held place
behind_written (turns.Wrote version) place held is = refl
behind_written (turns.Conflict found) place held is = cc (is)
behind_written turns.Acted place held is = cc (is)
behind_written turns.Idle place held is = cc (is)
behind_written turns.HostFault place held is = cc (is)

pub behind_other : (turn : KubeletTurn) (place : ℕ) (held : List HeldPod) → is_written turn ≡ false → held_behind turn place held ≡ held
behind_other (turns.Wrote version) place held is = cc (is)
behind_other (turns.Conflict found) place held is = refl
behind_other turns.Acted place held is = refl
behind_other turns.Idle place held is = refl
behind_other turns.HostFault place held is = refl

pub claim_written : (view : View) (name : List ℕ) (turn : KubeletTurn) (held new : List HeldPod) (pod : HeldPod) → is_written turn ≡ true → IsClaimed view name pod → new ≡ held ++ pod ∷ [] → HeldClaim view name turn held new
claim_written view name (turns.Wrote version) held new pod is claimed more = (pod, claimed, more)
claim_written view name (turns.Conflict found) held new pod is claimed more = cc (is)
claim_written view name turns.Acted held new pod is claimed more = cc (is)
claim_written view name turns.Idle held new pod is claimed more = cc (is)
claim_written view name turns.HostFault held new pod is claimed more = cc (is)

pub claim_other : (view : View) (name : List ℕ) (turn : KubeletTurn) (held new : List HeldPod) → is_written turn ≡ false → new ≡ held → HeldClaim view name turn held new
claim_other view name (turns.Wrote version) held new is same = cc (is)
claim_other view name (turns.Conflict found) held new is same = same
claim_other view name turns.Acted held new is same = same
claim_other view name turns.Idle held new is same = same
claim_other view name turns.HostFault held new is same = same

-- The outcome of a walk that is over, and what the journal asks of it.
use Rattle.std.proofs.Common.{◌≡◌, ◌⊎◌, ℕ, List, [], Option, Some, None, is_some, Bool, true, IsTrue, refl, sym, ◌∙◌, ap, subst, inl, inr}
use Rattle.tk_types.specs.declared.run.Outcome.{Outcome}
use Rattle.tk_types.specs.declared.run.Outcome.TheVariants as outcomes
use Rattle.tk_types.specs.declared.value.Param.{Param}
use Rattle.tk_pod.specs.declared.walk.Walked.{Walked}
use Rattle.tk_pod.specs.declared.walk.Walked.TheVariants.{Well, Broke}
use Rattle.tk_edge.specs.declared.event.Event.{Event}
use Rattle.tk_edge.specs.Files.{Files}
use Rattle.tk_journal.specs.declared.object.Plan.{Plan}
use Rattle.tk_journal.specs.declared.object.PodState.{PodState}
use Rattle.tk_journal.specs.History.{View}
use Rattle.tk_journal.specs.PodRows.{AreResults, IsWell, IsBroke, EndCause}
use Rattle.tk_steps.specs.declared.held.HeldPod.{HeldPod}
use Rattle.tk_outcome.specs.Exits.{exits_of, walked_of, broke_with, broken_exit, is_walked}
use Rattle.tk_outcome.specs.Walked.{HasResults, EndsWalked, outcome_of}
use Rattle.tk_outcome.proofs.Gathers.{gathered_are_results, none_are_results}

-- the step at which a walk broke
broke_of : (o : Option Walked) (exit : ℕ) → broke_with o ≡ Some exit → (step : ℕ) × (o ≡ Some (Broke step exit))
broke_of (Some Well) exit is = cc (is)
broke_of (Some (Broke step other)) exit is = (let same : other ≡ exit = cc in (step, ap (λ e. Some (Broke step e)) same))
broke_of None exit is = cc (is)

module _ (root : List ℕ) (told : List Event) (files : Option Files) (pod : HeldPod) where
  fits_by : (outcome : Outcome) → EndsWalked root told files pod outcome → (view : View) (moment : ℕ) (state : PodState) → state.plan ≡ pod.plan → EndCause view moment (exits_of pod.steps.items) state outcome
  fits_by (outcomes.Succeeded results) (well, has) view moment state same = (
    subst (λ (p : Plan). IsWell p (exits_of pod.steps.items)) (sym same) well,
    subst (λ (p : Plan). AreResults p.results results) (sym same) (gathered_are_results pod.plan.results has.found results has.gives),
  )
  fits_by (outcomes.Failed (Some exit) results) (broke, has) view moment state same = (
    subst (λ (p : Plan). IsBroke p (exits_of pod.steps.items) exit) (sym same) (broke_of (walked_of pod) exit broke),
    subst (λ (p : Plan). AreResults p.results results) (sym same) (results_of has),
  )
    where
      results_of : HasResults root told files pod (Some results) ⊎ (HasResults root told files pod None × (results ≡ [])) → AreResults pod.plan.results results
      results_of (inl has) = gathered_are_results pod.plan.results has.found results has.gives
      results_of (inr refused) = subst (AreResults pod.plan.results) (sym refused.1) (none_are_results pod.plan.results)
  fits_by (outcomes.Failed None results) (well, has, none) view moment state same = none
  fits_by outcomes.TimedOut ends view moment state same = absurd ends
  fits_by outcomes.Cancelled ends view moment state same = absurd ends
  fits_by outcomes.Lost ends view moment state same = absurd ends

pub ends_fit : (root : List ℕ) (told : List Event) (files : Option Files) (pod : HeldPod) (outcome : Outcome) → EndsWalked root told files pod outcome
    → (view : View) (moment : ℕ) (state : PodState) → state.plan ≡ pod.plan → EndCause view moment (exits_of pod.steps.items) state outcome
ends_fit root told files pod outcome ends view moment state same = fits_by root told files pod outcome ends view moment state same

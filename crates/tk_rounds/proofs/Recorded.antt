-- What stands of a kubelet's ended pods stands behind its own entries and behind those of others.
use Rattle.std.proofs.Common.{◌≡◌, ℕ, List, [], ◌∷◌, Option, Some, None, true, refl, sym, ◌∙◌, ap, subst, inl, inr}
use Rattle.std.specs.Prelude.{◌&&◌, bytes_eq}
use Rattle.std.proofs.lemmas.Bool.{eq-eqb}
use Rattle.std.proofs.lemmas.Option.{same_Some}
use Rattle.std.specs.Cmp.Lexicographic.{bytes_decides}
use Rattle.std.specs.List.{AllZip}
use Rattle.tk_types.specs.declared.scenario.Kind.TheVariants as kinds
use Rattle.tk_types.specs.declared.run.Outcome.{Outcome}
use Rattle.tk_types.specs.declared.run.Outcome.TheVariants as outcomes
use Rattle.tk_types.specs.declared.value.Param.{Param}
use Rattle.tk_types.specs.declared.value.ResultSpec.{ResultSpec}
use Rattle.tk_edge.specs.declared.event.Event.{Event}
use Rattle.tk_edge.specs.Files.{Files}
use Rattle.tk_results.specs.declared.files.Fetched.{Fetched}
use Rattle.tk_journal.specs.declared.act.Act.{Act}
use Rattle.tk_journal.specs.declared.act.Act.TheVariants as acts
use Rattle.tk_journal.specs.declared.entry.Entry.{Entry}
use Rattle.tk_journal.specs.declared.object.Claim.{Claim}
use Rattle.tk_journal.specs.declared.object.EndedPod.{EndedPod}
use Rattle.tk_journal.specs.declared.object.PodState.{PodState}
use Rattle.tk_journal.specs.Effects.{kind_of, name_of, pod_after, pod_made, same_kind, writes}
use Rattle.tk_journal.specs.Grows.{PodGrows}
use Rattle.tk_journal.specs.History.{pod_of, pod_written, view_at}
use Rattle.tk_journal.specs.Legal.{IsLegal}
use Rattle.tk_journal.specs.Lists.{Has}
use Rattle.tk_journal.specs.PodRows.{claims_for}
use Rattle.tk_journal.proofs.Basics.{writes_name}
use Rattle.tk_journal.proofs.Grows.{pod_row_of, pod_same, pod_step}
use Rattle.tk_journal.proofs.Past.{state_cases, state_hit}
use Rattle.tk_journal.proofs.Present.{PodRow}
use Rattle.tk_steps.specs.declared.held.HeldPod.{HeldPod}
use Rattle.tk_held.specs.Conditions.{ArePlanned, claim_of}
use Rattle.tk_held.specs.Laws.{IsOfOther}
use Rattle.tk_held.proofs.Others.{was_mine}
use Rattle.tk_outcome.specs.Walked.{EndsWalked, HasResults, IsFetched}
use Rattle.tk_rounds.specs.Outcomes.{AreEndedBy, AreForClaimed, HasOutcomes, IsEndedBy, MayClaimed}

own_claim : (number life : ℕ) (claim : Option Claim) → claim ≡ Some (claim_of number life) → claims_for number claim ≡ true
own_claim number life claim is = ap (claims_for number) is ∙ eq-eqb number number refl

-- entries of others

pub outcomes_other : (number life : ℕ) (root : List ℕ) (held : List HeldPod) (before now : ℕ) (told : List Event) (history : List Entry) (e : Entry) → IsLegal (e ∷ history) → IsOfOther number e → HasOutcomes number life root held before now told history → HasOutcomes number life root held before now told (e ∷ history)
outcomes_other number life root held before now told history e legal other was = record {
  failed = was.failed;
  few = was.few;
  each = λ name state ended is mine over. was.each name state ended (was_mine number history e legal other name state is (own_claim number life state.claim mine)) mine over;
}

-- a claimed pod behind any entry

module _ (older : List Entry) (e : Entry) (legal : IsLegal (e ∷ older)) where
  pub claimed_grows : (name : List ℕ) (pod : PodState) (claim : Claim) → pod_of older name ≡ Some pod → pod.claim ≡ Some claim → Has (pod_of (e ∷ older) name) (PodGrows pod)
  claimed_grows name pod claim is claimed =
      state_cases (writes kinds.Pods name) (λ (before : List Entry) d was. pod_written d was) (λ (o : Option PodState). Has o (PodGrows pod)) e older
      (λ miss. record { it = pod; is = is; has = pod_same pod })
      (λ hit. rw is (record { it = pod_after e.actor e.act pod; is = refl; has = pod_step (view_at e.fronts older) e.actor e.moment e.act pod (λ ended. (claim, claimed)) (pod_row_of older e legal.1 name pod hit is) }))

  claim_there : (number : ℕ) (claim : Option Claim) → claims_for number claim ≡ true → (c : Claim) × (claim ≡ Some c)
  claim_there number None is = cc
  claim_there number (Some c) is = (c, refl)

  claimed_later : (number : ℕ) (root : List ℕ) (d : Event) (before : List Event) → MayClaimed number root older d before → MayClaimed number root (e ∷ older) d before
  claimed_later number root d before was =
      let claim = claim_there number was.state.claim was.claimed in
      let now = claimed_grows was.name was.state claim.0 was.is claim.1 in
      record {
        name = was.name;
        state = now.it;
        is = now.is;
        claimed = ap (claims_for number) (now.has.claim claim.0 claim.1 ∙ sym claim.1) ∙ was.claimed;
        may = rw now.has.plan was.may;
      }

  pub claimed_all : (number : ℕ) (root : List ℕ) (told : List Event) → AreForClaimed number root older told → AreForClaimed number root (e ∷ older) told
  claimed_all number root [] was = tt
  claimed_all number root (d ∷ before) was = (claimed_later number root d before was.0, claimed_all number root before was.1)

-- files are forgotten

module _ (root : List ℕ) (told : List Event) (files : Option Files) (pod : HeldPod) where
  fetched_alone : (specs : List ResultSpec) (found : List Fetched) → AllZip (IsFetched root pod.name told files) specs found → AllZip (IsFetched root pod.name told None) specs found
  fetched_alone [] [] all = all
  fetched_alone [] (f ∷ fs) all = all
  fetched_alone (s ∷ ss) [] all = all
  fetched_alone (s ∷ ss) (f ∷ fs) all = (record { named = all.0.named; answered = all.0.answered; first_bytes = tt }, fetched_alone ss fs all.1)

  results_alone : (results : Option (List Param)) → HasResults root told files pod results → HasResults root told None pod results
  results_alone results has = record { found = has.found; are_fetched = fetched_alone _ has.found has.are_fetched; gives = has.gives }

  pub walked_alone : (outcome : Outcome) → EndsWalked root told files pod outcome → EndsWalked root told None pod outcome
  walked_alone (outcomes.Succeeded results) ends = (ends.0, results_alone (Some results) ends.1)
  walked_alone (outcomes.Failed (Some exit) results) (broke, inl has) = (broke, inl (results_alone (Some results) has))
  walked_alone (outcomes.Failed (Some exit) results) (broke, inr none) = (broke, inr (results_alone None none.0, none.1))
  walked_alone (outcomes.Failed None results) ends = (ends.0, results_alone None ends.1, ends.2)
  walked_alone outcomes.Cancelled ends = ends
  walked_alone outcomes.TimedOut ends = ends
  walked_alone outcomes.Lost ends = ends

-- an entry of its own

module _ (number life : ℕ) (root : List ℕ) (told : List Event) (older : List Entry) (e : Entry) (legal : IsLegal (e ∷ older)) where
  -- a claim
  module _ (planned : ArePlanned older) (name : List ℕ) (act : e.act ≡ acts.ClaimPod name) where
    unended : (other : List ℕ) (pod state : PodState) (ended : EndedPod) → writes kinds.Pods other e ≡ true → pod_of older other ≡ Some pod → pod_written e (Some pod) ≡ Some state → state.ended ≡ Some ended → ⊥
    unended other pod state ended hit there made over =
        let row = subst (λ (a : Act). PodRow (view_at e.fronts older) e.actor e.moment a pod) act (pod_row_of older e legal.1 other pod hit there) in
        let none : pod.ended ≡ None = (planned other pod there).claimed_first row.unclaimed in
        let same : pod_after e.actor (acts.ClaimPod name) pod ≡ state = ap (λ (a : Act). pod_after e.actor a pod) (sym act) ∙ same_Some (pod_after e.actor e.act pod) state made in
        let now_none : state.ended ≡ None = ap (λ (p : PodState). p.ended) (sym same) ∙ none in
        cc (now_none, over)

    not_written : (other : List ℕ) (o : Option PodState) → pod_of older other ≡ o → writes kinds.Pods other e ≡ true → (state : PodState) (ended : EndedPod) → pod_written e o ≡ Some state → state.ended ≡ Some ended → ⊥
    not_written other None there hit state ended made over = let none : pod_made (acts.ClaimPod name) ≡ Some state = ap pod_made (sym act) ∙ made in cc (none)
    not_written other (Some pod) there hit state ended made over = unended other pod state ended hit there made over

    pub ended_claim : (failed : List (List ℕ)) → AreEndedBy number life root told failed older → AreEndedBy number life root told failed (e ∷ older)
    ended_claim failed was other state ended is mine over =
        state_cases (writes kinds.Pods other) (λ (before : List Entry) d o. pod_written d o)
        (λ (o : Option PodState). o ≡ Some state → IsEndedBy root told failed other state.plan ended) e older
        (λ miss there. was other state ended there mine over)
        (λ hit made. absurd (not_written other (pod_of older other) refl hit state ended made over))
        is

  -- the end of a pod
  module _ (name exits : List ℕ) (outcome : Outcome) (act : e.act ≡ acts.EndPod name exits outcome) where
    abbrev gone : EndedPod
    gone = record { exits = exits; outcome = outcome }

    writes_it : writes kinds.Pods name e ≡ true
    writes_it = ap (λ (a : Act). same_kind kinds.Pods (kind_of a) && bytes_eq (name_of a) name) act ∙ (bytes_decides name name).1 refl

    pub ended_here : (pod : PodState) → pod_of older name ≡ Some pod → pod_of (e ∷ older) name ≡ Some (record pod { ended = Some gone })
    ended_here pod there =
        state_hit (writes kinds.Pods name) (λ (before : List Entry) d o. pod_written d o) e older writes_it
        ∙ (ap (pod_written e) there ∙ ap (λ (a : Act). Some (pod_after e.actor a pod)) act)

    named_so : (other : List ℕ) → writes kinds.Pods other e ≡ true → name ≡ other
    named_so other hit = ap name_of (sym act) ∙ writes_name kinds.Pods other e hit

    at_end : (failed : List (List ℕ)) (pod state : PodState) (ended : EndedPod) → IsEndedBy root told failed name pod.plan gone → pod_written e (Some pod) ≡ Some state → state.ended ≡ Some ended → IsEndedBy root told failed name state.plan ended
    at_end failed pod state ended is made over =
        let same : record pod { ended = Some gone } ≡ state = ap (λ (a : Act). pod_after e.actor a pod) (sym act) ∙ same_Some (pod_after e.actor e.act pod) state made in
        let one : gone ≡ ended = same_Some gone ended (ap (λ (s : PodState). s.ended) same ∙ over) in
        let plans : pod.plan ≡ state.plan = ap (λ (s : PodState). s.plan) same in
        subst (λ (d : EndedPod). IsEndedBy root told failed name state.plan d) one (rw (sym plans) is)

    written : (failed : List (List ℕ)) → ((pod : PodState) → pod_of older name ≡ Some pod → pod.claim ≡ Some (claim_of number life) → IsEndedBy root told failed name pod.plan gone)
        → (o : Option PodState) → pod_of older name ≡ o → (state : PodState) (ended : EndedPod) → pod_written e o ≡ Some state → state.claim ≡ Some (claim_of number life) → state.ended ≡ Some ended → IsEndedBy root told failed name state.plan ended
    written failed is None there state ended made mine over = let none : pod_made (acts.EndPod name exits outcome) ≡ Some state = ap pod_made (sym act) ∙ made in cc (none)
    written failed is (Some pod) there state ended made mine over =
        let same : record pod { ended = Some gone } ≡ state = ap (λ (a : Act). pod_after e.actor a pod) (sym act) ∙ same_Some (pod_after e.actor e.act pod) state made in
        at_end failed pod state ended (is pod there (ap (λ (s : PodState). s.claim) same ∙ mine)) made over

    pub ended_end : (failed : List (List ℕ)) → ((pod : PodState) → pod_of older name ≡ Some pod → pod.claim ≡ Some (claim_of number life) → IsEndedBy root told failed name pod.plan gone) → AreEndedBy number life root told failed older → AreEndedBy number life root told failed (e ∷ older)
    ended_end failed ends was other state ended is mine over =
        state_cases (writes kinds.Pods other) (λ (before : List Entry) d o. pod_written d o)
        (λ (o : Option PodState). o ≡ Some state → IsEndedBy root told failed other state.plan ended) e older
        (λ miss there. was other state ended there mine over)
        (λ hit made.
        subst (λ (n : List ℕ). IsEndedBy root told failed n state.plan ended) (named_so other hit)
        (written failed ends (pod_of older name) refl state ended (subst (λ (n : List ℕ). pod_written e (pod_of older n) ≡ Some state) (sym (named_so other hit)) made) mine over))
        is

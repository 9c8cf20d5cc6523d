-- Deeds of pods that were made are among those that Admit entries allow, so with the entries they are at most the weight.
use Rattle.std.proofs.Common.{◌≡◌, ◌≤◌, ℕ, suc, List, length, Option, Some, None, refl, sym, ◌∙◌, ap, subst, arith, Contains, slice_get}
use Rattle.std.proofs.lemmas.Option.{same_Some}
use Rattle.tk_names.specs.Children.{pod_name}
use Rattle.tk_journal.specs.declared.entry.Entry.{Entry}
use Rattle.tk_journal.specs.declared.object.RunState.{RunState}
use Rattle.tk_journal.specs.declared.object.TaskRunState.{TaskRunState}
use Rattle.tk_journal.specs.Effects.{task_count}
use Rattle.tk_journal.specs.Names.{task_at, child_name_of, possible_count}
use Rattle.tk_journal.specs.History.{task_run_of}
use Rattle.tk_journal.specs.Right.{LastingTaskRun, facts_at}
use Rattle.tk_journal.specs.Legal.{IsLegal}
use Rattle.tk_journal.proofs.Apart.{run_was_admitted}
use Rattle.tk_journal.proofs.Attempts.{get_below}
use Rattle.tk_journal.proofs.Induction.{lasting}
use Rattle.tk_journal.proofs.LeastWeight.{retries_at}
use Rattle.tk_journal.proofs.Possible.{within_possible}
use Rattle.tk_journal.proofs.Slots.{fewer}
use Rattle.tk_journal.proofs.Weighed.{within_least}
use Rattle.tk_deeds.specs.Deeds.{Deed, IsOfPod, DeedsWithinWeight}
use Rattle.tk_deeds.proofs.Steps.{deed_at, steps_at, task_run_deeds, all_deeds, whole_weight, deed_among, child_among}
use Rattle.tk_deeds.proofs.Admitted.{run_allows, alone_allows}

-- a TaskRun's deeds, of its own or as a child
task_run_allows : (history : List Entry) → IsLegal history → (name : List ℕ) (deed : Deed) (task_run : TaskRunState) → task_run_of history name ≡ Some task_run
    → Contains (task_run_deeds name task_run.spec.retries (length task_run.spec.body.spec.steps)) deed → Contains (all_deeds history) deed
task_run_allows history legal name deed task_run there has = by_run task_run.run refl
  where
    tr : LastingTaskRun history name task_run
    tr = (lasting history legal).task_runs name task_run there

    by_run : (r : Option (List ℕ)) → task_run.run ≡ r → Contains (all_deeds history) deed
    by_run None alone = alone_allows history legal name task_run deed there alone has
    by_run (Some run_name) child_of =
        let child = tr.child run_name child_of in
        let run = (lasting history legal).runs run_name child.it child.is in
        let few = within_possible (facts_at history child.it) child.has.part.task child.has.part.bindings (run.given child.has.part child.has.scheduled) in
        let retries = tr.retries run_name child_of in
        let same_run : retries.it ≡ child.it = same_Some retries.it child.it (sym retries.is ∙ child.is) in
        let tries : retries_at (task_at child.it.spec task_run.task) ≡ task_run.spec.retries = ap (λ (r : RunState). retries_at (task_at r.spec task_run.task)) (sym same_run) ∙ (ap retries_at retries.has.is ∙ retries.has.has) in
        let body = tr.body run_name child_of in
        let same_body : body.it ≡ child.it = same_Some body.it child.it (sym body.is ∙ child.is) in
        let as_many : steps_at (slice_get child.it.spec.bodies task_run.task) ≡ length task_run.spec.body.spec.steps = ap (λ (r : RunState). steps_at (slice_get r.spec.bodies task_run.task)) (sym same_body) ∙ ap steps_at body.has in
        let exists = run.exist child.has.part child.has.scheduled in
        let of_part : child.has.part.task ≡ task_run.task = child.has.of_task in
        let bounded : length child.has.part.bindings ≤ possible_count child.it.spec task_run.task = subst (λ (t : ℕ). length child.has.part.bindings ≤ possible_count child.it.spec t) of_part few in
        let own_name = child_name_of child.it.spec task_run.task task_run.index in
        run_allows history child.it.spec deed (run_was_admitted history legal run_name child.it child.is)
        (child_among child.it.spec 0 (task_count child.it.spec) task_run.task task_run.index deed (omega arith) (omega (arith, exists.1, of_part)) (omega (arith, get_below child.has.part.bindings task_run.index task_run.binding child.has.at, bounded))
        (subst (λ (n : ℕ). Contains (task_run_deeds own_name n (steps_at (slice_get child.it.spec.bodies task_run.task))) deed) (sym tries)
        (subst (λ (n : ℕ). Contains (task_run_deeds own_name task_run.spec.retries n) deed) (sym as_many)
        (subst (λ (n : List ℕ). Contains (task_run_deeds n task_run.spec.retries (length task_run.spec.body.spec.steps)) deed) child.has.named has))))

deed_allowed : (history : List Entry) → IsLegal history → (deed : Deed) → IsOfPod history deed → Contains (all_deeds history) deed
deed_allowed history legal deed has =
    let last = lasting history legal in
    let pod = last.pods deed.pod has.it has.is in
    let place = pod.attempt.has.0 in
    let task_run = last.task_runs has.it.task_run pod.attempt.it pod.attempt.is in
    let same : pod.whole.it ≡ pod.attempt.it = same_Some pod.whole.it pod.attempt.it (sym pod.whole.is ∙ pod.attempt.is) in
    let many : length has.it.plan.orders ≡ length pod.attempt.it.spec.body.spec.steps = pod.whole.has ∙ ap (λ (t : TaskRunState). length t.spec.body.spec.steps) same in
    let named : pod_name has.it.task_run (suc place) ≡ deed.pod = ap (pod_name has.it.task_run) (sym pod.attempt.has.1) ∙ sym pod.named in
    subst (λ (n : List ℕ). Contains (all_deeds history) (deed_at n deed.step deed.is_end)) named
    (task_run_allows history legal has.it.task_run (deed_at (pod_name has.it.task_run (suc place)) deed.step deed.is_end) pod.attempt.it pod.attempt.is
    (deed_among has.it.task_run pod.attempt.it.spec.retries (length pod.attempt.it.spec.body.spec.steps) place deed.step (omega (arith, pod.attempt.has.2, task_run.few)) (omega (arith, has.has, many)) deed.is_end))

pub deeds_within_weight : DeedsWithinWeight
deeds_within_weight history deeds legal differ of_pods =
    let few = fewer deeds (all_deeds history) differ (λ deed has. deed_allowed history legal deed (of_pods deed has)) in
    omega (arith, few, within_least history legal, whole_weight history legal)

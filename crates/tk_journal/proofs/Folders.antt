-- The folders of the workspaces of different attempts are apart.
use Rattle.std.proofs.Common.{◌≡◌, ◌≢◌, ℕ, zero, suc, ◌<◌, ◌≤◌, ◌^◌, ◌&&◌, List, [], ◌∷◌, length, Option, Some, None, Bool, true, false, refl, sym, ◌∙◌, ap, subst, arith, inl, inr}
use Rattle.std.specs.Prelude.{slice_get, option_map, nat_le}
use Rattle.std.proofs.lemmas.Bool.{cases_Bool}
use Rattle.std.specs.List.{list_all}
use Rattle.std.specs.Option.{option_map_or}
use Rattle.std.proofs.lemmas.Option.{same_Some, slice_get_within}
use Rattle.tk_types.specs.declared.task.Matrix.{Matrix}
use Rattle.tk_types.specs.declared.task.PipelineTask.{PipelineTask}
use Rattle.tk_types.specs.declared.task.TaskBody.{TaskBody}
use Rattle.tk_types.specs.declared.task.Space.{Space}
use Rattle.tk_types.specs.declared.run.RunSpec.{RunSpec}
use Rattle.tk_types.specs.declared.object.Asked.{Asked}
use Rattle.tk_types.specs.declared.verdict.Binding.{Binding}
use Rattle.tk_types.specs.declared.scenario.Kind.TheVariants as kinds
use Rattle.tk_names.specs.Children.{pod_name}
use Rattle.tk_names.specs.Rules.{is_dns_label, is_object_name}
use Rattle.tk_space.specs.Space.{space_folder}
use Rattle.tk_space.specs.Apart.{IsName, IsWithin}
use Rattle.tk_space.proofs.Apart.{apart_of_claims}
use Rattle.tk_verdict.proofs.GivenRight.{gives_within}
use Rattle.tk_journal.specs.declared.act.Admission.TheVariants as admissions
use Rattle.tk_journal.specs.declared.act.Act.{Act}
use Rattle.tk_journal.specs.declared.act.Act.TheVariants as acts
use Rattle.tk_journal.specs.declared.entry.Entry.{Entry}
use Rattle.tk_journal.specs.declared.object.RunState.{RunState}
use Rattle.tk_journal.specs.declared.object.TaskRunState.{TaskRunState}
use Rattle.tk_journal.specs.Effects.{writes, run_made, run_after, task_run_made, task_run_after, child_made, child_from, task_run_closed}
use Rattle.tk_journal.specs.declared.act.Closing.{Closing}
use Rattle.tk_journal.specs.declared.act.Closing.TheVariants as closings
use Rattle.tk_journal.specs.History.{past, run_of, run_written, task_run_of, task_run_written}
use Rattle.tk_types.specs.Behaviour.{tasks_of}
use Rattle.tk_journal.specs.Names.{task_at, child_name_of, name_of_child, index_in_name}
use Rattle.tk_journal.specs.Legal.{IsLegal, Fits}
use Rattle.tk_journal.specs.Right.{facts_at}
use Rattle.tk_journal.specs.Sound.{IsSoundRun}
use Rattle.tk_journal.specs.Folders.{HasRoot, HaveRoot, HasSpace, FoldersApart}
use Rattle.tk_journal.proofs.Apart.{AdmitsRun, AdmitsTask, WasAdmittedRun, WasAdmittedTask, run_was_admitted, task_was_admitted}
use Rattle.tk_journal.proofs.Claimed.{legal_past}
use Rattle.tk_journal.proofs.Induction.{lasting}
use Rattle.tk_journal.proofs.Past.{state_cases}
use Rattle.tk_journal.proofs.PlainNames.{object_name_is_name, label_is_name, child_is_name, pod_is_name, not_claims}
use Rattle.tk_names.proofs.PodNames.{pods_apart}

-- what was admitted is sound

abbrev IsSoundOne : RunSpec → Type 0
IsSoundOne spec = (name : List ℕ) × (asked : Option Asked) × IsSoundRun name asked spec

run_sound : (older : List Entry) (e : Entry) (act : Act) (spec : RunSpec) → Fits older e act → AdmitsRun act spec → IsSoundOne spec
run_sound older e (acts.Admit name (admissions.Run admitted) pending asked root) spec fits same = subst IsSoundOne same (name, asked, fits.1)
run_sound older e (acts.Admit name (admissions.Task admitted) pending asked root) spec fits same = absurd same
run_sound older e _ spec fits same = absurd same

task_named : (older : List Entry) (e : Entry) (act : Act) (name : List ℕ) → Fits older e act → AdmitsTask act name → IsName name
task_named older e (acts.Admit admitted (admissions.Task spec) pending asked root) name fits same = object_name_is_name name (subst (λ (n : List ℕ). is_object_name n ≡ true) same.0 fits.1.is_name)
task_named older e (acts.Admit admitted (admissions.Run spec) pending asked root) name fits same = absurd same
task_named older e _ name fits same = absurd same

admitted_sound : (history : List Entry) → IsLegal history → (spec : RunSpec) → WasAdmittedRun history spec → IsSoundOne spec
admitted_sound [] legal spec was = absurd was
admitted_sound (e ∷ older) legal spec was = elim was [
  | inl here ↦ run_sound older e e.act spec legal.1.fits here
  | inr before ↦ admitted_sound older legal.0 spec before
]

admitted_named : (history : List Entry) → IsLegal history → (name : List ℕ) → WasAdmittedTask history name → IsName name
admitted_named [] legal name was = absurd was
admitted_named (e ∷ older) legal name was = elim was [
  | inl here ↦ task_named older e e.act name legal.1.fits here
  | inr before ↦ admitted_named older legal.0 name before
]

-- names

both : (a b : Bool) → (a && b) ≡ true → (a ≡ true) × (b ≡ true)
both true b is = (refl, is)
both false b is = cc

all_at : {X : Type 0} (test : X → Bool) (xs : List X) (place : ℕ) (x : X) → list_all test xs ≡ true → slice_get xs place ≡ Some x → test x ≡ true
all_at test [] place x all at = cc
all_at test (y ∷ ys) zero x all at = subst (λ z. test z ≡ true) (same_Some y x at) (both (test y) (list_all test ys) all).0
all_at test (y ∷ ys) (suc place) x all at = all_at test ys place x (both (test y) (list_all test ys) all).1 at

small_index : (index : ℕ) → index < 256 → (matrix : Option Matrix) (i : ℕ) → option_map (λ (m : Matrix). index) matrix ≡ Some i → i < 2 ^ 64
small_index index few None i is = cc
small_index index few (Some m) i is = let same : index ≡ i = same_Some index i is in omega (arith, same, few)

child_plain : (spec : RunSpec) → IsSoundOne spec → (task index : ℕ) → index < 256 → IsName (child_name_of spec task index)
child_plain spec (name, asked, sound) task index few = by_task (task_at spec task) refl
  where
    own : IsName spec.name
    own = subst IsName (sym sound.named) (object_name_is_name name sound.is_name)

    by_task : (found : Option PipelineTask) → task_at spec task ≡ found → IsName (option_map_or (name_of_child spec index) found [])
    by_task None is = tt
    by_task (Some t) is =
        child_is_name spec.name t.name (index_in_name t index) (small_index index few t.matrix) own
        (label_is_name t.name (all_at (λ (t : PipelineTask). is_dns_label t.name) (tasks_of spec) task t sound.are_labels is))

-- each TaskRun's name has no slash
pub task_run_plain : (history : List Entry) → IsLegal history → (name : List ℕ) (task_run : TaskRunState) → task_run_of history name ≡ Some task_run → IsName name
task_run_plain history legal name task_run there = by_run task_run.run refl
  where
    by_run : (run : Option (List ℕ)) → task_run.run ≡ run → IsName name
    by_run None alone = admitted_named history legal name (task_was_admitted history legal name task_run there alone)
    by_run (Some run_name) is =
        let child = ((lasting history legal).task_runs name task_run there).child run_name is in
        let within = slice_get_within child.has.part.bindings task_run.index task_run.binding child.has.at in
        let few = gives_within (facts_at history child.it) task_run.task child.has.part.bindings child.has.given in
        subst IsName (sym child.has.named)
        (child_plain child.it.spec (admitted_sound history legal child.it.spec (run_was_admitted history legal run_name child.it child.is)) task_run.task task_run.index (omega (arith, within, few)))

-- roots

made_root : (root : List ℕ) (act : Act) → HasRoot root act → (run : RunState) → run_made act ≡ Some run → run.root ≡ root
made_root root (acts.Admit name (admissions.Run spec) pending asked own) has run out = ap (λ (r : RunState). r.root) (sym (same_Some _ run out)) ∙ has
made_root root (acts.Admit name (admissions.Task spec) pending asked own) has run out = cc
made_root root act has run out = cc

kept_root : (moment : ℕ) (act : Act) (run : RunState) → (run_after moment act run).root ≡ run.root
kept_root moment (acts.Ask name status) run = refl
kept_root moment (acts.Start name) run = refl
kept_root moment (acts.Schedule name task bindings) run = refl
kept_root moment (acts.Halt name stop) run = refl
kept_root moment (acts.Close name closing) run = refl
kept_root moment act run = refl

run_root : (root : List ℕ) (history : List Entry) → HaveRoot root history → (name : List ℕ) (run : RunState) → run_of history name ≡ Some run → run.root ≡ root
run_root root [] have name run is = cc
run_root root (e ∷ older) have name run is =
    state_cases (writes kinds.Runs name) (λ (before : List Entry) d was. run_written d was) (λ (o : Option RunState). (r : RunState) → o ≡ Some r → r.root ≡ root) e older
    (λ miss. run_root root older have.1 name) (λ hit. written (run_of older name) (run_root root older have.1 name)) run is
  where
    written : (was : Option RunState) → ((r : RunState) → was ≡ Some r → r.root ≡ root) → (r : RunState) → run_written e was ≡ Some r → r.root ≡ root
    written None own r out = made_root root e.act have.0 r out
    written (Some before) own r out =
        ap (λ (x : RunState). x.root) (sym (same_Some (run_after e.moment e.act before) r out)) ∙ (kept_root e.moment e.act before ∙ own before refl)

child_root : (root : List ℕ) (r : RunState) → r.root ≡ root → (name run : List ℕ) (task index : ℕ) (mark : Bool) (binding : Option Binding) (body : Option TaskBody) (pipeline_task : Option PipelineTask) (t : TaskRunState)
    → child_from name run r task index mark binding body pipeline_task ≡ Some t → t.root ≡ root
child_root root r own name run task index mark (Some binding) (Some body) (Some pipeline_task) t out = ap (λ (x : TaskRunState). x.root) (sym (same_Some _ t out)) ∙ own
child_root root r own name run task index mark None body pipeline_task t out = cc
child_root root r own name run task index mark (Some binding) None pipeline_task t out = cc
child_root root r own name run task index mark (Some binding) (Some body) None t out = cc

task_made_root : (root : List ℕ) (runs : List ℕ → Option RunState) → ((name : List ℕ) (r : RunState) → runs name ≡ Some r → r.root ≡ root) → (act : Act) → HasRoot root act → (t : TaskRunState) → task_run_made runs act ≡ Some t → t.root ≡ root
task_made_root root runs own (acts.Admit name (admissions.Task spec) pending asked at) has t out = ap (λ (x : TaskRunState). x.root) (sym (same_Some _ t out)) ∙ has
task_made_root root runs own (acts.Admit name (admissions.Run spec) pending asked at) has t out = cc
task_made_root root runs own (acts.MakeTaskRun name run task index mark) has t out = by_run (runs run) refl out
  where
    by_run : (found : Option RunState) → runs run ≡ found → child_made name run task index mark found ≡ Some t → t.root ≡ root
    by_run None is made = cc
    by_run (Some r) is made = child_root root r (own run r is) name run task index mark _ _ _ t made
task_made_root root runs own act has t out = cc

closed_root : (closing : Closing) (t : TaskRunState) → (task_run_closed closing t).root ≡ t.root
closed_root (closings.Attempt outcome) t = refl
closed_root closings.TaskRun t = refl
closed_root (closings.Run condition skipped results) t = refl

task_kept_root : (moment : ℕ) (act : Act) (t : TaskRunState) → (task_run_after moment act t).root ≡ t.root
task_kept_root moment (acts.Ask name status) t = refl
task_kept_root moment (acts.CancelTaskRun name) t = refl
task_kept_root moment (acts.OpenAttempt name) t = refl
task_kept_root moment (acts.Close name closing) t = closed_root closing t
task_kept_root moment act t = refl

pub task_run_root : (root : List ℕ) (history : List Entry) → HaveRoot root history → (name : List ℕ) (t : TaskRunState) → task_run_of history name ≡ Some t → t.root ≡ root
task_run_root root [] have name t is = cc
task_run_root root (e ∷ older) have name t is =
    state_cases (writes kinds.TaskRuns name) (λ (before : List Entry) d was. task_run_written (run_of before) d was) (λ (o : Option TaskRunState). (x : TaskRunState) → o ≡ Some x → x.root ≡ root) e older
    (λ miss. task_run_root root older have.1 name) (λ hit. written (task_run_of older name) (task_run_root root older have.1 name)) t is
  where
    written : (was : Option TaskRunState) → ((x : TaskRunState) → was ≡ Some x → x.root ≡ root) → (x : TaskRunState) → task_run_written (run_of older) e was ≡ Some x → x.root ≡ root
    written None own x out = task_made_root root (run_of older) (run_root root older have.1) e.act have.0 x out
    written (Some before) own x out =
        ap (λ (y : TaskRunState). y.root) (sym (same_Some (task_run_after e.moment e.act before) x out)) ∙ (task_kept_root e.moment e.act before ∙ own before refl)

pub have_past : (root : List ℕ) (n : ℕ) (history : List Entry) → HaveRoot root history → HaveRoot root (past n history)
have_past root n [] have = have
have_past root n (e ∷ older) have = elim (cases_Bool (nat_le (suc (length older)) n)) [
  | inl hit ↦ rw hit have
  | inr miss ↦ rw miss (have_past root n older have.1)
]

few_attempts : (history : List Entry) → IsLegal history → (name : List ℕ) (attempt : ℕ) (space : Space) → HasSpace history name attempt space → attempt ≤ 101
few_attempts history legal name attempt space a =
    let last = (lasting history legal).task_runs name a.task_run a.there in
    omega (arith, a.opened, last.few, last.sized)

pub folders_apart : FoldersApart
folders_apart history legal root have n one other attempt later own far a b differ unclaimed within =
    let h = past n history in
    let l : IsLegal h = legal_past n history legal in
    let roots = have_past root n history have in
    let few_a : attempt ≤ 101 = few_attempts h l one attempt own a in
    let few_b : later ≤ 101 = few_attempts h l other later far b in
    let apart : pod_name one attempt ≢ pod_name other later = λ same. differ (pods_apart one other attempt later few_a few_b same) in
    let at_b = subst (λ (r : List ℕ). IsWithin (space_folder r (pod_name other later) far) (space_folder a.task_run.root (pod_name one attempt) own)) (task_run_root root h roots other b.task_run b.there) within in
    let at_both = subst (λ (r : List ℕ). IsWithin (space_folder root (pod_name other later) far) (space_folder r (pod_name one attempt) own)) (task_run_root root h roots one a.task_run a.there) at_b in
    apart_of_claims root (pod_name one attempt) (pod_name other later) own far apart
    (pod_is_name one attempt (omega (arith, few_a)) (task_run_plain h l one a.task_run a.there))
    (pod_is_name other later (omega (arith, few_b)) (task_run_plain h l other b.task_run b.there))
    (not_claims one attempt) unclaimed at_both

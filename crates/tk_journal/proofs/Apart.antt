-- The TaskRun under a child's name is a child: admitted names that are compared differ.
use Rattle.std.proofs.Common.{◌≡◌, ◌≢◌, ℕ, zero, suc, ◌<◌, ◌≤◌, List, [], ◌∷◌, ◌++◌, length, Option, Some, None, true, refl, sym, ◌∙◌, ap, subst, arith, inl, inr, ◌⊎◌, Contains, AllPairs, get_or, append-nil, length-append}
use Rattle.std.proofs.lemmas.List.{get_or_append_left}
use Rattle.std.proofs.lemmas.Option.{same_Some}
use Rattle.std.proofs.lemmas.List.Elements.{Contains-append_left, Contains-append_right}
use Rattle.tk_types.specs.declared.run.RunSpec.{RunSpec}
use Rattle.tk_types.specs.declared.task.PipelineTask.{PipelineTask}
use Rattle.tk_types.specs.declared.task.TaskBody.{TaskBody}
use Rattle.tk_types.specs.declared.verdict.Binding.{Binding}
use Rattle.tk_types.specs.declared.scenario.Kind.TheVariants as kinds
use Rattle.tk_journal.specs.declared.act.Admission.TheVariants as admissions
use Rattle.tk_journal.specs.declared.act.Act.{Act}
use Rattle.tk_journal.specs.declared.act.Act.TheVariants as acts
use Rattle.tk_journal.specs.declared.entry.Entry.{Entry}
use Rattle.tk_journal.specs.declared.object.RunState.{RunState}
use Rattle.tk_journal.specs.declared.object.TaskRunState.{TaskRunState}
use Rattle.tk_journal.specs.Lists.{IsThere}
use Rattle.tk_journal.specs.Effects.{name_of, writes, run_made, run_after, task_run_made, task_run_after, child_made, child_from}
use Rattle.tk_journal.specs.History.{run_of, run_written, task_run_of, task_run_written, view_at}
use Rattle.tk_journal.specs.Right.{LastingRun, facts_at}
use Rattle.tk_journal.specs.Legal.{IsLegal, IsStep, Fits, compared_names, all_compared}
use Rattle.tk_journal.proofs.Possible.{within_possible, child_named}
use Rattle.tk_journal.specs.declared.object.Scheduled.{Scheduled}
use Rattle.tk_journal.proofs.Basics.{writes_name}
use Rattle.tk_journal.proofs.Past.{state_cases}
use Rattle.tk_journal.proofs.Grows.{run_row_of, task_run_row_of, run_step, task_run_step}
use Rattle.tk_journal.proofs.Induction.{lasting}
use Rattle.tk_journal.specs.Names.{child_name_of, possible_count, task_run_names}

-- the TaskRun under a child's name is a child
abbrev pub AreChildrenApart : List Entry → Type 0
AreChildrenApart history = (name : List ℕ) (run : RunState) → run_of history name ≡ Some run → (part : Scheduled) → Contains run.scheduled part → (index : ℕ) → index < length part.bindings → (task_run : TaskRunState) → task_run_of history (child_name_of run.spec part.task index) ≡ Some task_run → IsThere task_run.run

pub pairs_across : {X : Type 0} (R : X → X → Type 0) (xs ys : List X) (x y : X) → AllPairs R (xs ++ ys) → Contains xs x → Contains ys y → R x y
pairs_across R [] ys x y pairs has_x has_y = absurd (omega (arith, has_x.1))
pairs_across R (a ∷ xs) ys x y pairs (zero, below, is) has_y =
    let at = Contains-append_right xs ys y has_y in
    subst (λ p. R p y) is (subst (R a) at.2 (pairs 0 (suc at.0) y (omega arith) (omega (arith, at.1))))
pairs_across R (a ∷ xs) ys x y pairs (suc k, below, is) has_y = pairs_across R xs ys x y (λ i j d less within. pairs (suc i) (suc j) d (omega arith) (omega arith)) (k, omega arith, is) has_y

pub pairs_left : {X : Type 0} (R : X → X → Type 0) (xs ys : List X) → AllPairs R (xs ++ ys) → AllPairs R xs
pairs_left R xs ys pairs i j d less below =
    subst (λ b. R (get_or xs i d) b) (get_or_append_left xs ys d j below)
    (subst (λ a. R a (get_or (xs ++ ys) j d)) (get_or_append_left xs ys d i (omega arith)) (pairs i j d less (omega (arith, length-append xs ys))))

-- which names an admission brings

abbrev pub AdmitsRun : Act → RunSpec → Type 0
AdmitsRun (acts.Admit name (admissions.Run admitted) pending asked root) spec = admitted ≡ spec
AdmitsRun _ spec = ⊥

abbrev pub AdmitsTask : Act → List ℕ → Type 0
AdmitsTask (acts.Admit admitted (admissions.Task spec) pending asked root) name = (admitted ≡ name) × (spec.name ≡ name)
AdmitsTask _ name = ⊥

abbrev pub WasAdmittedRun : List Entry → RunSpec → Type 0
WasAdmittedRun [] spec = ⊥
WasAdmittedRun (e ∷ older) spec = AdmitsRun e.act spec ⊎ WasAdmittedRun older spec

abbrev pub WasAdmittedTask : List Entry → List ℕ → Type 0
WasAdmittedTask [] name = ⊥
WasAdmittedTask (e ∷ older) name = AdmitsTask e.act name ⊎ WasAdmittedTask older name

pub run_compared : (act : Act) (spec : RunSpec) (task index : ℕ) → AdmitsRun act spec → task < length (spec.tasks ++ spec.finally) → index < possible_count spec task → Contains (compared_names act) (child_name_of spec task index)
run_compared (acts.Admit name (admissions.Run admitted) pending asked root) spec task index same within below =
    subst (λ (s : RunSpec). Contains (task_run_names (admissions.Run s)) (child_name_of spec task index)) (sym same) (child_named spec task index within below)
run_compared (acts.Admit name (admissions.Task admitted) pending asked root) spec task index same within below = absurd same
run_compared _ spec task index same within below = absurd same

task_compared : (act : Act) (name : List ℕ) → AdmitsTask act name → Contains (compared_names act) name
task_compared (acts.Admit admitted (admissions.Task spec) pending asked root) name same = (0, omega arith, same.1)
task_compared (acts.Admit admitted (admissions.Run spec) pending asked root) name same = absurd same
task_compared _ name same = absurd same

pub not_both : (act : Act) (spec : RunSpec) (name : List ℕ) → AdmitsRun act spec → AdmitsTask act name → ⊥
not_both (acts.Admit admitted (admissions.Run s) pending asked root) spec name run task = task
not_both (acts.Admit admitted (admissions.Task s) pending asked root) spec name run task = run
not_both _ spec name run task = run

pub all_run_compared : (history : List Entry) (spec : RunSpec) (task index : ℕ) → WasAdmittedRun history spec → task < length (spec.tasks ++ spec.finally) → index < possible_count spec task → Contains (all_compared history) (child_name_of spec task index)
all_run_compared [] spec task index was within below = absurd was
all_run_compared (e ∷ older) spec task index was within below = elim was [
  | inl here ↦ Contains-append_right (all_compared older) (compared_names e.act) (child_name_of spec task index) (run_compared e.act spec task index here within below)
  | inr before ↦ Contains-append_left (all_compared older) (compared_names e.act) (child_name_of spec task index) (all_run_compared older spec task index before within below)
]

all_task_compared : (history : List Entry) (name : List ℕ) → WasAdmittedTask history name → Contains (all_compared history) name
all_task_compared [] name was = absurd was
all_task_compared (e ∷ older) name was = elim was [
  | inl here ↦ Contains-append_right (all_compared older) (compared_names e.act) name (task_compared e.act name here)
  | inr before ↦ Contains-append_left (all_compared older) (compared_names e.act) name (all_task_compared older name before)
]

abbrev pub Differ : List ℕ → List ℕ → Type 0
Differ a b = a ≢ b

admitted_apart : (history : List Entry) → AllPairs Differ (all_compared history) → (spec : RunSpec) (task index : ℕ) (name : List ℕ) → WasAdmittedRun history spec → task < length (spec.tasks ++ spec.finally) → index < possible_count spec task → WasAdmittedTask history name → child_name_of spec task index ≡ name → ⊥
admitted_apart [] pairs spec task index name run within below standalone same = run
admitted_apart (e ∷ older) pairs spec task index name run within below standalone same = elim run [
  | inl here ↦ elim standalone [
    | inl also ↦ not_both e.act spec name here also
    | inr before ↦ pairs_across Differ (all_compared older) (compared_names e.act) name (child_name_of spec task index) pairs (all_task_compared older name before) (run_compared e.act spec task index here within below) (sym same)
  ]
  | inr before ↦ elim standalone [
    | inl here ↦ pairs_across Differ (all_compared older) (compared_names e.act) (child_name_of spec task index) name pairs (all_run_compared older spec task index before within below) (task_compared e.act name here) same
    | inr also ↦ admitted_apart older (pairs_left Differ (all_compared older) (compared_names e.act) pairs) spec task index name before within below also same
  ]
]

compared_step : (older : List Entry) (e : Entry) → AllPairs Differ (all_compared older) → (act : Act) → e.act ≡ act → Fits older e act → AllPairs Differ (all_compared (e ∷ older))
compared_step older e before (acts.Admit name spec pending asked root) is fits = fits.2
compared_step older e before act is fits = rw is (rw (append-nil (all_compared older)) before)

-- in a legal history they differ
pub compared_apart : (history : List Entry) → IsLegal history → AllPairs Differ (all_compared history)
compared_apart [] legal = λ i j d less below. absurd (omega arith)
compared_apart (e ∷ older) legal = compared_step older e (compared_apart older legal.0) e.act refl legal.1.fits

made_run : (act : Act) (run : RunState) → run_made act ≡ Some run → AdmitsRun act run.spec
made_run (acts.Admit name (admissions.Run spec) pending asked root) run is = ap (λ (r : RunState). r.spec) (same_Some _ run is)
made_run act run is = cc

written_run : (older : List Entry) (e : Entry) → IsStep older e → (name : List ℕ) (was : Option RunState) → run_of older name ≡ was → ((r : RunState) → run_of older name ≡ Some r → WasAdmittedRun older r.spec) → writes kinds.Runs name e ≡ true → (r : RunState) → run_written e was ≡ Some r → WasAdmittedRun (e ∷ older) r.spec
written_run older e step name None there before hit r out = inl (made_run e.act r out)
written_run older e step name (Some was) there before hit r out =
    let same : r.spec ≡ was.spec = ap (λ (x : RunState). x.spec) (sym (same_Some (run_after e.moment e.act was) r out)) ∙ (run_step (view_at e.fronts older) e.actor e.moment e.act was (run_row_of older e step name was hit there)).spec in
    inr (subst (WasAdmittedRun older) (sym same) (before was there))

made_task : (older : List Entry) (e : Entry) (runs : List ℕ → Option RunState) (act : Act) → Fits older e act → (name : List ℕ) (task_run : TaskRunState) → name_of act ≡ name → task_run_made runs act ≡ Some task_run → task_run.run ≡ None → AdmitsTask act name
made_task older e runs (acts.Admit admitted (admissions.Task spec) pending asked root) fits name task_run same is alone = (same, fits.1.named ∙ same)
made_task older e runs (acts.MakeTaskRun named run task index mark) fits name task_run same is alone = by_run (runs run) is
  where
    by_parts : (r : RunState) (b : Option Binding) (body : Option TaskBody) (pipeline_task : Option PipelineTask) → child_from named run r task index mark b body pipeline_task ≡ Some task_run → ⊥
    by_parts r (Some binding) (Some body) (Some pipeline_task) made = let its : Some run ≡ task_run.run = ap (λ (t : TaskRunState). t.run) (same_Some _ task_run made) in cc (its, alone)
    by_parts r None body pipeline_task made = cc
    by_parts r (Some binding) None pipeline_task made = cc
    by_parts r (Some binding) (Some body) None made = cc

    by_run : (r : Option RunState) → child_made named run task index mark r ≡ Some task_run → ⊥
    by_run None made = cc
    by_run (Some r) made = by_parts r _ _ _ made
made_task older e runs act fits name task_run same is alone = cc

written_task : (older : List Entry) (e : Entry) → IsStep older e → (name : List ℕ) (was : Option TaskRunState) → task_run_of older name ≡ was → ((t : TaskRunState) → task_run_of older name ≡ Some t → t.run ≡ None → WasAdmittedTask older name) → writes kinds.TaskRuns name e ≡ true → (t : TaskRunState) → task_run_written (run_of older) e was ≡ Some t → t.run ≡ None → WasAdmittedTask (e ∷ older) name
written_task older e step name None there before hit t out alone = inl (made_task older e (run_of older) e.act step.fits name t (writes_name kinds.TaskRuns name e hit) out alone)
written_task older e step name (Some was) there before hit t out alone =
    let same : t.run ≡ was.run = ap (λ (x : TaskRunState). x.run) (sym (same_Some (task_run_after e.moment e.act was) t out)) ∙ (task_run_step (view_at e.fronts older) e.actor e.moment e.act was (task_run_row_of older e step name was hit there)).run in
    inr (before was there (sym same ∙ alone))

-- a run, and a TaskRun of no run, was admitted

pub run_was_admitted : (history : List Entry) → IsLegal history → (name : List ℕ) (run : RunState) → run_of history name ≡ Some run → WasAdmittedRun history run.spec
run_was_admitted [] legal name run is = cc
run_was_admitted (e ∷ older) legal name run is =
    state_cases (writes kinds.Runs name) (λ (before : List Entry) d was. run_written d was) (λ (o : Option RunState). (r : RunState) → o ≡ Some r → WasAdmittedRun (e ∷ older) r.spec) e older
    (λ miss r there. inr (run_was_admitted older legal.0 name r there))
    (λ hit. written_run older e legal.1 name (run_of older name) refl (λ r there. run_was_admitted older legal.0 name r there) hit) run is

pub task_was_admitted : (history : List Entry) → IsLegal history → (name : List ℕ) (task_run : TaskRunState) → task_run_of history name ≡ Some task_run → task_run.run ≡ None → WasAdmittedTask history name
task_was_admitted [] legal name task_run is = λ alone. cc
task_was_admitted (e ∷ older) legal name task_run is =
    state_cases (writes kinds.TaskRuns name) (λ (before : List Entry) d was. task_run_written (run_of before) d was) (λ (o : Option TaskRunState). (t : TaskRunState) → o ≡ Some t → t.run ≡ None → WasAdmittedTask (e ∷ older) name) e older
    (λ miss t there alone. inr (task_was_admitted older legal.0 name t there alone))
    (λ hit. written_task older e legal.1 name (task_run_of older name) refl (λ t there alone. task_was_admitted older legal.0 name t there alone) hit) task_run is

-- so a child's name is no standalone TaskRun's
pub children_apart : (history : List Entry) → IsLegal history → AreChildrenApart history
children_apart history legal name run there part has index below task_run at = by_run task_run.run refl
  where
    last : LastingRun history name run
    last = (lasting history legal).runs name run there

    few : length part.bindings ≤ possible_count run.spec part.task
    few = within_possible (facts_at history run) part.task part.bindings (last.given part has)

    of_tasks : part.task < length (run.spec.tasks ++ run.spec.finally)
    of_tasks = omega (arith, (last.exist part has).1, length-append run.spec.tasks run.spec.finally)

    by_run : (r : Option (List ℕ)) → task_run.run ≡ r → IsThere task_run.run
    by_run (Some run_name) is = (run_name, is)
    by_run None alone = absurd (admitted_apart history (compared_apart history legal) run.spec part.task index (child_name_of run.spec part.task index) (run_was_admitted history legal name run there) of_tasks (omega (arith, few))
        (task_was_admitted history legal (child_name_of run.spec part.task index) task_run at alone) refl)

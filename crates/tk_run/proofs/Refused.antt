-- An ask that is refused stays so behind what members do.
use Rattle.std.proofs.Common.{◌≡◌, ◌≤◌, ℕ, List, [], ◌∷◌, ◌++◌, Option, Some, None, true, false, refl, sym, ◌∙◌, ap, subst, arith, inl, inr}
use Rattle.std.specs.Prelude.{Bool, ◌⊎◌, is_some, nat_lt, if◌then◌else◌}
use Rattle.std.proofs.lemmas.Bool.{cases_Bool, le-ltb, ltb-false, ltb-true}
use Rattle.tk_types.specs.declared.scenario.Kind.TheVariants as kinds
use Rattle.tk_types.specs.declared.object.Asked.{Asked}
use Rattle.tk_types.specs.declared.object.Asked.TheVariants as asks
use Rattle.tk_types.specs.declared.task.PipelineTask.{PipelineTask}
use Rattle.tk_types.specs.declared.task.TaskBody.{TaskBody}
use Rattle.tk_types.specs.declared.verdict.Binding.{Binding}
use Rattle.tk_types.specs.Behaviour.{level_of}
use Rattle.tk_journal.specs.declared.act.Act.{Act}
use Rattle.tk_journal.specs.declared.act.Act.TheVariants as acts
use Rattle.tk_journal.specs.declared.entry.Entry.{Entry}
use Rattle.tk_journal.specs.declared.object.RunState.{RunState}
use Rattle.tk_journal.specs.declared.object.TaskRunState.{TaskRunState}
use Rattle.tk_journal.specs.Effects.{child_from, child_made, run_after, run_made, task_run_after, task_run_made, writes}
use Rattle.tk_journal.specs.Grows.{RunGrows, TaskRunGrows}
use Rattle.tk_journal.specs.History.{run_of, run_written, task_run_of, task_run_written, version_of, view_at}
use Rattle.tk_journal.specs.Legal.{IsLegal, is_admit}
use Rattle.tk_journal.specs.Lists.{IsPrefixOf, IsThere}
use Rattle.tk_journal.specs.Stops.{asked_level}
use Rattle.tk_journal.proofs.Grows.{run_row_of, run_step, task_run_row_of, task_run_step}
use Rattle.tk_journal.proofs.Past.{state_cases}
use Rattle.tk_user.specs.declared.answer.AskAnswer.{AskAnswer}
use Rattle.tk_user.specs.declared.answer.AskAnswer.TheVariants as answers
use Rattle.tk_user.specs.Ask.{greatest, is_for_task_run, is_higher, run_refusal, task_run_refusal, top_level}
use Rattle.tk_run.specs.declared.asks.AskWord.{AskWord}
use Rattle.tk_run.specs.Asks.{IsRefusedAtEnd}

there : {X : Type 0} (o : Option X) → is_some o ≡ true → IsThere o
there None is = cc
there (Some x) is = (x, refl)

-- levels

greatest_more : {X : Type 0} (level : X → ℕ) (xs : List X) (a b : ℕ) → a ≤ b → greatest level a xs ≤ greatest level b xs
greatest_more level [] a b le = le
greatest_more level (x ∷ xs) a b le = greatest_more level xs (step a) (step b) more
  where
    step : ℕ → ℕ
    step most = if nat_lt most (level x) then level x else most

    more : step a ≤ step b
    more = elim (cases_Bool (nat_lt a (level x))) [
      | inl low ↦ elim (cases_Bool (nat_lt b (level x))) [
        | inl also ↦ rw (low, also) (omega arith)
        | inr not ↦ rw (low, not) (omega (arith, ltb-false b (level x) not))
      ]
      | inr high ↦ elim (cases_Bool (nat_lt b (level x))) [
        | inl also ↦ rw (high, also) (omega (arith, le, ltb-true b (level x) also))
        | inr not ↦ rw (high, not) le
      ]
    ]

greatest_least : {X : Type 0} (level : X → ℕ) (xs : List X) (a : ℕ) → a ≤ greatest level a xs
greatest_least level [] a = omega arith
greatest_least level (x ∷ xs) a = elim (cases_Bool (nat_lt a (level x))) [
  | inl low ↦ rw low (let rest = greatest_least level xs (level x) in omega (arith, rest, ltb-true a (level x) low))
  | inr high ↦ rw high (greatest_least level xs a)
]

greatest_append : {X : Type 0} (level : X → ℕ) (xs ys : List X) (a : ℕ) → greatest level a xs ≤ greatest level a (xs ++ ys)
greatest_append level [] ys a = greatest_least level ys a
greatest_append level (x ∷ xs) ys a = greatest_append level xs ys (if nat_lt a (level x) then level x else a)

greatest_prefix : {X : Type 0} (level : X → ℕ) (xs ys : List X) (a : ℕ) → IsPrefixOf xs ys → greatest level a xs ≤ greatest level a ys
greatest_prefix level xs ys a prefix = subst (λ (l : List _). greatest level a xs ≤ greatest level a l) prefix.1 (greatest_append level xs prefix.0 a)

level_grows : (old new : RunState) → RunGrows old new → top_level old ≤ top_level new
level_grows old new grows =
    let one = greatest_more level_of old.stops (greatest asked_level 0 old.asked) (greatest asked_level 0 new.asked) (greatest_prefix asked_level old.asked new.asked 0 grows.asked) in
    let two = greatest_prefix level_of old.stops new.stops (greatest asked_level 0 new.asked) grows.stops in
    omega (arith, one, two)

-- a run that refuses

abbrev RunRefuses : Asked → Option RunState → Type 0
RunRefuses status None = Unit {0}
RunRefuses status (Some run) = (is_some run.closed ≡ true) ⊎ (is_higher run status ≡ false)

run_refuses : (version : ℕ) (status : Asked) (o : Option RunState) (answer : AskAnswer) → run_refusal version status o ≡ Some answer → RunRefuses status o
run_refuses version status None answer is = tt
run_refuses version status (Some run) answer is = elim (cases_Bool (is_some run.closed)) [
  | inl closed ↦ inl closed
  | inr unended ↦ elim (cases_Bool (is_higher run status)) [
    | inl higher ↦ (let none = rw (unended, higher) at is in cc (none))
    | inr not ↦ inr not
  ]
]

run_is_refused : (version : ℕ) (status : Asked) (o : Option RunState) → RunRefuses status o → (answer : AskAnswer) × (run_refusal version status o ≡ Some answer)
run_is_refused version status None refuses = (answers.NoSuch, refl)
run_is_refused version status (Some run) refuses = elim (cases_Bool (is_some run.closed)) [
  | inl closed ↦ (answers.Finished version, rw closed refl)
  | inr unended ↦ elim refuses [
    | inl closed ↦ (let both = sym unended ∙ closed in cc (both))
    | inr not ↦ (answers.NotHigher (top_level run), rw (unended, not) refl)
  ]
]

pending_stays : (moment : ℕ) (act : Act) (run : RunState) → run.pending ≡ false → (run_after moment act run).pending ≡ false
pending_stays moment (acts.Ask name status) run is = refl
pending_stays moment (acts.Start name) run is = is
pending_stays moment (acts.Schedule name task bindings) run is = is
pending_stays moment (acts.Halt name stop) run is = is
pending_stays moment (acts.Close name closing) run is = is
pending_stays moment _ run is = is

not_above : (old new : RunState) (level : ℕ) → RunGrows old new → nat_lt (top_level old) level ≡ false → nat_lt (top_level new) level ≡ false
not_above old new level grows not = let more = level_grows old new grows in le-ltb (top_level new) level (omega (arith, more, ltb-false (top_level old) level not))

lower_stays : (moment : ℕ) (act : Act) (run : RunState) (status : Asked) → RunGrows run (run_after moment act run) → is_higher run status ≡ false → is_higher (run_after moment act run) status ≡ false
lower_stays moment act run asks.Start grows not = pending_stays moment act run not
lower_stays moment act run asks.StoppedRunFinally grows not = not_above run (run_after moment act run) (asked_level asks.StoppedRunFinally) grows not
lower_stays moment act run asks.CancelledRunFinally grows not = not_above run (run_after moment act run) (asked_level asks.CancelledRunFinally) grows not
lower_stays moment act run asks.Cancelled grows not = not_above run (run_after moment act run) (asked_level asks.Cancelled) grows not
lower_stays moment act run asks.TaskRunCancelled grows not = not_above run (run_after moment act run) (asked_level asks.TaskRunCancelled) grows not

none_made : (act : Act) → is_admit act ≡ false → run_made act ≡ None
none_made (acts.Admit name spec pending asked root) other = cc
none_made _ other = refl

module _ (older : List Entry) (e : Entry) (legal : IsLegal (e ∷ older)) (other : is_admit e.act ≡ false) where
  run_stays : (name : List ℕ) (status : Asked) → RunRefuses status (run_of older name) → RunRefuses status (run_of (e ∷ older) name)
  run_stays name status refuses =
      state_cases (writes kinds.Runs name) (λ (before : List Entry) d was. run_written d was) (RunRefuses status) e older (λ miss. refuses) (λ hit. written (run_of older name) refl hit refuses)
    where
      changed : (run : RunState) → RunGrows run (run_after e.moment e.act run) → (is_some run.closed ≡ true) ⊎ (is_higher run status ≡ false) → RunRefuses status (Some (run_after e.moment e.act run))
      changed run grows (inl closed) = inl (ap (λ (r : RunState). is_some r.closed) (grows.closed (there run.closed closed)) ∙ closed)
      changed run grows (inr not) = inr (lower_stays e.moment e.act run status grows not)

      written : (o : Option RunState) → run_of older name ≡ o → writes kinds.Runs name e ≡ true → RunRefuses status o → RunRefuses status (run_written e o)
      written None is hit refused = subst (RunRefuses status) (sym (none_made e.act other)) tt
      written (Some run) is hit refused = changed run (run_step (view_at e.fronts older) e.actor e.moment e.act run (run_row_of older e legal.1 name run hit is)) refused

-- a TaskRun that refuses

abbrev TaskRunRefuses : Option TaskRunState → Type 0
TaskRunRefuses None = Unit {0}
TaskRunRefuses (Some task_run) = (is_some task_run.run ≡ true) ⊎ (is_some task_run.closed ≡ true) ⊎ (task_run.marked ≡ true)

task_run_refuses : (version : ℕ) (o : Option TaskRunState) (answer : AskAnswer) → task_run_refusal version o ≡ Some answer → TaskRunRefuses o
task_run_refuses version None answer is = tt
task_run_refuses version (Some task_run) answer is = elim (cases_Bool (is_some task_run.run)) [
  | inl child ↦ inl child
  | inr alone ↦ elim (cases_Bool (is_some task_run.closed)) [
    | inl closed ↦ inr (inl closed)
    | inr unended ↦ elim (cases_Bool task_run.marked) [
      | inl marked ↦ inr (inr marked)
      | inr not ↦ (let none = rw (alone, unended, not) at is in cc (none))
    ]
  ]
]

task_run_is_refused : (version : ℕ) (o : Option TaskRunState) → TaskRunRefuses o → (answer : AskAnswer) × (task_run_refusal version o ≡ Some answer)
task_run_is_refused version None refuses = (answers.NoSuch, refl)
task_run_is_refused version (Some task_run) refuses = elim (cases_Bool (is_some task_run.run)) [
  | inl child ↦ (answers.NoSuch, rw child refl)
  | inr alone ↦ elim (cases_Bool (is_some task_run.closed)) [
    | inl closed ↦ (answers.Finished version, rw (alone, closed) refl)
    | inr unended ↦ elim refuses [
      | inl child ↦ (let both = sym alone ∙ child in cc (both))
      | inr (inl closed) ↦ (let both = sym unended ∙ closed in cc (both))
      | inr (inr marked) ↦ (answers.NotHigher 4, rw (alone, unended, marked) refl)
    ]
  ]
]

from_run : (name run_name : List ℕ) (run : RunState) (task index : ℕ) (mark : Bool) (binding : Option Binding) (body : Option TaskBody) (pipeline_task : Option PipelineTask) → TaskRunRefuses (child_from name run_name run task index mark binding body pipeline_task)
from_run name run_name run task index mark (Some binding) (Some body) (Some pipeline_task) = inl refl
from_run name run_name run task index mark None body pipeline_task = tt
from_run name run_name run task index mark (Some binding) None pipeline_task = tt
from_run name run_name run task index mark (Some binding) (Some body) None = tt

child_refuses : (name run_name : List ℕ) (task index : ℕ) (mark : Bool) (run : Option RunState) → TaskRunRefuses (child_made name run_name task index mark run)
child_refuses name run_name task index mark None = tt
child_refuses name run_name task index mark (Some run) = from_run name run_name run task index mark _ _ _

made_refuses : (runs : List ℕ → Option RunState) (act : Act) → is_admit act ≡ false → TaskRunRefuses (task_run_made runs act)
made_refuses runs (acts.Admit name spec pending asked root) other = cc
made_refuses runs (acts.MakeTaskRun name run task index mark) other = child_refuses name run task index mark (runs run)
made_refuses runs _ other = tt

module _ (older : List Entry) (e : Entry) (legal : IsLegal (e ∷ older)) (other : is_admit e.act ≡ false) where
  task_run_stays : (name : List ℕ) → TaskRunRefuses (task_run_of older name) → TaskRunRefuses (task_run_of (e ∷ older) name)
  task_run_stays name refuses =
      state_cases (writes kinds.TaskRuns name) (λ (before : List Entry) d was. task_run_written (run_of before) d was) TaskRunRefuses e older (λ miss. refuses) (λ hit. written (task_run_of older name) refl hit refuses)
    where
      changed : (task_run : TaskRunState) → TaskRunGrows task_run (task_run_after e.moment e.act task_run) → (is_some task_run.run ≡ true) ⊎ (is_some task_run.closed ≡ true) ⊎ (task_run.marked ≡ true)
          → TaskRunRefuses (Some (task_run_after e.moment e.act task_run))
      changed task_run grows (inl child) = inl (ap is_some grows.run ∙ child)
      changed task_run grows (inr (inl closed)) = inr (inl (ap (λ (t : TaskRunState). is_some t.closed) (grows.closed (there task_run.closed closed)) ∙ closed))
      changed task_run grows (inr (inr marked)) = inr (inr (grows.marked marked))

      written : (o : Option TaskRunState) → task_run_of older name ≡ o → writes kinds.TaskRuns name e ≡ true → TaskRunRefuses o → TaskRunRefuses (task_run_written (run_of older) e o)
      written None is hit refused = made_refuses (run_of older) e.act other
      written (Some task_run) is hit refused = changed task_run (task_run_step (view_at e.fronts older) e.actor e.moment e.act task_run (task_run_row_of older e legal.1 name task_run hit is)) refused

  -- so a refused ask stays refused
  pub refused_stays : (word : AskWord) → IsRefusedAtEnd older word → IsRefusedAtEnd (e ∷ older) word
  refused_stays word was = elim (cases_Bool (is_for_task_run word.status)) [
    | inl task_run ↦ (
        let due = rw task_run at was.due in
        let now = task_run_is_refused (version_of kinds.TaskRuns word.run (e ∷ older)) (task_run_of (e ∷ older) word.run)
        (task_run_stays word.run (task_run_refuses (version_of kinds.TaskRuns word.run older) (task_run_of older word.run) was.answer due)) in
        record { answer = now.0; due = rw task_run now.1 })
    | inr run ↦ (
        let due = rw run at was.due in
        let now = run_is_refused (version_of kinds.Runs word.run (e ∷ older)) word.status (run_of (e ∷ older) word.run)
        (run_stays older e legal other word.run word.status (run_refuses (version_of kinds.Runs word.run older) word.status (run_of older word.run) was.answer due)) in
        record { answer = now.0; due = rw run now.1 })
  ]

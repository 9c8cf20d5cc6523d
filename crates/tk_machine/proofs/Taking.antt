-- The store's answer to a worker's choice is what the machine says of the worker's turn.
use Rattle.std.proofs.Common.{◌≡◌, ℕ, ◌<◌, List, [], ◌∷◌, Option, Some, None, true, false, ◌&&◌, refl, sym, ◌∙◌, ap, subst, arith, inl, inr}
use Rattle.std.specs.Prelude.{is_some, bytes_eq}
use Rattle.std.specs.Cmp.Lexicographic.{bytes_decides}
use Rattle.std.proofs.lemmas.Bool.{cases_Bool, and_parts}
use Rattle.tk_types.specs.declared.scenario.Kind.{Kind}
use Rattle.tk_types.specs.declared.scenario.Kind.TheVariants as kinds
use Rattle.tk_journal.specs.declared.act.Act.{Act}
use Rattle.tk_journal.specs.declared.act.Act.TheVariants as acts
use Rattle.tk_journal.specs.declared.act.Admission.TheVariants as admissions
use Rattle.tk_journal.specs.declared.entry.Actor.{Actor}
use Rattle.tk_journal.specs.declared.entry.Entry.{Entry}
use Rattle.tk_journal.specs.declared.object.RunState.{RunState}
use Rattle.tk_journal.specs.declared.object.TaskRunState.{TaskRunState}
use Rattle.tk_journal.specs.declared.object.PodState.{PodState}
use Rattle.tk_journal.specs.Choice.{IsChoice, HasNoChoice}
use Rattle.tk_journal.specs.Effects.{name_of, kind_of, is_create, run_made, task_run_made, pod_made}
use Rattle.tk_journal.specs.History.{View, run_of, task_run_of, pod_of, creates}
use Rattle.tk_journal.specs.Legal.{IsLegal, IsFree, IsWritable, IsCurrent}
use Rattle.tk_journal.specs.Made.{MakesOrChanges}
use Rattle.tk_journal.proofs.Claimed.{grows_one}
use Rattle.tk_journal.proofs.Made.{writes}
use Rattle.tk_journal.proofs.Taken.{run_new, task_run_new_now, pod_new_now}
use Rattle.tk_store.specs.declared.turn.Turn.{Turn}
use Rattle.tk_store.specs.declared.turn.Turn.TheVariants as turns
use Rattle.tk_store.specs.Writes.{Stored, made_at, IsTaken, HasMoved}
use Rattle.tk_cache.specs.Fronts.{Shows}
use Rattle.tk_cache.specs.Views.{Seen}
use Rattle.tk_choice.specs.Took.{entry_of, TookFirst}
use Rattle.tk_machine.specs.Machine.{Answers, WorkerTurn}
use Rattle.tk_machine.specs.Turns.{WorkersTake}

none_some : {X : Type 0} (o : Option X) → is_some o ≡ true → o ≡ None → ⊥
none_some None some none = cc (some)
none_some (Some x) some none = cc (none)

-- what creates an object of a kind is of the kind
of_kind : (kind : Kind) (act : Act) → creates kind act ≡ true → kind_of act ≡ kind
of_kind kinds.Runs (acts.Admit name (admissions.Run spec) pending asked root) is = refl
of_kind kinds.TaskRuns (acts.Admit name (admissions.Task spec) pending asked root) is = refl
of_kind kinds.TaskRuns (acts.MakeTaskRun name run task index mark) is = refl
of_kind kinds.Pods (acts.MakePod name task_run attempt plan mark) is = refl
of_kind kind act is = cc

module _ (older : List Entry) (e : Entry) (legal : IsLegal (e ∷ older)) where
  before_free : (kind : Kind) (name : List ℕ) → IsFree kind name (e ∷ older) → IsFree kind name older
  before_free kinds.Runs name free = by (run_of older name) refl
    where
      by : (o : Option RunState) → run_of older name ≡ o → o ≡ None
      by None is = refl
      by (Some run) is = let later = ((grows_one e older legal).runs name run is).is in cc (later, free)
  before_free kinds.TaskRuns name free = by (task_run_of older name) refl
    where
      by : (o : Option TaskRunState) → task_run_of older name ≡ o → o ≡ None
      by None is = refl
      by (Some task_run) is = let later = ((grows_one e older legal).task_runs name task_run is).is in cc (later, free)
  before_free kinds.Pods name free = by (pod_of older name) refl
    where
      by : (o : Option PodState) → pod_of older name ≡ o → o ≡ None
      by None is = refl
      by (Some pod) is = let later = ((grows_one e older legal).pods name pod is).is in cc (later, free)

  made_now : (kind : Kind) → kind_of e.act ≡ kind → IsFree kind (name_of e.act) older → IsFree kind (name_of e.act) (e ∷ older) → ⊥
  made_now kinds.Runs is free still =
      let made = subst (MakesOrChanges kinds.Runs e (run_made e.act)) free ((writes older e legal).runs is) in
      none_some (run_made e.act) made.0 (sym (run_new e older e.act refl is free) ∙ still)
  made_now kinds.TaskRuns is free still =
      let made = subst (MakesOrChanges kinds.TaskRuns e (task_run_made (run_of older) e.act)) free ((writes older e legal).task_runs is) in
      none_some (task_run_made (run_of older) e.act) made.0 (sym (task_run_new_now e older e.act refl is free) ∙ still)
  made_now kinds.Pods is free still =
      let made = subst (MakesOrChanges kinds.Pods e (pod_made e.act)) free ((writes older e legal).pods is) in
      none_some (pod_made e.act) made.0 (sym (pod_new_now e older e.act refl is free) ∙ still)

  made_named : (kind : Kind) (name : List ℕ) → creates kind e.act ≡ true → name_of e.act ≡ name → IsFree kind name (e ∷ older) → ⊥
  made_named kind name makes named free =
      let own : IsFree kind (name_of e.act) (e ∷ older) = subst (λ (n : List ℕ). IsFree kind n (e ∷ older)) (sym named) free in
      made_now kind (of_kind kind e.act makes) (before_free kind (name_of e.act) own) own

-- where an entry made the object, its name isn't free
taken : (history : List Entry) → IsLegal history → (kind : Kind) (name : List ℕ) → 0 < made_at kind name history → IsFree kind name history → ⊥
taken [] legal kind name there free = absurd (omega (arith, there))
taken (e ∷ older) legal kind name there free = elim (cases_Bool (creates kind e.act && bytes_eq (name_of e.act) name)) [
  | inl hit ↦
      let parts = and_parts (creates kind e.act) (bytes_eq (name_of e.act) name) hit in
      made_named older e legal kind name parts.0 ((bytes_decides (name_of e.act) name).0 parts.1) free
  | inr miss ↦ taken older legal.0 kind name (rw miss at there) (before_free older e legal kind name free)
]

module _ (seen : Seen) (actor : Actor) (moment : ℕ) (before after : Stored) (legal : IsLegal before.history) (shows : Shows seen before.history) where
  tried : (act : Act) → IsChoice seen.view actor moment act → Answers before.history actor seen.fronts moment act after.history → WorkerTurn before.history actor seen.fronts moment after.history
  tried act choice answers = inr (act, subst (λ (v : View). IsChoice v actor moment act) shows.same choice, answers)

  not_free : (act : Act) (holder version : ℕ) → is_create act ≡ true → IsTaken before (entry_of actor seen.fronts moment act) holder version → IsWritable (is_create act) (kind_of act) (name_of act) seen.fronts before.history → ⊥
  not_free act holder version creating is_taken goes =
      let free = subst (λ b. IsWritable b (kind_of act) (name_of act) seen.fronts before.history) creating goes in
      taken before.history legal (kind_of act) (name_of act) (subst (λ (h : ℕ). 0 < h) is_taken.made is_taken.there) free

  not_current : (act : Act) (found : ℕ) → is_create act ≡ false → HasMoved before (entry_of actor seen.fronts moment act) found → IsWritable (is_create act) (kind_of act) (name_of act) seen.fronts before.history → ⊥
  not_current act found changing moved goes =
      let current : IsCurrent (kind_of act) (name_of act) seen.fronts before.history = subst (λ b. IsWritable b (kind_of act) (name_of act) seen.fronts before.history) changing goes in
      omega (arith, moved.newer, moved.now, current)

  take : (turn : Turn) → (turn ≡ turns.Memory → ⊥) → TookFirst seen actor moment before turn after → WorkerTurn before.history actor seen.fronts moment after.history
  take turns.Idle told took = inl (subst (λ (v : View). HasNoChoice v actor moment) shows.same took.0, ap (λ (s : Stored). s.history) took.1)
  take (turns.Wrote version) told took = tried took.0 took.1 (inl (took.2.0, took.2.1.added))
  take (turns.Exists holder version) told took = tried took.0 took.1 (inr (not_free took.0 holder version took.2.0 took.2.1, ap (λ (s : Stored). s.history) took.2.2))
  take (turns.Conflict found) told took = tried took.0 took.1 (inr (not_current took.0 found took.2.0 took.2.1, ap (λ (s : Stored). s.history) took.2.2))
  take turns.Memory told took = absurd (told refl)

pub workers_take : WorkersTake
workers_take seen actor moment before after turn legal shows told took = take seen actor moment before after legal shows turn told took

-- What an older history shows of the objects that stays in each later one.
use Rattle.std.specs.Prelude.{◌≡◌, ◌≤◌, ℕ, List, length, Some, true, slice_get}
use Rattle.tk_types.specs.declared.run.Outcome.{Outcome}
use Rattle.tk_types.specs.declared.object.Asked.{Asked}
use Rattle.tk_journal.specs.declared.entry.Entry.{Entry}
use Rattle.tk_journal.specs.declared.object.RunState.{RunState}
use Rattle.tk_journal.specs.declared.object.TaskRunState.{TaskRunState}
use Rattle.tk_journal.specs.declared.object.Attempt.{Attempt}
use Rattle.tk_journal.specs.declared.object.PodState.{PodState}
use Rattle.tk_journal.specs.declared.object.Claim.{Claim}
use Rattle.tk_journal.specs.Lists.{IsThere, Has, IsPrefixOf}
use Rattle.tk_journal.specs.History.{run_of, task_run_of, pod_of}
use Rattle.tk_journal.specs.Right.{WasAsked, EndedAttempt}

pub record RunGrows (old new : RunState) : Type 0 where
  pub spec : new.spec ≡ old.spec
  pub root : new.root ≡ old.root
  pub asked : IsPrefixOf old.asked new.asked
  pub stops : IsPrefixOf old.stops new.stops
  pub scheduled : IsPrefixOf old.scheduled new.scheduled
  pub start : (moment : ℕ) → old.start ≡ Some moment → new.start ≡ Some moment
  pub closed : IsThere old.closed → new ≡ old

pub record TaskRunGrows (old new : TaskRunState) : Type 0 where
  pub spec : new.spec ≡ old.spec
  pub run : new.run ≡ old.run
  pub task : new.task ≡ old.task
  pub index : new.index ≡ old.index
  pub binding : new.binding ≡ old.binding
  pub marked : old.marked ≡ true → new.marked ≡ true
  pub longer : length old.attempts ≤ length new.attempts
  pub attempts : (place : ℕ) (outcome : Outcome) → EndedAttempt old.attempts place outcome → EndedAttempt new.attempts place outcome
  pub kept : (place : ℕ) (attempt : Attempt) → slice_get old.attempts place ≡ Some attempt → IsThere attempt.outcome
      → slice_get new.attempts place ≡ Some attempt
  pub closed : IsThere old.closed → new ≡ old

pub record PodGrows (old new : PodState) : Type 0 where
  pub task_run : new.task_run ≡ old.task_run
  pub attempt : new.attempt ≡ old.attempt
  pub plan : new.plan ≡ old.plan
  pub marked : new.marked ≡ old.marked
  pub claim : (claim : Claim) → old.claim ≡ Some claim → new.claim ≡ Some claim
  pub ended : IsThere old.ended → new ≡ old

pub record Grows (old new : List Entry) : Type 0 where
  pub runs : (name : List ℕ) (run : RunState) → run_of old name ≡ Some run → Has (run_of new name) (RunGrows run)
  pub task_runs : (name : List ℕ) (task_run : TaskRunState) → task_run_of old name ≡ Some task_run → Has (task_run_of new name) (TaskRunGrows task_run)
  pub pods : (name : List ℕ) (pod : PodState) → pod_of old name ≡ Some pod → Has (pod_of new name) (PodGrows pod)
  pub asked : (name : List ℕ) (status : Asked) → WasAsked old name status → WasAsked new name status

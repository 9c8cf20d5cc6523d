-- A user's ask is refused exactly where it isn't justified at the journal's end.
use Rattle.std.proofs.Common.{◌≡◌, ◌<◌, ℕ, List, [], ◌∷◌, length, Option, Some, None, All, true, refl, sym, subst, arith, inl, inr}
use Rattle.std.specs.Prelude.{nat_lt}
use Rattle.std.proofs.lemmas.Bool.{cases_Bool, lt-ltb}
use Rattle.std.proofs.lemmas.List.Elements.{All-head, All-tail}
use Rattle.tk_types.specs.declared.object.Asked.{Asked}
use Rattle.tk_types.specs.declared.object.Asked.TheVariants as asks
use Rattle.tk_types.specs.Behaviour.{level_of}
use Rattle.tk_types.specs.declared.scenario.Kind.TheVariants as kinds
use Rattle.tk_journal.specs.declared.entry.Entry.{Entry}
use Rattle.tk_journal.specs.declared.object.RunState.{RunState}
use Rattle.tk_journal.specs.declared.object.TaskRunState.{TaskRunState}
use Rattle.tk_journal.specs.AskRows.{IsHigher, RunAskRow, TaskRunAskRow}
use Rattle.tk_journal.specs.History.{past, run_of, task_run_of, version_of}
use Rattle.tk_journal.specs.Lists.{Has}
use Rattle.tk_journal.specs.Stops.{asked_level}
use Rattle.tk_journal.proofs.Past.{past_whole}
use Rattle.tk_store.specs.Writes.{Stored}
use Rattle.tk_user.specs.declared.answer.AskAnswer.{AskAnswer}
use Rattle.tk_user.specs.declared.answer.AskAnswer.TheVariants as answers
use Rattle.tk_user.specs.Ask.{Answered, ask_entry, greatest, is_higher, refusal, run_refusal, task_run_refusal, top_level}
use Rattle.tk_user.proofs.AtEnd.{may_ask}
use Rattle.tk_machine.specs.Machine.{AskTurn, MayAsk}

greatest_above : {X : Type 0} (level : X → ℕ) (limit most : ℕ) (xs : List X) → most < limit → All (λ x. level x < limit) xs → greatest level most xs < limit
greatest_above level limit most [] less all = less
greatest_above level limit most (x ∷ xs) less all = elim (cases_Bool (nat_lt most (level x))) [
  | inl hit ↦ rw hit (greatest_above level limit (level x) xs (All-head (λ y. level y < limit) x xs all) (All-tail (λ y. level y < limit) x xs all))
  | inr miss ↦ rw miss (greatest_above level limit most xs less (All-tail (λ y. level y < limit) x xs all))
]

above_top : (run : RunState) (limit : ℕ) → 0 < limit → All (λ a. asked_level a < limit) run.asked → All (λ s. level_of s < limit) run.stops → nat_lt (top_level run) limit ≡ true
above_top run limit some asked stops =
    lt-ltb (top_level run) limit (greatest_above level_of limit (greatest asked_level 0 run.asked) run.stops (greatest_above asked_level limit 0 run.asked some asked) stops)

higher_from : (run : RunState) (status : Asked) → IsHigher run status → is_higher run status ≡ true
higher_from run asks.Start higher = higher
higher_from run asks.StoppedRunFinally higher = above_top run 1 (omega arith) higher.0 higher.1
higher_from run asks.CancelledRunFinally higher = above_top run 2 (omega arith) higher.0 higher.1
higher_from run asks.Cancelled higher = above_top run 4 (omega arith) higher.0 higher.1
higher_from run asks.TaskRunCancelled higher = absurd higher

run_unrefused : (version : ℕ) (status : Asked) (o : Option RunState) → Has o (RunAskRow status) → run_refusal version status o ≡ None
run_unrefused version status o has = rw (has.is, has.has.not_closed, higher_from has.it status has.has.higher) refl

task_run_unrefused : (version : ℕ) (o : Option TaskRunState) → Has o TaskRunAskRow → task_run_refusal version o ≡ None
task_run_unrefused version o has = rw (has.is, has.has.standalone, has.has.not_closed, has.has.not_marked) refl

module _ (history : List Entry) (name : List ℕ) where
  whole : past (length history) history ≡ history
  whole = past_whole (length history) history (omega arith)

  run_there : (status : Asked) → Has (run_of (past (length history) history) name) (RunAskRow status) → run_refusal (version_of kinds.Runs name history) status (run_of history name) ≡ None
  run_there status has = run_unrefused (version_of kinds.Runs name history) status (run_of history name) (subst (λ (h : List Entry). Has (run_of h name) (RunAskRow status)) whole has)

  unrefused : (status : Asked) → MayAsk history name status → refusal history name status ≡ None
  unrefused asks.Start may = run_there asks.Start may
  unrefused asks.StoppedRunFinally may = run_there asks.StoppedRunFinally may
  unrefused asks.CancelledRunFinally may = run_there asks.CancelledRunFinally may
  unrefused asks.Cancelled may = run_there asks.Cancelled may
  unrefused asks.TaskRunCancelled may =
      task_run_unrefused (version_of kinds.TaskRuns name history) (task_run_of history name) (subst (λ (h : List Entry). Has (task_run_of h name) TaskRunAskRow) whole may)

  not_both : {X : Type 0} (o : Option X) (x : X) → o ≡ Some x → o ≡ None → ⊥
  not_both o x some none = cc

  refused_turn : (moment : ℕ) (status : Asked) (answer : AskAnswer) (before after : Stored) → before.history ≡ history → refusal history name status ≡ Some answer → after ≡ before
      → AskTurn history moment name status after.history
  refused_turn moment status answer before after is some same =
      inr ((λ may. not_both (refusal history name status) answer some (unrefused status may)), subst (λ (s : Stored). s.history ≡ history) (sym same) is)

-- what an ask answered is the machine's turn of the user
pub asked_turn : (name : List ℕ) (status : Asked) (moment : ℕ) (answer : AskAnswer) (before after : Stored)
    → Answered (refusal before.history name status) (ask_entry before.history name status moment) before answer after → AskTurn before.history moment name status after.history
asked_turn name status moment (answers.Wrote version) before after answered = inl ((may_ask before.history name status moment answered.0).justified.1, answered.1.added)
asked_turn name status moment answers.NoSuch before after answered = refused_turn before.history name moment status answers.NoSuch before after refl answered.0 answered.1
asked_turn name status moment (answers.Finished version) before after answered = refused_turn before.history name moment status (answers.Finished version) before after refl answered.0 answered.1
asked_turn name status moment (answers.NotHigher level) before after answered = refused_turn before.history name moment status (answers.NotHigher level) before after refl answered.0 answered.1

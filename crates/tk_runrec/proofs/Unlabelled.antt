-- A run that wasn't started, and is pending or can start, has acts by three rows alone.
use Rattle.std.proofs.Common.{◌≡◌, ℕ, List, [], ◌∷◌, Option, Some, None, Bool, true, false, refl, sym, ap}
use Rattle.std.specs.Prelude.{is_none, is_some, not, find, option_map, option_and_then, ◌&&◌, ◌||◌}
use Rattle.std.specs.List.{list_all}
use Rattle.std.proofs.lemmas.Bool.{and_parts}
use Rattle.tk_types.specs.declared.run.Child.{Child}
use Rattle.tk_types.specs.declared.run.Stop.{Stop}
use Rattle.tk_types.specs.declared.verdict.Verdict.{Verdict}
use Rattle.tk_verdict.specs.Condition.{condition_of}
use Rattle.tk_verdict.specs.Verdict.{is_done}
use Rattle.tk_journal.specs.declared.act.Act.{Act}
use Rattle.tk_journal.specs.declared.act.Act.TheVariants as acts
use Rattle.tk_journal.specs.declared.object.RunState.{RunState}
use Rattle.tk_journal.specs.History.{View}
use Rattle.tk_journal.specs.RunRows.{facts_in}
use Rattle.tk_choice.specs.First.{first_act}
use Rattle.tk_runrec.specs.Labels.{first_ready}
use Rattle.tk_runrec.specs.Tests.{starts_ready, is_recorded, is_above, has_cause, may_halt, may_schedule}
use Rattle.tk_runrec.specs.Choice.{all_closed, is_over, closed_with, halting_order, halt, start, cancel, make_first, close, schedule, schedule_task, seen_children, table}
use Rattle.tk_runrec.proofs.Listed.{when_false, find_nothing}

none_started : (o : Option ℕ) → is_none o ≡ true → is_some o ≡ false
none_started None is = refl
none_started (Some moment) is = absurd (cc (is))

-- nothing follows the three
nothing_after : (a b c : Option Act) → first_act (a ∷ b ∷ c ∷ None ∷ []) ≡ first_act (a ∷ b ∷ c ∷ [])
nothing_after (Some a) b c = refl
nothing_after None (Some b) c = refl
nothing_after None None (Some c) = refl
nothing_after None None None = refl

-- nothing stands before them either
three_of : (a b c d e f : Option Act) → a ≡ None → b ≡ None → f ≡ None → first_act (c ∷ d ∷ e ∷ []) ≡ first_act (a ∷ b ∷ c ∷ d ∷ e ∷ f ∷ [])
three_of None None c d e None none_a none_b none_f = sym (nothing_after c d e)
three_of (Some a) b c d e f none_a none_b none_f = absurd (cc (none_a))
three_of None (Some b) c d e f none_a none_b none_f = absurd (cc (none_b))
three_of None None c d e (Some f) none_a none_b none_f = absurd (cc (none_f))

not_over : (pending ready started b c d : Bool) → (pending || ready) ≡ true → started ≡ false → (not pending && (not ready || (started && b && c && d))) ≡ false
not_over true ready started b c d calm none = refl
not_over false true false b c d calm none = refl
not_over false true true b c d calm none = absurd (cc (none))
not_over false false started b c d calm none = absurd (cc (calm))

not_halting_at : (started above cause : Bool) → started ≡ false → (started && above && cause) ≡ false
not_halting_at false above cause none = refl
not_halting_at true above cause none = absurd (cc (none))

module _ (view : View) (moment : ℕ) (name : List ℕ) (run : RunState) (labels : List Verdict) where
  not_closing : is_some run.start ≡ false → (run.pending || starts_ready run.spec.start) ≡ true → close view name run labels ≡ None
  not_closing none calm =
      when_false (not run.pending && is_over view run labels) (option_map (closed_with name (facts_in view run)) (condition_of (facts_in view run) labels))
      (not_over run.pending (starts_ready run.spec.start) (is_some run.start) (list_all is_done labels) (list_all (is_recorded run.stops) run.asked) (all_closed view run) calm none)

  none_found : (children : List Child) → is_some run.start ≡ false → find (may_halt moment run children labels) halting_order ≡ None
  none_found children none =
      find_nothing (may_halt moment run children labels) halting_order
      (λ stop. not_halting_at (is_some run.start) (is_above run.stops stop) (has_cause moment run children labels stop) none)

  not_halting : (children : List Child) → is_some run.start ≡ false → halt moment name run children labels ≡ None
  not_halting children none = ap (option_map (λ (stop : Stop). acts.Halt name stop)) (none_found children none)

  not_scheduling : is_some run.start ≡ false → schedule view name run labels ≡ None
  not_scheduling none = when_false (is_some run.start) (option_and_then (schedule_task name (facts_in view run) labels) (first_ready (may_schedule run (seen_children view run)) 0 labels)) none

  pub table_unlabelled : (is_none run.start && (run.pending || starts_ready run.spec.start)) ≡ true → first_act (start name run ∷ cancel view name run ∷ make_first view name run ∷ []) ≡ first_act (table view moment name run labels)
  table_unlabelled calm =
      let parts = and_parts (is_none run.start) (run.pending || starts_ready run.spec.start) calm in
      let none = none_started run.start parts.0 in
      three_of (close view name run labels) (halt moment name run (seen_children view run) labels) (start name run) (cancel view name run) (make_first view name run) (schedule view name run labels)
      (not_closing none parts.1) (not_halting (seen_children view run) none) (not_scheduling none)

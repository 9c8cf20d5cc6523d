-- What stays over a step of the facts: what the rules give, Ready while children end, and the labels of settled tasks.
use Rattle.std.proofs.Common.{◌≡◌, ℕ, ◌-◌, ◌<◌, ◌≤◌, true, false, List, [], length, Some, None, refl, sym, ap, ◌∙◌, subst, inl, inr, arith}
use Rattle.std.specs.Prelude.{slice_get}
use Rattle.std.specs.List.{list_all}
use Rattle.std.proofs.lemmas.Bool.{cases_Bool}
use Rattle.std.proofs.lemmas.Option.{slice_get_cases}
use Rattle.tk_types.specs.declared.task.PipelineTask.{PipelineTask}
use Rattle.tk_types.specs.declared.run.Facts.{Facts}
use Rattle.tk_types.specs.declared.run.Child.{Child}
use Rattle.tk_types.specs.declared.run.Stop.{Stop}
use Rattle.tk_types.specs.declared.verdict.Binding.{Binding}
use Rattle.tk_types.specs.declared.verdict.Verdict.TheVariants.{Ready}
use Rattle.tk_graph.specs.Parents.{IsAcyclic}
use Rattle.tk_verdict.specs.Facts.{task_total, children_at, children_of, first_late_stop}
use Rattle.tk_verdict.specs.Gives.{label_of, first_labels, Gives, to_task, to_final}
use Rattle.tk_verdict.specs.Moves.{KeepOutcomes, GainsOutcomes, Moves, by_outcomes, IsSettled}
use Rattle.tk_verdict.specs.Verdict.{is_done}
use Rattle.tk_verdict.specs.WellFormed.{IsWellFormed}
use Rattle.tk_verdict.specs.Words.{finally_env}
use Rattle.tk_verdict.specs.Labels.{label_by}
use Rattle.tk_verdict.specs.Bindings.{combinations_in}
use Rattle.tk_verdict.proofs.GoodStays.{gives_task_stays, ready_task_stays}
use Rattle.tk_verdict.proofs.LabelStays.{gives_final_stays, final_label_stays, ready_final_stays, done_label_stays}
use Rattle.tk_verdict.proofs.Lines.{next_by, ready_parts, ready_has_none, past_waits, final_label}
use Rattle.tk_verdict.proofs.Resting.{keep_at, keep_none, rests, spec_stays, stops_stay}
use Rattle.tk_verdict.proofs.SameResults.{KnowsReadings, with_children}

-- a task of `tasks`, one of `finally`, or none
pub data Place (facts : Facts) (place : ℕ) : Type 0 where
  of_tasks : (task : PipelineTask) → place < length facts.spec.tasks → slice_get facts.spec.tasks place ≡ Some task → Place facts place
  of_finally : (task : PipelineTask) → length facts.spec.tasks ≤ place → slice_get facts.spec.finally (place - length facts.spec.tasks) ≡ Some task → Place facts place
  beyond : task_total facts ≤ place → Place facts place

pub place_of : (facts : Facts) (place : ℕ) → Place facts place
place_of facts place =
    elim (slice_get_cases facts.spec.tasks place).1 [
      | inl found ↦ of_tasks found.0 found.1 found.2
      | inr past ↦ elim (slice_get_cases facts.spec.finally (place - length facts.spec.tasks)).1 [
        | inl found ↦ of_finally found.0 past.0 found.2
        | inr further ↦ beyond (omega (arith, past.0, further.0))
      ]
    ]

-- a task of `finally` is Ready only where all of `tasks` are done
pub ready_finished : (facts : Facts) → IsAcyclic facts.spec.tasks → (place : ℕ) (task : PipelineTask) → length facts.spec.tasks ≤ place → slice_get facts.spec.finally (place - length facts.spec.tasks) ≡ Some task
    → label_of facts place ≡ Ready → list_all is_done (first_labels facts) ≡ true
ready_finished facts acyclic place task past is ready =
    elim (cases_Bool (list_all is_done (first_labels facts))) [
      | inl done ↦ done
      | inr waits ↦
          let line : label_of facts place ≡ label_by (children_of facts place) (combinations_in (finally_env facts (first_labels facts) task) task) None None (next_by false)
          = final_label facts acyclic place task past is ∙ rw waits refl in
          let parts = ready_parts (children_of facts place) (combinations_in (finally_env facts (first_labels facts) task) task) None None false (sym line ∙ ready) in
          let wrong = parts.3 in
          cc
    ]

module _ (knows : KnowsReadings) (old new : Facts) (formed : IsWellFormed old) where
  -- the new facts, with the spec of the old ones
  abbrev same_spec : Facts
  same_spec = with_children old.spec new.stops new.children

  with_spec : new.spec ≡ old.spec → same_spec ≡ new
  with_spec same = λ i. record { spec = (sym same) i; stops = new.stops; children = new.children }

  pub gives_stays : (place : ℕ) (bindings : List Binding) → Moves old new → Gives old place bindings → Gives new place bindings
  gives_stays place bindings moves gives = subst (λ (facts : Facts). Gives facts place bindings) (with_spec (spec_stays old new moves)) (by_part gives)
    where
      by_part : Gives old place bindings → Gives same_spec place bindings
      by_part (to_task {task} g) = to_task (gives_task_stays old.spec old.stops new.stops old.children new.children knows formed (rests old new moves) place task bindings g)
      by_part (to_final {task} g) =
          to_final (gives_final_stays old.spec old.stops new.stops old.children new.children knows formed (rests old new moves) (stops_stay old new moves).first g.done place task bindings g)

  pub ready_stays : (place : ℕ) → GainsOutcomes old new → label_of old place ≡ Ready → label_of new place ≡ Ready
  ready_stays place gains ready = subst (λ (facts : Facts). label_of facts place ≡ Ready) (with_spec gains.spec) (by_place (place_of old place))
    where
      none : children_of old place ≡ []
      none = ready_has_none old place ready

      same : children_at new.children place ≡ children_at old.children place
      same = keep_none (children_of new place) (subst (λ (cs : List Child). KeepOutcomes cs (children_of new place)) none (keep_at place old.children new.children gains.children)) ∙ sym none

      by_place : Place old place → label_of same_spec place ≡ Ready
      by_place (of_tasks task within is) =
          ready_task_stays old.spec old.stops new.stops old.children new.children knows formed (rests old new (by_outcomes gains)) place task is same (ap (λ (stops : List Stop). slice_get stops 0) gains.stops) ready
      by_place (of_finally task past is) =
          ready_final_stays old.spec old.stops new.stops old.children new.children knows formed (rests old new (by_outcomes gains)) (stops_stay old new (by_outcomes gains)).first
          (ready_finished old formed.acyclic place task past is ready) place task past is same (ap (λ (stops : List Stop). first_late_stop (with_children old.spec stops [])) gains.stops) ready
      by_place (beyond past) = let waits = past_waits old place past in cc

  pub label_stays : (place : ℕ) → Moves old new → IsSettled old place → label_of new place ≡ label_of old place
  label_stays place moves settled = subst (λ (facts : Facts). label_of facts place ≡ label_of old place) (with_spec (spec_stays old new moves)) (by_place (place_of old place))
    where
      by_place : Place old place → label_of same_spec place ≡ label_of old place
      by_place (of_tasks task within is) =
          (done_label_stays old.spec old.stops new.stops old.children new.children knows formed (rests old new moves) (stops_stay old new moves).first place
          (record { within = within; itself = settled.itself; above = settled.ancestors })).label
      by_place (of_finally task past is) =
          final_label_stays old.spec old.stops new.stops old.children new.children knows formed (rests old new moves) (stops_stay old new moves).first (settled.tasks past)
          (stops_stay old new moves).late place task past is settled.itself
      by_place (beyond past) = let waits : is_done (label_of old place) ≡ false = ap is_done (past_waits old place past) in let done = settled.itself in cc

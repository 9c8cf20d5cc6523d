-- What has a reading in a step and in a body.
use Rattle.std.proofs.Common.{◌≡◌, List, [], ◌∷◌, ◌++◌, map, Option, Some, None, subst, get_or}
use Rattle.std.specs.Prelude.{All, option_to_list}
use Rattle.std.specs.Option.{ForSome}
use Rattle.std.proofs.lemmas.List.Elements.{All-nil, All-cons, All-head, All-tail}
use Rattle.tk_types.specs.declared.task.Step.{Step}
use Rattle.tk_types.specs.declared.task.TaskBody.{TaskBody}
use Rattle.tk_types.specs.declared.value.Pair.{Pair}
use Rattle.tk_vars.specs.Reading.{HasReading}
use Rattle.tk_bind.specs.Fits.{step_elements, step_single_texts}
use Rattle.tk_bind.specs.Readings.{ReadsStep}
use Rattle.tk_journal.specs.Sound.{ReadsSteps}

module _ {X : Type 0} (P : X → Type 0) where
  front : (xs ys : List X) → All P (xs ++ ys) → All P xs
  front [] ys all = All-nil P
  front (x ∷ xs) ys all = All-cons P x xs (All-head P x (xs ++ ys) all) (front xs ys (All-tail P x (xs ++ ys) all))

  back : (xs ys : List X) → All P (xs ++ ys) → All P ys
  back [] ys all = all
  back (x ∷ xs) ys all = back xs ys (All-tail P x (xs ++ ys) all)

  of_mapped : {Y : Type 0} (f : Y → X) (ys : List Y) → All P (map f ys) → All (λ y. P (f y)) ys
  of_mapped f [] all = All-nil (λ y. P (f y))
  of_mapped f (y ∷ ys) all = All-cons (λ z. P (f z)) y ys (All-head P (f y) (map f ys) all) (of_mapped f ys (All-tail P (f y) (map f ys) all))

  of_optional : (o : Option X) → All P (option_to_list o) → ForSome o P
  of_optional None all = λ x e. absurd (let f : ⊥ = cc in f)
  of_optional (Some y) all = λ x e. let same : y ≡ x = cc in subst P same (All-head P y [] all)

step_reads : (step : Step) → All HasReading (step_elements step ++ step_single_texts step) → ReadsStep step
step_reads step all =
    let values = map (λ (p : Pair). p.value) step.env in
    let elements = front HasReading (step_elements step) (step_single_texts step) all in
    let singles = back HasReading (step_elements step) (step_single_texts step) all in
    let sooner = front HasReading (option_to_list step.script ++ values) (option_to_list step.dir) singles in
    record {
      command = front HasReading step.command step.args elements;
      args = back HasReading step.command step.args elements;
      script = of_optional HasReading step.script (front HasReading (option_to_list step.script) values sooner);
      env = of_mapped HasReading (λ (p : Pair). p.value) step.env (back HasReading (option_to_list step.script) values sooner);
      dir = of_optional HasReading step.dir (back HasReading (option_to_list step.script ++ values) (option_to_list step.dir) singles);
    }

-- the steps of a body have readings
pub steps_read : (body : TaskBody) → ReadsSteps body → All ReadsStep body.spec.steps
steps_read body reads = λ k d lt. step_reads (get_or body.spec.steps k d) (reads k d lt)

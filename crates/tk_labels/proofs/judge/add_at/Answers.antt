use Rattle.std.proofs.Common.{◌≡◌, ◌<◌, ◌++◌, ◌∙◌, List, Ok, Err, Some, [], ap, length, map, subst, sym}
use Rattle.std.specs.Prelude.{OnOk, Option, Result, slice_get}
use Rattle.std.specs.Option.{option_map_or}
use Rattle.std.proofs.lemmas.Option.{slice_get-get_or}
use Rattle.tk_types.specs.declared.run.Child.{Child}
use Rattle.tk_types.specs.declared.task.PipelineTask.{PipelineTask}
use Rattle.tk_bind.specs.declared.env.Given.{Given}
use Rattle.tk_labels.specs.Kept.{of_run}
use Rattle.tk_verdict.specs.Available.{available_of}
use Rattle.tk_labels.proofs.judge.add_at.Goals as goal
use denote.Bor.{Bor}

on_ok : {A E P Q : Type 0} → (P → Q) → (r : Result A E) → OnOk r P → OnOk r Q
on_ok so (Ok a) is = so is
on_ok so (Err e) is = is

pub returns : goal.returns
returns c =
    let facts = of_run c.args.run.now c.args.kids.now in
    let place = c.args.place in
    let task = c.index-as_slice-place.result in
    let within = subst (λ (ts : List PipelineTask). place < length ts) (sym c.as_slice.ensures) c.requires in
    let at = subst (λ (ts : List PipelineTask). slice_get ts place ≡ Some task) c.as_slice.ensures (slice_get-get_or c.as_slice.result.now place task within ∙ ap Some (sym c.index-as_slice-place.is)) in
    on_ok
    (λ is. is facts place (ap (λ (cs : List (Bor Child)). map (λ (b : Bor Child). b.now) cs) c.as_slice-2.ensures.value ∙ c.in_ok-children.ensures) ∙ ap (λ (given : List Given). c.args.made.now ++ given) (ap (λ (o : Option PipelineTask). option_map_or (λ (t : PipelineTask). available_of facts (place, t)) o []) (sym at)))
    c.add_of_task.result c.add_of_task.ensures

use Rattle.std.proofs.Common.{◌≡◌, length, ap, sym, ◌∙◌, arith}
use Rattle.std.proofs.lemmas.List.{length-append, length-map}
use Rattle.tk_types.specs.Behaviour.{tasks_of}
use Rattle.tk_types.specs.declared.task.PipelineTask.{PipelineTask}
use Rattle.tk_names.specs.Clash.{clash}
use Rattle.tk_spec_sound.proofs.Answers.{none_tells}
use Rattle.tk_spec_sound.proofs.NamesDiffer.{below_differ, names_of, pairs_differ}
use Rattle.tk_spec_sound.proofs.names.names_differ.Goals as goal

pub clash-requires : goal.clash-requires
clash-requires c =
    let spec = c.args.spec.now in
    let few = c.requires in
    let long : length c.as_slice.result.now ≡ length (names_of (tasks_of spec)) = ap length (c.as_slice.ensures ∙ c.in_ok-names.ensures) in
    let each = length-map (tasks_of spec) (λ (task : PipelineTask). task.name) in
    let both = length-append spec.tasks spec.finally in
    omega (arith, few, long, each, both)

pub returns : goal.returns
returns c =
    let tasks = tasks_of c.args.spec.now in
    let same : c.as_slice.result.now ≡ names_of tasks = c.as_slice.ensures ∙ c.in_ok-names.ensures in
    let law = c.clash_is_the_first.ensures.none (names_of tasks) in
    none_tells c.in_ok-clash.field-0 c.is_none.result c.is_none.ensures (
      λ none. pairs_differ tasks (law.0 (ap clash (sym same) ∙ (sym c.in_ok-clash.ensures ∙ none))),
      λ pairs. c.in_ok-clash.ensures ∙ (ap clash same ∙ law.1 (below_differ tasks pairs)),
    )

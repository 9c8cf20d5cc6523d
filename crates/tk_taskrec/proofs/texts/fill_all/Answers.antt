use Rattle.std.proofs.Common.{◌≡◌, ◌+◌, ◌∷◌, [], List, Option, Some, drop, map, sym, ap, subst, ◌∙◌}
use Rattle.std.specs.Prelude.{option_map}
use Rattle.std.proofs.lemmas.List.{map-append}
use Rattle.tk_bind.specs.Readings.{ReadsStep}
use Rattle.tk_journal.specs.Plan.{Filled as FilledStep, filled}
use Rattle.tk_taskrec.specs.Planned.{step_of}
use Rattle.tk_taskrec.specs.declared.texts.Filled.{Filled}
use Rattle.tk_taskrec.proofs.Gathered.{gathered, gathered_more}
use Rattle.tk_taskrec.proofs.texts.fill_all.Goals as goal

pub fill-requires : goal.fill-requires
fill-requires c = record { reads = subst ReadsStep (sym c.step-item.is) (c.requires.reads c.loop-step.step-index c.step-item.result c.loop-step-test.true) }

pub loop-step-preserved : goal.loop-step-preserved
loop-step-preserved c =
    let f = filled c.args.lookup.now in
    let place = c.loop-step.step-index in
    let there : f c.step-item.result ≡ Some (step_of c.in-Some.filled) = sym c.in_ok-filled.ensures ∙ ap (λ (o : Option Filled). option_map step_of o) c.in-Some.is in
    ap (λ (steps : List Filled). gathered f (map step_of steps) (drop (place + 1) c.args.steps.now)) c.in_ok-push-in-Some.ensures.items
    ∙ (ap (λ (ys : List FilledStep). gathered f ys (drop (place + 1) c.args.steps.now)) (map-append step_of c.loop-step.made.items (c.in-Some.filled ∷ []))
    ∙ (sym (gathered_more f (map step_of c.loop-step.made.items) c.args.steps.now place c.step-item.result (step_of c.in-Some.filled) c.loop-step-test.true c.step-item.is there) ∙ c.loop-step.invariant))

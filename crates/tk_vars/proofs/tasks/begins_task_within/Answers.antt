use Rattle.std.proofs.Common.{◌≡◌, ℕ, List, ◌∷◌, ◌||◌, true, false, sym, ◌∙◌, ap, arith}
use Rattle.tk_vars.specs.Task.{begins_task, begins_task_within}
use Rattle.tk_vars.proofs.ScanFacts.{text_after}
use Rattle.tk_vars.proofs.TaskFacts.{no_dollar_no_task, at_dollar}
use Rattle.tk_vars.proofs.tasks.begins_task_within.Goals as goal

pub returns-then-begins_task : goal.returns-then-begins_task
returns-then-begins_task c =
    let after : List ℕ = c.in-Some.after.now in
    let here : begins_task (36 ∷ after) ≡ true = sym c.begins_task.ensures ∙ c.if-begins_task.true in
    sym (sym c.loop-front.invariant.1 ∙ (at_dollar c.loop-front.rest.now c.in-Some._front.now after c.in-Some.ensures.found ∙ ap (λ r. r || begins_task_within after) here))

pub loop-front-preserved : goal.loop-front-preserved
loop-front-preserved c =
    let rest : List ℕ = c.loop-front.rest.now in
    let after : List ℕ = c.in-Some.after.now in
    let here : begins_task (36 ∷ after) ≡ false = sym c.begins_task.ensures ∙ c.if-begins_task.false in (
      text_after 36 rest c.in-Some._front.now after (omega arith) c.loop-front.invariant.0 c.in-Some.ensures.found.text_is,
      sym (sym c.loop-front.invariant.1 ∙ (at_dollar rest c.in-Some._front.now after c.in-Some.ensures.found ∙ ap (λ r. r || begins_task_within after) here)),
    )

pub returns : goal.returns
returns c = sym (sym c.loop-front.invariant.1 ∙ no_dollar_no_task c.loop-front.rest.now c.in_default.ensures.none)

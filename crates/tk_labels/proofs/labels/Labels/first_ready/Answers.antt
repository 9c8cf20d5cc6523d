use Rattle.std.proofs.Common.{◌≡◌, ℕ, zero, suc, ◌<◌, List, [], ◌∷◌, length, ap, ◌∙◌, arith}
use Rattle.tk_types.specs.declared.run.Facts.{Facts}
use Rattle.tk_types.specs.declared.verdict.Verdict.{Verdict}
use Rattle.tk_types.specs.declared.verdict.Verdict.TheVariants.{Ready}
use Rattle.tk_verdict.specs.Facts.{task_total}
use Rattle.tk_verdict.specs.Verdict.{label_at}
use Rattle.tk_labels.specs.Kept.{of_run}
use Rattle.tk_labels.proofs.labels.Labels.first_ready.Goals as goal

-- only a task is Ready
ready_within : (labels : List Verdict) (place : ℕ) → label_at labels place ≡ Ready → place < length labels
ready_within [] place ready = cc
ready_within (label ∷ labels) zero ready = omega arith
ready_within (label ∷ labels) (suc place) ready = omega (arith, ready_within labels place ready)

pub overflow_cast-result : goal.overflow_cast-result
overflow_cast-result c =
    let facts : Facts = of_run c.self.inside.run c.self.inside.children.items in
    let small = ready_within c.self.inside.labels c.in-Some.place c.in-Some.ensures.some.ready in
    let long : length c.self.inside.labels ≡ task_total facts
    = ap length c.self.invariant.kept.labelled ∙ (c.one_labelling.ensures.right facts c.self.invariant.kept.formed.acyclic).count in
    omega (arith, small, long, c.self.invariant.kept.formed.few_tasks)

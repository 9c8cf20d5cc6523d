use Rattle.std.proofs.Common.{◌<◌, ◌∙◌, length, ap, arith}
use Rattle.tk_types.specs.declared.run.Facts.{Facts}
use Rattle.tk_verdict.proofs.Walking.{parents_at, parents_count}
use Rattle.tk_labels.proofs.labels.Labels.task_bindings.Goals as goal

pub bounds-as_slice-task : goal.bounds-as_slice-task
bounds-as_slice-task c =
    let spec = ap (λ (f : Facts). length f.spec.tasks) c.self.view_is in
    let many = parents_count c.self.inside.run.spec.tasks c.self.inside.parents c.self.invariant.kept.above in
    let same = ap length c.as_slice.ensures in
    omega (arith, c.requires, spec, many, same)

pub bindings_at-requires-clause-parents : goal.bindings_at-requires-clause-parents
bindings_at-requires-clause-parents c =
    let tasks = c.self.inside.run.spec.tasks in
    let spec = ap (λ (f : Facts). length f.spec.tasks) c.self.view_is in
    let small : c.args.task < length tasks = omega (arith, c.requires, spec) in
    c.as_slice-above.ensures ∙ (c.index-as_slice-task.is ∙ parents_at tasks c.as_slice.result.now c.args.task _ (c.as_slice.ensures ∙ c.self.invariant.kept.above) small)

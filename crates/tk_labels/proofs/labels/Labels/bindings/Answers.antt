use Rattle.std.proofs.Common.{length, ap, arith}
use Rattle.tk_types.specs.declared.run.Facts.{Facts}
use Rattle.tk_verdict.proofs.Walking.{parents_count}
use Rattle.tk_labels.proofs.labels.Labels.bindings.Goals as goal

pub task_bindings-requires : goal.task_bindings-requires
task_bindings-requires c =
    let spec = ap (λ (f : Facts). length f.spec.tasks) c.self.view_is in
    let many = parents_count c.self.inside.run.spec.tasks c.self.inside.parents c.self.invariant.kept.above in
    let count = c.len.ensures in
    let below = c.if-task-len.true in
    omega (arith, spec, many, count, below)

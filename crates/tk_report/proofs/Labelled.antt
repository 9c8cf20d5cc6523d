-- A well-formed run has a label for each of its tasks.
use Rattle.std.proofs.Common.{◌≡◌, ◌≤◌, length, arith}
use Rattle.tk_types.specs.declared.run.Facts.{Facts}
use Rattle.tk_verdict.specs.Facts.{task_total}
use Rattle.tk_verdict.specs.Labels.{labels_of}
use Rattle.tk_verdict.specs.WellFormed.{IsWellFormed}
use Rattle.tk_verdict.proofs.RightLabels.{labels_of_is_right}

pub labels_suffice : (facts : Facts) → IsWellFormed facts → length facts.spec.tasks ≤ length (labels_of facts)
labels_suffice facts formed =
    let count : length (labels_of facts) ≡ task_total facts = (labels_of_is_right facts formed.acyclic).count in
    omega (arith, count)

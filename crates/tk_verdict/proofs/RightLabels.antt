-- An acyclic run has exactly one right labelling.
use Rattle.std.proofs.Common.{◌≡◌, List, arith}
use Rattle.tk_types.specs.declared.run.Facts.{Facts}
use Rattle.tk_types.specs.declared.verdict.Verdict.{Verdict}
use Rattle.tk_types.specs.declared.verdict.Verdict.TheVariants.{Waits}
use Rattle.tk_graph.specs.Parents.{IsAcyclic}
use Rattle.tk_verdict.specs.Facts.{task_total}
use Rattle.tk_verdict.specs.Labels.{verdict_line, IsRight, labels_of}
use Rattle.tk_verdict.proofs.Locality.{parents_within, task_line_agrees, finally_line_agrees}
use Rattle.tk_verdict.proofs.OneLabelling.{one, judged_out-length, judged_out-right}

-- the labels are right
pub labels_of_is_right : (facts : Facts) → IsAcyclic facts.spec.tasks → IsRight facts (labels_of facts)
labels_of_is_right facts (ranks, ranking) =
    record {
      count = judged_out-length Waits facts.spec.tasks (task_total facts) (verdict_line facts) (parents_within facts.spec.tasks) (omega arith) (task_line_agrees facts) (finally_line_agrees facts) ranks ranking;
      each = judged_out-right Waits facts.spec.tasks (task_total facts) (verdict_line facts) (parents_within facts.spec.tasks) (omega arith) (task_line_agrees facts) (finally_line_agrees facts) ranks ranking;
    }

-- and the only right ones
pub right_is_unique : (facts : Facts) → IsAcyclic facts.spec.tasks → (xs ys : List Verdict) → IsRight facts xs → IsRight facts ys → xs ≡ ys
right_is_unique facts (ranks, ranking) xs ys x y =
    one Waits facts.spec.tasks (task_total facts) (verdict_line facts) (parents_within facts.spec.tasks) (omega arith) (task_line_agrees facts) (finally_line_agrees facts) ranks ranking xs ys x.count y.count x.each y.each

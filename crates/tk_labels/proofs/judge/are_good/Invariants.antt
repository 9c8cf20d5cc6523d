use Rattle.std.proofs.Common.{◌≡◌, drop}
use Rattle.std.specs.List.{list_all}
use Rattle.tk_verdict.specs.Rows.{is_good_parent}
use Rattle.tk_verdict.specs.Verdict.{label_at}
use Rattle.tk_labels.specs.Kept.{of_run}
use Rattle.tk_labels.proofs.judge.are_good.Given as goal

-- the parents that are left decide
abbrev pub invariant-loop-place : goal.invariant-loop-place
invariant-loop-place l = list_all (λ p. is_good_parent (of_run l.run l.kids) (p, label_at l.labels p)) (drop l.place-index l.parents)
    ≡ list_all (λ p. is_good_parent (of_run l.run l.kids) (p, label_at l.labels p)) l.parents

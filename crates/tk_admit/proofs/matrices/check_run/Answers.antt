use Rattle.std.proofs.Common.{◌≡◌, ◌++◌, subst}
use Rattle.std.specs.Prelude.{All, OnOk}
use Rattle.tk_admit.specs.Sound.{HasFewChildren}
use Rattle.tk_admit.proofs.matrices.check_run.Goals as goal

pub returns-clause-few : goal.returns-clause-few
returns-clause-few c =
    let spec = c.args.spec.now in
    let result = c.check_both.result in
    let tasks : c.as_slice.result.now ≡ spec.tasks = cc in
    let finally : c.as_slice-2.result.now ≡ spec.finally = cc in
    subst (λ s. OnOk result (All (HasFewChildren s) (spec.tasks ++ spec.finally))) c.in_ok-values.ensures
    (subst (λ ts. OnOk result (All (HasFewChildren c.in_ok-values.values) (spec.tasks ++ ts))) finally
    (subst (λ ts. OnOk result (All (HasFewChildren c.in_ok-values.values) (ts ++ c.as_slice-2.result.now))) tasks c.check_both.ensures.few))

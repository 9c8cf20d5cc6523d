use Rattle.std.proofs.Common.{◌≡◌, ◌∙◌, ℕ, List, ap, sym, subst, inl, inr}
use Rattle.std.specs.Prelude.{IfOk, Bool}
use Rattle.std.specs.List.{list_all, range_with_len}
use Rattle.tk_resolve.specs.Settled.{all_fit, judged_count}
use Rattle.tk_resolve.specs.Shapes.{fit_beside, shapes_at}
use Rattle.tk_resolve.proofs.ByShapes.{all_fit_known, none_early, none_listed}
use Rattle.tk_resolve.proofs.beside.all_fit_settled.Goals as goal

pub returns-in-Some : goal.returns-in-Some
returns-in-Some c =
    let env = c.args.lookup.now in
    let task = c.args.task.now in
    let body = c.args.body.now in
    let known = c.in-Some.known in
    let some = c.in-Some.is in
    let fit = λ (late : List (List ℕ)). list_all (λ i. fit_beside late body (shapes_at known.early.items known.matrix i)) (range_with_len 0 (judged_count known.matrix)) in
    let due : fit c.as_slice-late.result.now ≡ all_fit env task body =
    ap fit (c.as_slice-late.ensures ∙ c.requires.late)
    ∙ sym (all_fit_known env task body known.early.items known.matrix c.requires.settled (c.in_ok-known.ensures.shapes known some) (c.in_ok-known.ensures.matrix known some)) in
    subst (λ (found : Bool). IfOk c.all_fit_known.result (λ fit. fit ≡ found)) due c.all_fit_known.ensures

pub returns-in-None : goal.returns-in-None
returns-in-None c =
    let env = c.args.lookup.now in
    let task = c.args.task.now in
    let body = c.args.body.now in
    sym
    (elim (c.in_ok-known.ensures.unknown c.in-None.is) [
      | inl early ↦ none_early env task body early
      | inr listed ↦ none_listed env task body listed
    ])

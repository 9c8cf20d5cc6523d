use Rattle.std.proofs.Common.{◌≡◌, ℕ, sym, ap, arith, ◌∙◌}
use Rattle.std.specs.List.{list_all, range_with_len}
use Rattle.tk_resolve.specs.Shapes.{fit_beside, shapes_at}
use Rattle.tk_resolve.proofs.Judged.{one_fails, one_more}
use Rattle.tk_resolve.proofs.beside.Beside.fit_all.Goals as goal

pub returns-then-not-branch : goal.returns-then-not-branch
returns-then-not-branch c =
    let known = c.args.known.now in
    let fit = fit_beside c.args.self.now.0 c.args.self.now.1 in
    sym (one_fails (λ i. fit (shapes_at known.early.items known.matrix i)) c.args.count c.loop-index.index c.loop-index-test.true (sym c.in_ok-fit_at.ensures ∙ c.if-not-branch.true))

pub loop-index-preserved : goal.loop-index-preserved
loop-index-preserved c =
    let known = c.args.known.now in
    let fit = fit_beside c.args.self.now.0 c.args.self.now.1 in
    one_more (λ i. fit (shapes_at known.early.items known.matrix i)) c.loop-index.index c.loop-index.invariant (sym c.in_ok-fit_at.ensures ∙ c.if-not-branch.false)

pub returns : goal.returns
returns c =
    let known = c.args.known.now in
    let fit = fit_beside c.args.self.now.0 c.args.self.now.1 in
    let end : c.args.count ≡ c.loop-index.index = omega arith in
    sym (ap (λ (n : ℕ). list_all (λ i. fit (shapes_at known.early.items known.matrix i)) (range_with_len 0 n)) end ∙ c.loop-index.invariant)

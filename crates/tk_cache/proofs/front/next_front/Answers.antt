use Rattle.std.proofs.Common.{◌<◌, ◌≤◌, ◌+◌, length, ℕ, inr, ap, sym, ◌∙◌, arith}
use Rattle.tk_cache.specs.Fronts.{next_front}
use Rattle.tk_cache.proofs.Nexts.{next_hit, next_miss, next_here}
use Rattle.tk_cache.proofs.front.next_front.Goals as goal
use Rattle.tk_cache.proofs.front.next_front.Goals.{then-is_of, else-is_of}

pub loop-left-preserved : goal.loop-left-preserved
loop-left-preserved c =
    let history = c.args.journal.now.history in
    let some : 0 < c.loop-left.left = omega (arith, c.loop-left-test.true) in
    let within : c.loop-left.at + 1 ≤ length history = omega (arith, c.if-at-len.true, c.len.ensures.value) in
    let order : c.args.front ≤ c.loop-left.at + 1 = omega (arith, c.loop-left.invariant.1) in
    elim c.if-is_of.branch [
      | then-is_of w ↦ (
        ap (λ (n : ℕ). next_front c.args.kind n (c.loop-left.at + 1) history) w.left-is
            ∙ next_hit c.args.kind c.loop-left.at c.entry.result.now c.loop-left.left history some c.entry.ensures (sym c.is_of.ensures ∙ w.if-is_of.true)
            ∙ c.loop-left.invariant.0,
        order,
        within,
      )
      | else-is_of w ↦ (
        ap (λ (n : ℕ). next_front c.args.kind n (c.loop-left.at + 1) history) w.left-is
            ∙ next_miss c.args.kind c.loop-left.at c.entry.result.now c.loop-left.left history some c.entry.ensures (sym c.is_of.ensures ∙ w.if-is_of.false)
            ∙ c.loop-left.invariant.0,
        order,
        within,
      )
    ]

pub returns-else-at-len-clause-value : goal.returns-else-at-len-clause-value
returns-else-at-len-clause-value c =
    next_here c.args.kind c.loop-left.left c.loop-left.at c.args.journal.now.history c.loop-left.invariant.2 (inr (omega (arith, c.if-at-len.false, c.len.ensures.value)))
    ∙ c.loop-left.invariant.0

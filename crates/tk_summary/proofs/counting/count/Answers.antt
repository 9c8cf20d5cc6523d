use Rattle.std.proofs.Common.{rules, ◌≡◌, ◌+◌, ◌^◌, ◌<◌, ◌≤◌, ℕ, true, false, length, sym, ap, ◌∙◌, arith}
use Rattle.tk_journal.specs.History.{past}
use Rattle.tk_summary.specs.Summary.{count_of, is_counted}
use Rattle.tk_summary.proofs.Counts.{count_all, count_no, count_none, count_within, count_yes}
use Rattle.tk_summary.proofs.counting.count.Goals as goal
use Rattle.tk_summary.proofs.counting.count.Goals.{then-is_counted, else-is_counted}

pub loop-place-init : goal.loop-place-init
loop-place-init c = sym (count_none c.args.what c.args.journal.now.history)

pub overflow_add-count : goal.overflow_add-count
overflow_add-count c =
    let some = count_within c.args.what c.args.journal.now.history c.loop-place.place in
    let is = c.loop-place.invariant in
    let long = c.len-place-end.ensures.value in
    let small = c.len-place-end.ensures.small in
    omega (arith, some, is, long, small)

pub loop-place-preserved : goal.loop-place-preserved
loop-place-preserved c =
    let what = c.args.what in
    let history = c.args.journal.now.history in
    elim c.if-is_counted.branch [
      | then-is_counted w ↦
          let hit : is_counted what c.entry.result.now.act ≡ true = search rules in
          w.count-is ∙ ap (λ (n : ℕ). n + 1) c.loop-place.invariant ∙ sym (count_yes what history c.loop-place.place c.entry.result.now c.entry.ensures hit)
      | else-is_counted w ↦
          let miss : is_counted what c.entry.result.now.act ≡ false = search rules in
          w.count-is ∙ c.loop-place.invariant ∙ sym (count_no what history c.loop-place.place c.entry.result.now c.entry.ensures miss)
    ]

pub returns : goal.returns
returns c =
    let reached : length c.args.journal.now.history ≤ c.loop-place.place = omega (arith, c.loop-place-test.false, c.len-place-end.ensures.value) in
    c.loop-place.invariant ∙ count_all c.args.what c.args.journal.now.history c.loop-place.place reached

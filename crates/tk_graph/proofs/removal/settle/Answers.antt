use Rattle.std.proofs.Common.{◌≡◌, ◌∙◌, ◌≤◌, ◌<◌, length, get_or, [], ap, arith}
use Rattle.std.proofs.lemmas.List.{get_or_default}
use Rattle.tk_graph.specs.Removal.{parents_at}
use Rattle.tk_graph.proofs.Removing.{waits_after, waits_at, advanced, all_parents_removed, inside_parents}
use Rattle.tk_graph.proofs.removal.settle.Goals as goal
use Rattle.tk_graph.proofs.removal.settle.Goals.{then-next-parents+in_ok-push, else-next-parents}

pub next_left-next-requires-clause-places : goal.next_left-next-requires-clause-places
next_left-next-requires-clause-places c = λ k d lt.
    let above = c.args.above.now in
    let parents : c.as_slice-parents.result.now ≡ parents_at above c.args.task = c.as_slice-parents.ensures ∙ (c.index-above-place.is ∙ get_or_default above c.args.task c.index-above-place.result [] c.requires.exists) in
    inside_parents above c.as_slice-parents.result.now c.args.task (length c.as_slice.result.now) c.requires.inside parents (ap length c.as_slice.ensures.value ∙ c.requires.removing.ranks_count) k d lt

pub returns-clause-removing : goal.returns-clause-removing
returns-clause-removing c =
    let above = c.args.above.now in
    let t = c.args.task in
    let k = c.next_left-next.result in
    let ranks = c.args.removal.now.ranks.items in
    let removed = c.args.removal.now.removed.items in
    let cursors = c.args.removal.now.cursors.items in
    let parents : c.as_slice-parents.result.now ≡ parents_at above t = c.as_slice-parents.ensures ∙ (c.index-above-place.is ∙ get_or_default above t c.index-above-place.result [] c.requires.exists) in
    let moved = advanced above ranks removed cursors t k c.index-2.result.now c.as_slice-parents.result.now c.as_slice.result.now c.requires.removing c.requires.exists
    parents c.as_slice.ensures.value c.index-2.ensures c.next_left-next.ensures.most c.next_left-next.ensures.passed in
    elim c.if-next-parents.branch [
      | then-next-parents+in_ok-push w ↦
          let e : w.len-rank.result ≡ length removed = omega (arith, c.args.removal.now.removed.ok.0) in
          let long = c.requires.removing.ranks_count in
          let high : length above ≤ get_or ranks t 0 = omega (arith, c.args.removal.now.ranks.ok.0, get_or_default ranks t 0 c.index.result.now (omega arith)) in
          rw (w.removal-is, w.in_ok-push.ensures.items, e) (all_parents_removed above ranks removed cursors t k c.as_slice-parents.result.now c.requires.inside c.requires.removing moved c.requires.exists high parents w.if-next-parents.true)
      | else-next-parents w ↦ rw w.removal-is moved
    ]

pub returns-clause-settled : goal.returns-clause-settled
returns-clause-settled c = λ step place le low old.
    let above = c.args.above.now in
    let t = c.args.task in
    let k = c.next_left-next.result in
    let ranks = c.args.removal.now.ranks.items in
    let removed = c.args.removal.now.removed.items in
    let cursors = c.args.removal.now.cursors.items in
    let parents : c.as_slice-parents.result.now ≡ parents_at above t = c.as_slice-parents.ensures ∙ (c.index-above-place.is ∙ get_or_default above t c.index-above-place.result [] c.requires.exists) in
    elim c.if-next-parents.branch [
      | then-next-parents+in_ok-push w ↦
          let e : w.len-rank.result ≡ length removed = omega (arith, c.args.removal.now.removed.ok.0) in
          let long = c.requires.removing.ranks_count in
          let high : length above ≤ get_or ranks t 0 = omega (arith, c.args.removal.now.ranks.ok.0, get_or_default ranks t 0 c.index.result.now (omega arith)) in
          rw (w.removal-is, e) (waits_after above ranks removed cursors t k step place c.requires.removing c.requires.exists high le low old)
      | else-next-parents w ↦
          let less : k < length c.as_slice-parents.result.now = omega arith in
          rw w.removal-is (waits_at above ranks removed cursors t k step place c.as_slice-parents.result.now c.as_slice.result.now c.requires.removing c.requires.exists le parents c.as_slice.ensures.value less (c.next_left-next.ensures.stops less) old)
    ]

use Rattle.std.proofs.Common.{◌≡◌, ◌+◌, ◌<◌, ◌≤◌, ◌∙◌, [], length, get_or, inl, ap, arith}
use Rattle.std.proofs.lemmas.List.{get_or_default}
use Rattle.tk_graph.specs.Cycle.{is_among}
use Rattle.tk_graph.proofs.Among.{among-range}
use Rattle.tk_graph.proofs.Removing.{places_exist, children_exist, next_waits, removed_all}
use Rattle.tk_graph.proofs.removal.remove.Goals as goal

pub settle_all-requires-clause-exist : goal.settle_all-requires-clause-exist
settle_all-requires-clause-exist c = places_exist (length c.args.above.now) c.as_slice.result.now (c.as_slice.ensures.value ∙ c.in_ok-all.ensures)

pub loop-next-init : goal.loop-next-init
loop-next-init c =
    let n = length c.args.above.now in
    record {
      removing = c.in_ok-settle_all.ensures.removing;
      low = omega arith;
      waiting = λ place low.
          c.in_ok-settle_all.ensures.settled 0 place (omega arith) low
          (inl (ap (λ xs. is_among xs place) (c.as_slice.ensures.value ∙ c.in_ok-all.ensures) ∙ among-range n place low));
    }

pub settle_all-requires-in-loop-next-clause-exist : goal.settle_all-requires-in-loop-next-clause-exist
settle_all-requires-in-loop-next-clause-exist c =
    let below = c.in_ok-below.below.items in
    let p = c.index-task.result.now in
    let removed = c.loop-next.removal.removed.items in
    let within : c.loop-next.next < length removed = omega (arith, c.loop-next.removal.removed.ok.0) in
    let first : p ≡ get_or removed c.loop-next.next 0 = c.index-task.ensures ∙ get_or_default removed c.loop-next.next p 0 within in
    let small : p < length c.args.above.now = omega (arith, c.loop-next.invariant.removing.places c.loop-next.next within) in
    let in_below : p < length below = omega (arith, c.in_ok-below.ensures.count) in
    children_exist c.args.above.now below p c.as_slice-in-loop-next.result.now c.in_ok-below.ensures.children small
    (c.as_slice-in-loop-next.ensures ∙ (c.index.ensures ∙ get_or_default below p c.index.result.now [] in_below))

pub loop-next-preserved : goal.loop-next-preserved
loop-next-preserved c =
    let above = c.args.above.now in
    let below = c.in_ok-below.below.items in
    let i = c.loop-next.next in
    let p = c.index-task.result.now in
    let ranks = c.loop-next.removal.ranks.items in
    let removed = c.loop-next.removal.removed.items in
    let cursors = c.loop-next.removal.cursors.items in
    let within : i < length removed = omega (arith, c.loop-next.removal.removed.ok.0) in
    let first : p ≡ get_or removed i 0 = c.index-task.ensures ∙ get_or_default removed i p 0 within in
    let small : p < length above = omega (arith, c.loop-next.invariant.removing.places i within) in
    let in_below : p < length below = omega (arith, c.in_ok-below.ensures.count) in
    let list : c.as_slice-in-loop-next.result.now ≡ get_or below p [] = c.as_slice-in-loop-next.ensures ∙ (c.index.ensures ∙ get_or_default below p c.index.result.now [] in_below) in
    let more : length removed ≤ length c.settle_all-in-loop-next.new.removal.removed.items = c.settle_all-in-loop-next.ensures.more in
    record {
      removing = c.in_ok-settle_all-2.ensures.removing;
      low = omega arith;
      waiting = λ place low.
          c.in_ok-settle_all-2.ensures.settled (i + 1) place (omega arith) low
          (next_waits above ranks removed cursors below i p place c.as_slice-in-loop-next.result.now c.requires.inside c.loop-next.invariant.removing c.in_ok-below.ensures.children
          within first list low (c.loop-next.invariant.waiting place low));
    }

pub returns : goal.returns
returns c =
    let removed = c.loop-next.removal.removed.items in
    let end : length removed ≤ c.loop-next.next = omega (arith, c.loop-next.removal.removed.ok.0) in
    removed_all c.args.above.now c.loop-next.removal.ranks.items removed c.loop-next.removal.cursors.items c.loop-next.next c.requires.inside c.loop-next.invariant.removing end c.loop-next.invariant.waiting

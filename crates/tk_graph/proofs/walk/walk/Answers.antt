use Rattle.std.proofs.Common.{◌≡◌, ◌+◌, ◌<◌, ◌≤◌, ◌-◌, suc, subst, rules, ◌∙◌, Some, [], length, get_or, drop, find, sym, ap, arith}
use Rattle.std.proofs.lemmas.List.{length_push, get_or_default, take_rest}
use Rattle.std.proofs.lemmas.List.Elements.{All-same}
use Rattle.std.proofs.lemmas.Result.{IfOk-weaker}
use Rattle.std.specs.Prelude.{Contains}
use Rattle.tk_graph.specs.Cycle.{walk as walk_of}
use Rattle.tk_graph.specs.Removal.{is_left, parents_at, walked_from}
use Rattle.tk_graph.proofs.Removing.{inside_parents}
use Rattle.tk_graph.proofs.WalkSteps.{walk_back, walk_on, walk_ends, no_steps, starts, mark_more, nothing_marked, all_small}
use Rattle.tk_graph.proofs.walk.walk.Goals as goal

pub first_left-requires : goal.first_left-requires
first_left-requires c =
    let above = c.args.above.now in
    let place = c.loop-step.place in
    let parents : c.as_slice-in-loop-step.result.now ≡ parents_at above place = c.as_slice-in-loop-step.ensures ∙ (c.index-above-place.is ∙ get_or_default above place c.index-above-place.result [] c.loop-step.invariant.here) in
    inside_parents above c.as_slice-in-loop-step.result.now place (length c.args.ranks.now) c.requires.inside parents c.requires.count

pub loop-step-init : goal.loop-step-init
loop-step-init c =
    let above = c.args.above.now in
    record {
      steps = ap length c.new-path.ensures.items;
      here = c.requires.exists;
      marked = nothing_marked (length above) c.new-path.result.items c.in_ok-coming.coming.items c.new-path.ensures.items (search rules);
      goes = starts (parents_at above) (is_left c.args.ranks.now) (length above) c.args.first c.new-path.result.items c.new-path.ensures.items;
    }

pub loop-step-preserved : goal.loop-step-preserved
loop-step-preserved c =
    let above = c.args.above.now in
    let n = length above in
    let ranks = c.args.ranks.now in
    let i = c.loop-step.step in
    let place = c.loop-step.place in
    let path = c.loop-step.path.items in
    let coming = c.loop-step.coming.items in
    let inv = c.loop-step.invariant in
    let long = inv.marked.long in
    let late : i ≤ get_or coming place 0 = omega (arith, get_or_default coming place 0 c.index.result.now (omega arith)) in
    let parents : c.as_slice-in-loop-step.result.now ≡ parents_at above place = c.as_slice-in-loop-step.ensures ∙ (c.index-above-place.is ∙ get_or_default above place c.index-above-place.result [] inv.here) in
    let found : Some c.in-Some.next ≡ find (is_left ranks) (parents_at above place) = c.in-Some.ensures.first ∙ ap (find (is_left ranks)) parents in
    record {
      steps = ap length c.in_ok-push.ensures.items ∙ (length_push path place ∙ ap (λ m. m + 1) inv.steps);
      here = c.requires.inside place c.in-Some.next (subst (λ ps. Contains ps c.in-Some.next) parents c.in-Some.ensures.among);
      marked = rw c.in_ok-push.ensures.items (mark_more n i path coming place inv.marked inv.steps inv.here (omega arith));
      goes =
          ap (λ xs. walk_of (parents_at above) (is_left ranks) (suc n - (i + 1)) xs c.in-Some.next) c.in_ok-push.ensures.items
          ∙ (sym (walk_on (parents_at above) (is_left ranks) n i path coming place inv.marked inv.steps c.loop-step-test.true inv.here c.in-Some.next late found) ∙ inv.goes);
    }

pub returns-then-before-step-clause-walked : goal.returns-then-before-step-clause-walked
returns-then-before-step-clause-walked c =
    let above = c.args.above.now in
    let n = length above in
    let ranks = c.args.ranks.now in
    let i = c.loop-step.step in
    let place = c.loop-step.place in
    let path = c.loop-step.path.items in
    let coming = c.loop-step.coming.items in
    let inv = c.loop-step.invariant in
    let long = inv.marked.long in
    let mark : c.index.result.now ≡ get_or coming place 0 = c.index.ensures ∙ get_or_default coming place c.index.result.now 0 (omega arith) in
    let back = walk_back (parents_at above) (is_left ranks) n i path coming place inv.marked inv.steps c.loop-step-test.true inv.here (omega arith) in
    let answer : drop c.index.result.now path ≡ walked_from (parents_at above) (is_left ranks) n c.args.first = ap (λ k. drop k path) mark ∙ (sym back ∙ inv.goes) in
    IfOk-weaker c.from_slice.result _ _ (λ v e. e ∙ (take_rest c.as_slice.result.now c.index.result.now ∙ (ap (drop c.index.result.now) c.as_slice.ensures.value ∙ answer))) c.from_slice.ensures.items

pub returns-then-before-step-clause-places : goal.returns-then-before-step-clause-places
returns-then-before-step-clause-places c =
    let small = all_small (length c.args.above.now) c.index.result.now c.loop-step.path.items c.loop-step.coming.items c.loop-step.invariant.marked in
    IfOk-weaker c.from_slice.result _ _ (λ v e. All-same (λ place. place < length c.args.above.now) v.items (drop c.index.result.now c.loop-step.path.items) (e ∙ (take_rest c.as_slice.result.now c.index.result.now ∙ ap (drop c.index.result.now) c.as_slice.ensures.value)) small) c.from_slice.ensures.items

pub returns-in-None-clause-walked : goal.returns-in-None-clause-walked
returns-in-None-clause-walked c =
    let above = c.args.above.now in
    let n = length above in
    let ranks = c.args.ranks.now in
    let i = c.loop-step.step in
    let place = c.loop-step.place in
    let path = c.loop-step.path.items in
    let coming = c.loop-step.coming.items in
    let inv = c.loop-step.invariant in
    let long = inv.marked.long in
    let late : i ≤ get_or coming place 0 = omega (arith, get_or_default coming place 0 c.index.result.now (omega arith)) in
    let parents : c.as_slice-in-loop-step.result.now ≡ parents_at above place = c.as_slice-in-loop-step.ensures ∙ (c.index-above-place.is ∙ get_or_default above place c.index-above-place.result [] inv.here) in
    c.new.ensures.items ∙ (sym (walk_ends (parents_at above) (is_left ranks) n i path coming place inv.marked inv.steps c.loop-step-test.true inv.here late (c.in-None.ensures.first ∙ ap (find (is_left ranks)) parents)) ∙ inv.goes)

pub returns-clause-walked : goal.returns-clause-walked
returns-clause-walked c =
    let above = c.args.above.now in
    c.new-2.ensures.items
    ∙ (sym (no_steps (parents_at above) (is_left c.args.ranks.now) (length above) c.loop-step.step c.loop-step.path.items c.loop-step.place c.loop-step-test.false) ∙ c.loop-step.invariant.goes)

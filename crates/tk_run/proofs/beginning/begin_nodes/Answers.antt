use Rattle.std.proofs.Common.{◌≡◌, ◌<◌, ℕ, List, [], length, length-set, get_or, ◌∙◌, arith, subst}
use Rattle.std.proofs.lemmas.Option.{slice_get-get_or}
use Rattle.tk_kubelet.specs.Holding.{holding_of}
use Rattle.tk_run.specs.Begun.{node_begun}
use Rattle.tk_run.proofs.Onward.{begun_at, later_at}
use Rattle.tk_run.proofs.beginning.begin_nodes.Goals as goal

pub loop-i-preserved : goal.loop-i-preserved
loop-i-preserved g c =
    let now = c.loop-i.nodes in
    let i = c.loop-i.i in
    let below : i < length c.args.nodes.now = omega (arith, c.loop-i-test.true, c.loop-i.invariant.end) in
    let inside : i < length now = omega (arith, below, c.loop-i.invariant.count) in
    let x = get_or now i c.index-nodes-i.result in
    let at = slice_get-get_or now i c.index-nodes-i.result inside in
    record {
      count = length-set now i c.begin.new.self ∙ c.loop-i.invariant.count;
      roots = let less = c.take_root-root.ensures.count in let was = c.loop-i.invariant.roots in omega (arith, less, was);
      each = λ root all. (c.take_root-root.ensures.each root (c.loop-i.invariant.each root all)).1;
      begun = λ root all.
          let own = (c.take_root-root.ensures.each root (c.loop-i.invariant.each root all)).0 in
          begun_at (node_begun root) c.args.nodes.now now i x c.begin.new.self at (subst (λ (r : List ℕ). c.begin.new.self ≡ record x { kubelet = holding_of i 1 r [] }) own c.begin.ensures) c.loop-i.invariant.later (c.loop-i.invariant.begun root all);
      later = later_at (node_begun []) c.args.nodes.now now i c.begin.new.self c.loop-i.invariant.later;
      end = c.loop-i.invariant.end;
    }

pub returns-clause-begun : goal.returns-clause-begun
returns-clause-begun g c root all i a b below = c.loop-i.invariant.begun root all i a b (let end = c.loop-i.invariant.end in let over = c.loop-i-test.false in omega (arith, below, end, over))

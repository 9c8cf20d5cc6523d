use Rattle.std.proofs.Common.{◌<◌, length, length-set, get_or, ◌∙◌, arith}
use Rattle.std.proofs.lemmas.Option.{slice_get-get_or}
use Rattle.tk_run.proofs.Killed.{killed_follow, killed_lived, killed_ready, killed_settled}
use Rattle.tk_run.proofs.killing.kill_nodes.Goals as goal

pub kill_all-requires : goal.kill_all-requires
kill_all-requires g c =
    let now = c.loop-i.nodes in
    let i = c.loop-i.i in
    let below : i < length c.args.nodes.now = omega (arith, c.loop-i-test.true, c.loop-i.invariant.end) in
    let inside : i < length now = omega (arith, below, c.loop-i.invariant.count) in
    let x = get_or now i c.index-nodes-i.result in
    let at = slice_get-get_or now i c.index-nodes-i.result inside in
    record { keeps = (c.loop-i.invariant.ready i x at).1.met.keeps }

pub loop-i-preserved : goal.loop-i-preserved
loop-i-preserved g c =
    let now = c.loop-i.nodes in
    let i = c.loop-i.i in
    let below : i < length c.args.nodes.now = omega (arith, c.loop-i-test.true, c.loop-i.invariant.end) in
    let inside : i < length now = omega (arith, below, c.loop-i.invariant.count) in
    let x = get_or now i c.index-nodes-i.result in
    let at = slice_get-get_or now i c.index-nodes-i.result inside in
    record {
      count = length-set now i c.kill_all.new.self ∙ c.loop-i.invariant.count;
      ready = killed_ready g.H.Host.told g.H.Host.killed g.H.Host.faults g.G.Gate.answers g.K.Clock.readings g.K.Clock.last c.args.store.now.history now i x c.kill_all.new.self at c.kill_all.ensures.same c.kill_all.ensures.told c.kill_all.ensures.still c.kill_all.ensures.later c.loop-i.invariant.ready;
      follow = killed_follow g.H.Host.told g.H.Host.killed g.H.Host.faults g.G.Gate.answers g.K.Clock.readings g.K.Clock.last c.args.store.now.history now i x c.kill_all.new.self at c.kill_all.ensures.same c.kill_all.ensures.told c.kill_all.ensures.still c.kill_all.ensures.later c.args.nodes.now c.loop-i.invariant.follow;
      settled = λ legal lived.
          let were = c.loop-i.invariant.settled legal lived in (
            killed_lived g.H.Host.told g.H.Host.killed g.H.Host.faults g.G.Gate.answers g.K.Clock.readings g.K.Clock.last c.args.store.now.history now i x c.kill_all.new.self at c.kill_all.ensures.same c.kill_all.ensures.told c.kill_all.ensures.still c.kill_all.ensures.later were.0,
            killed_settled g.H.Host.told g.H.Host.killed g.H.Host.faults g.G.Gate.answers g.K.Clock.readings g.K.Clock.last c.args.store.now.history now i x c.kill_all.new.self at c.kill_all.ensures.same c.kill_all.ensures.told c.kill_all.ensures.still c.kill_all.ensures.later legal (were.0 i x at) (c.loop-i.invariant.ready i x at).1 c.kill_all.ensures.settled were.1,
          );
      end = c.loop-i.invariant.end;
    }

pub returns-clause-settled : goal.returns-clause-settled
returns-clause-settled g c legal lived i n below at =
    (c.loop-i.invariant.settled legal lived).1 i n (let end = c.loop-i.invariant.end in let over = c.loop-i-test.false in omega (arith, below, end, over)) at

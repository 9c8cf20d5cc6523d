use Rattle.std.proofs.Common.{◌≡◌, ◌+◌, ◌*◌, length, false, None, ap, sym, ◌∙◌}
use Rattle.std.specs.Vec.Iter.{into_iter_items, into_iter_len}
use Rattle.tk_edge.specs.declared.gate.GateTurn.TheVariants.{Pause}
use Rattle.tk_store.specs.Notes.{kubelet_owner}
use Rattle.tk_threads.specs.Seating.{worker_of}
use Rattle.tk_threads.proofs.Seated.{all_made, len_next, made_next, more_next, place_next, rest_next}
use Rattle.tk_threads.proofs.seating.seat_nodes.Goals as goal

pub loop-node-preserved : goal.loop-node-preserved
loop-node-preserved g c =
    let l = c.loop-node in
    let v = l.invariant in
    let x = c.in-Some.node in
    let old = into_iter_items l.node-iterator in
    let new = into_iter_items c.next.new.self in
    let step = c.in-Some.ensures.steps in
    let named : c.in-Some.node.kubelet.number ≡ length l.yielded = c.requires.numbered (length l.yielded) x (place_next c.args.nodes.items l.yielded x old new v.rest step.0) in
    let same : l.owner ≡ kubelet_owner c.in-Some.node.kubelet.number = v.owner ∙ ap (λ n. 2 * n + 2) (sym named) in
    record {
      made = made_next worker_of l.seats.items c.push_reserved.new.self.items l.yielded x (record { actor = record { node = c.in-Some.node; owner = l.owner; given = Pause }; pass = None; lacked = false }) v.made c.push_reserved.ensures.items (λ i. record { actor = record { node = c.in-Some.node; owner = same i; given = Pause }; pass = None; lacked = false });
      rest = rest_next c.args.nodes.items l.yielded x old new v.rest step.0;
      owner = more_next l.yielded x l.owner 2 v.owner;
      len = len_next x old new (into_iter_len l.node-iterator) (into_iter_len c.next.new.self) step.0 step.1 v.len;
      room = rw c.push_reserved.ensures.capacity v.room;
    }

pub returns : goal.returns
returns g c =
    let l = c.loop-node in
    let v = l.invariant in
    all_made worker_of l.seats.items c.args.nodes.items l.yielded (into_iter_items l.node-iterator) (into_iter_len l.node-iterator) v.made v.rest v.len c.in-None.ensures.steps.0

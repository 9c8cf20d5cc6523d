use Rattle.std.proofs.Common.{length, map, sym, ap, ◌∙◌, subst}
use Rattle.std.specs.Vec.{vec_capacity}
use Rattle.tk_store.specs.Notes.{notes_of}
use Rattle.tk_store.specs.Writes.{Stored}
use Rattle.tk_rounds.specs.Bench.{AllReady, IsReadyController, IsReadyNode, controller_number, node_number}
use Rattle.tk_threads.specs.Seating.{leader_of, worker_of}
use Rattle.tk_threads.proofs.Benched.{among_leaders, among_workers, are_numbered, leaders_back, leaders_count, leaders_distinct, leaders_follow, leaders_ready, room_for, same_grows, seats_apart, seats_grow, seen_of_whole, workers_back, workers_count, workers_distinct, workers_follow, workers_ready}
use Rattle.tk_threads.proofs.threaded.in_threads.Goals as goal

pub returns-in-Err-clause-controllers : goal.returns-in-Err-clause-controllers
returns-in-Err-clause-controllers g c =
    subst (λ (s : Stored). AllReady controller_number IsReadyController s.history c.args.bench.now.controllers.items) (sym c.in-Err.ensures.err) c.requires.controllers

pub returns-in-Err-clause-nodes : goal.returns-in-Err-clause-nodes
returns-in-Err-clause-nodes g c =
    subst (λ (s : Stored). AllReady node_number (IsReadyNode g.H.Host.told g.H.Host.killed) s.history c.args.bench.now.kubelets.items) (sym c.in-Err.ensures.err) c.requires.nodes

pub returns-in-Err-clause-grows : goal.returns-in-Err-clause-grows
returns-in-Err-clause-grows g c =
    same_grows _ _ _ (ap (λ (s : Stored). s.history) c.in-Err.ensures.err)

pub seat_controllers-left-requires-clause-numbered : goal.seat_controllers-left-requires-clause-numbered
seat_controllers-left-requires-clause-numbered g c =
    are_numbered controller_number IsReadyController c.args.store.history c.args.bench.now.controllers.items c.replace.result.items (ap (λ v. v.items) c.replace.ensures.value) c.requires.controllers

pub seat_nodes-right-requires-clause-numbered : goal.seat_nodes-right-requires-clause-numbered
seat_nodes-right-requires-clause-numbered g c =
    are_numbered node_number (IsReadyNode g.H.Host.told g.H.Host.killed) c.args.store.history c.args.bench.now.kubelets.items c.replace-2.result.items (ap (λ v. v.items) c.replace-2.ensures.value) c.requires.nodes

pub play-went-requires-clause-distinct : goal.play-went-requires-clause-distinct
play-went-requires-clause-distinct g c κs within =
    seats_apart (length c.args.bench.now.controllers.items) (length c.args.bench.now.kubelets.items) c.seat_controllers-left.result.items c.seat_nodes-right.result.items
    (leaders_distinct g.G.Gate.answers g.K.Clock.readings g.K.Clock.last c.args.store.history c.in-Ok.made.1.claim.seen (seen_of_whole c.in-Ok.made.1.claim (notes_of c.args.store.history) c.in-Ok.ensures.ok.1) c.args.bench.now.controllers.items c.seat_controllers-left.result.items
    (c.seat_controllers-left.ensures ∙ ap (λ v. map leader_of v.items) c.replace.ensures.value) c.requires.controllers)
    (workers_distinct g.G.Gate.answers g.K.Clock.readings g.K.Clock.last g.H.Host.told g.H.Host.killed g.H.Host.faults c.args.store.history c.in-Ok.made.1.claim.seen (seen_of_whole c.in-Ok.made.1.claim (notes_of c.args.store.history) c.in-Ok.ensures.ok.1) c.args.bench.now.kubelets.items c.seat_nodes-right.result.items
    (c.seat_nodes-right.ensures ∙ ap (λ v. map worker_of v.items) c.replace-2.ensures.value) c.requires.nodes)
    (among_leaders g.G.Gate.answers g.K.Clock.readings g.K.Clock.last c.args.store.history c.in-Ok.made.1.claim.seen (seen_of_whole c.in-Ok.made.1.claim (notes_of c.args.store.history) c.in-Ok.ensures.ok.1) c.args.bench.now.controllers.items c.seat_controllers-left.result.items
    (c.seat_controllers-left.ensures ∙ ap (λ v. map leader_of v.items) c.replace.ensures.value) c.requires.controllers)
    (among_workers g.G.Gate.answers g.K.Clock.readings g.K.Clock.last g.H.Host.told g.H.Host.killed g.H.Host.faults c.args.store.history c.in-Ok.made.1.claim.seen (seen_of_whole c.in-Ok.made.1.claim (notes_of c.args.store.history) c.in-Ok.ensures.ok.1) c.args.bench.now.kubelets.items c.seat_nodes-right.result.items
    (c.seat_nodes-right.ensures ∙ ap (λ v. map worker_of v.items) c.replace-2.ensures.value) c.requires.nodes)

pub play-went-requires-clause-left : goal.play-went-requires-clause-left
play-went-requires-clause-left g c κs within =
    leaders_ready g.G.Gate.answers g.K.Clock.readings g.K.Clock.last c.args.store.history c.in-Ok.made.1.claim.seen (seen_of_whole c.in-Ok.made.1.claim (notes_of c.args.store.history) c.in-Ok.ensures.ok.1) c.args.bench.now.controllers.items c.seat_controllers-left.result.items
    (c.seat_controllers-left.ensures ∙ ap (λ v. map leader_of v.items) c.replace.ensures.value) c.requires.controllers

pub play-went-requires-clause-right : goal.play-went-requires-clause-right
play-went-requires-clause-right g c κs within =
    workers_ready g.G.Gate.answers g.K.Clock.readings g.K.Clock.last g.H.Host.told g.H.Host.killed g.H.Host.faults c.args.store.history c.in-Ok.made.1.claim.seen (seen_of_whole c.in-Ok.made.1.claim (notes_of c.args.store.history) c.in-Ok.ensures.ok.1) c.args.bench.now.kubelets.items c.seat_nodes-right.result.items
    (c.seat_nodes-right.ensures ∙ ap (λ v. map worker_of v.items) c.replace-2.ensures.value) c.requires.nodes

pub leave_controllers-requires-clause-room : goal.leave_controllers-requires-clause-room
leave_controllers-requires-clause-room g c =
    room_for leader_of c.args.bench.now.controllers.items c.seat_controllers-left.result.items c.play-went.new.left.items (vec_capacity c.args.rooms.controllers) (c.seat_controllers-left.ensures ∙ ap (λ v. map leader_of v.items) c.replace.ensures.value) c.play-went.ensures.left.0 c.requires.leaders.1

pub leave_nodes-requires-clause-room : goal.leave_nodes-requires-clause-room
leave_nodes-requires-clause-room g c =
    room_for worker_of c.args.bench.now.kubelets.items c.seat_nodes-right.result.items c.play-went.new.right.items (vec_capacity c.args.rooms.nodes) (c.seat_nodes-right.ensures ∙ ap (λ v. map worker_of v.items) c.replace-2.ensures.value) c.play-went.ensures.right.0 c.requires.workers.1

pub returns-clause-controllers : goal.returns-clause-controllers
returns-clause-controllers g c =
    leaders_back g.G.Gate.answers g.K.Clock.readings g.K.Clock.last c.args.store.history c.in-Ok.made.1.claim.seen (seen_of_whole c.in-Ok.made.1.claim (notes_of c.args.store.history) c.in-Ok.ensures.ok.1) c.args.bench.now.controllers.items c.seat_controllers-left.result.items
    (c.seat_controllers-left.ensures ∙ ap (λ v. map leader_of v.items) c.replace.ensures.value) c.requires.controllers
    c.close-store.result.history c.play-went.new.pass.claim.seen (sym c.close-store.ensures) c.play-went.new.left.items c.leave_controllers.result.items c.leave_controllers.ensures c.play-went.ensures.left

pub returns-clause-nodes : goal.returns-clause-nodes
returns-clause-nodes g c =
    workers_back g.G.Gate.answers g.K.Clock.readings g.K.Clock.last g.H.Host.told g.H.Host.killed g.H.Host.faults c.args.store.history c.in-Ok.made.1.claim.seen (seen_of_whole c.in-Ok.made.1.claim (notes_of c.args.store.history) c.in-Ok.ensures.ok.1) c.args.bench.now.kubelets.items c.seat_nodes-right.result.items
    (c.seat_nodes-right.ensures ∙ ap (λ v. map worker_of v.items) c.replace-2.ensures.value) c.requires.nodes
    c.close-store.result.history c.play-went.new.pass.claim.seen (sym c.close-store.ensures) c.play-went.new.right.items c.leave_nodes.result.items c.leave_nodes.ensures c.play-went.ensures.right

pub returns-clause-counts : goal.returns-clause-counts
returns-clause-counts g c = (
  leaders_count g.G.Gate.answers g.K.Clock.readings g.K.Clock.last c.args.store.history c.in-Ok.made.1.claim.seen (seen_of_whole c.in-Ok.made.1.claim (notes_of c.args.store.history) c.in-Ok.ensures.ok.1) c.args.bench.now.controllers.items c.seat_controllers-left.result.items
      (c.seat_controllers-left.ensures ∙ ap (λ v. map leader_of v.items) c.replace.ensures.value) c.requires.controllers
      c.close-store.result.history c.play-went.new.pass.claim.seen (sym c.close-store.ensures) c.play-went.new.left.items c.leave_controllers.result.items c.leave_controllers.ensures c.play-went.ensures.left,
  workers_count g.G.Gate.answers g.K.Clock.readings g.K.Clock.last g.H.Host.told g.H.Host.killed g.H.Host.faults c.args.store.history c.in-Ok.made.1.claim.seen (seen_of_whole c.in-Ok.made.1.claim (notes_of c.args.store.history) c.in-Ok.ensures.ok.1) c.args.bench.now.kubelets.items c.seat_nodes-right.result.items
      (c.seat_nodes-right.ensures ∙ ap (λ v. map worker_of v.items) c.replace-2.ensures.value) c.requires.nodes
      c.close-store.result.history c.play-went.new.pass.claim.seen (sym c.close-store.ensures) c.play-went.new.right.items c.leave_nodes.result.items c.leave_nodes.ensures c.play-went.ensures.right,
)

pub returns-clause-grows : goal.returns-clause-grows
returns-clause-grows g c =
    seats_grow (length c.args.bench.now.controllers.items) (length c.args.bench.now.kubelets.items) c.seat_controllers-left.result.items c.seat_nodes-right.result.items c.args.store.history c.close-store.result.history c.in-Ok.made.1.claim.seen c.play-went.new.pass.claim.seen (seen_of_whole c.in-Ok.made.1.claim (notes_of c.args.store.history) c.in-Ok.ensures.ok.1) (sym c.close-store.ensures)
    (among_leaders g.G.Gate.answers g.K.Clock.readings g.K.Clock.last c.args.store.history c.in-Ok.made.1.claim.seen (seen_of_whole c.in-Ok.made.1.claim (notes_of c.args.store.history) c.in-Ok.ensures.ok.1) c.args.bench.now.controllers.items c.seat_controllers-left.result.items
    (c.seat_controllers-left.ensures ∙ ap (λ v. map leader_of v.items) c.replace.ensures.value) c.requires.controllers)
    (among_workers g.G.Gate.answers g.K.Clock.readings g.K.Clock.last g.H.Host.told g.H.Host.killed g.H.Host.faults c.args.store.history c.in-Ok.made.1.claim.seen (seen_of_whole c.in-Ok.made.1.claim (notes_of c.args.store.history) c.in-Ok.ensures.ok.1) c.args.bench.now.kubelets.items c.seat_nodes-right.result.items
    (c.seat_nodes-right.ensures ∙ ap (λ v. map worker_of v.items) c.replace-2.ensures.value) c.requires.nodes)
    c.play-went.ensures.grows

pub returns-clause-controllers_follow : goal.returns-clause-controllers_follow
returns-clause-controllers_follow g c =
    leaders_follow g.G.Gate.answers g.K.Clock.readings g.K.Clock.last c.args.store.history c.in-Ok.made.1.claim.seen (seen_of_whole c.in-Ok.made.1.claim (notes_of c.args.store.history) c.in-Ok.ensures.ok.1) c.args.bench.now.controllers.items c.seat_controllers-left.result.items
    (c.seat_controllers-left.ensures ∙ ap (λ v. map leader_of v.items) c.replace.ensures.value) c.requires.controllers
    c.close-store.result.history c.play-went.new.pass.claim.seen (sym c.close-store.ensures) c.play-went.new.left.items c.leave_controllers.result.items c.leave_controllers.ensures c.play-went.ensures.left

pub returns-clause-nodes_follow : goal.returns-clause-nodes_follow
returns-clause-nodes_follow g c =
    workers_follow g.G.Gate.answers g.K.Clock.readings g.K.Clock.last g.H.Host.told g.H.Host.killed g.H.Host.faults c.args.store.history c.in-Ok.made.1.claim.seen (seen_of_whole c.in-Ok.made.1.claim (notes_of c.args.store.history) c.in-Ok.ensures.ok.1) c.args.bench.now.kubelets.items c.seat_nodes-right.result.items
    (c.seat_nodes-right.ensures ∙ ap (λ v. map worker_of v.items) c.replace-2.ensures.value) c.requires.nodes
    c.close-store.result.history c.play-went.new.pass.claim.seen (sym c.close-store.ensures) c.play-went.new.right.items c.leave_nodes.result.items c.leave_nodes.ensures c.play-went.ensures.right

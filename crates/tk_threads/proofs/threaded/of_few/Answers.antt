use Rattle.std.proofs.Common.{sym, subst}
use Rattle.tk_store.specs.Writes.{Stored}
use Rattle.tk_rounds.specs.Bench.{AllFollow, AllReady, ControllerFollows, IsReadyController, IsReadyNode, NodeFollows, controller_number, node_number}
use Rattle.tk_threads.proofs.threaded.of_few.Goals as goal

pub in_threads-back-requires-clause-controllers : goal.in_threads-back-requires-clause-controllers
in_threads-back-requires-clause-controllers g c κs within =
    subst (λ (s : Stored). AllReady controller_number IsReadyController s.history c.args.bench.now.controllers.items) (sym c.replace.ensures.value) c.requires.controllers

pub in_threads-back-requires-clause-nodes : goal.in_threads-back-requires-clause-nodes
in_threads-back-requires-clause-nodes g c κs within =
    subst (λ (s : Stored). AllReady node_number (IsReadyNode g.H.Host.told g.H.Host.killed) s.history c.args.bench.now.kubelets.items) (sym c.replace.ensures.value) c.requires.nodes

pub returns-clause-controllers_follow : goal.returns-clause-controllers_follow
returns-clause-controllers_follow g c =
    subst (λ (s : Stored). AllFollow (ControllerFollows g.G.Gate.answers g.K.Clock.readings g.K.Clock.last) c.args.bench.now.controllers.items c.in_threads-back.new.bench.controllers.items s.history c.in_threads-back.result.0.history) c.replace.ensures.value
    c.in_threads-back.ensures.controllers_follow

pub returns-clause-nodes_follow : goal.returns-clause-nodes_follow
returns-clause-nodes_follow g c =
    subst (λ (s : Stored). AllFollow (NodeFollows g.G.Gate.answers g.K.Clock.readings g.K.Clock.last g.H.Host.told g.H.Host.faults) c.args.bench.now.kubelets.items c.in_threads-back.new.bench.kubelets.items s.history c.in_threads-back.result.0.history)
    c.replace.ensures.value c.in_threads-back.ensures.nodes_follow

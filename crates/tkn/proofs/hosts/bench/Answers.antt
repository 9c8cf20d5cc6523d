use Rattle.std.proofs.Common.{[], ◌∷◌, ◌++◌, ◌∙◌, ap}
use Rattle.tk_run.specs.Begun.{IsNewController, IsNewNode}
use Rattle.tkn.proofs.Pairs.{both, some_both}
use Rattle.tkn.proofs.hosts.bench.Goals as goal

pub returns : goal.returns
returns g c =
    let controllers = c.in_ok-push-2.ensures.items ∙ ap (λ xs. xs ++ c.controller-2.result ∷ []) (c.in_ok-push.ensures.items ∙ ap (λ xs. xs ++ c.controller.result ∷ []) c.new-controllers.ensures.items) in
    let nodes = c.in_ok-push-4.ensures.items ∙ ap (λ xs. xs ++ c.node-2.result ∷ []) (c.in_ok-push-3.ensures.items ∙ ap (λ xs. xs ++ c.node.result ∷ []) c.new-kubelets.ensures.items) in
    record {
      some_controllers = some_both c.controller.result c.controller-2.result c.push-2.new.self.items controllers;
      some_nodes = some_both c.node.result c.node-2.result c.push-4.new.self.items nodes;
      controllers = both IsNewController c.controller.result c.controller-2.result c.controller.ensures c.controller-2.ensures c.push-2.new.self.items controllers;
      nodes = both (IsNewNode g.H.Host.told) c.node.result c.node-2.result c.node.ensures c.node-2.ensures c.push-4.new.self.items nodes;
    }

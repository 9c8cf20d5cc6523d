use Rattle.std.proofs.Common.{◌∙◌, [], ◌∷◌, ◌++◌, ap, subst, sym}
use Rattle.tk_rounds.specs.Bench.{AllReady, IsReadyController, IsReadyNode, controller_number, node_number}
use Rattle.tk_program_tests.proofs.Ready.{more_ready, none_ready}
use Rattle.tk_program_tests.proofs.begun.pair.Goals as goal

pub returns-clause-controllers : goal.returns-clause-controllers
returns-clause-controllers g c =
    let items = c.in_ok-push.ensures.items ∙ ap (λ xs. xs ++ c.controller.result ∷ []) c.new-controllers.ensures.items in
    subst (AllReady controller_number IsReadyController []) (sym items)
    (more_ready controller_number IsReadyController [] [] c.controller.result (none_ready controller_number IsReadyController []) c.controller.ensures.number c.controller.ensures.ready)

pub returns-clause-nodes : goal.returns-clause-nodes
returns-clause-nodes g c =
    let items = c.in_ok-push-2.ensures.items ∙ ap (λ xs. xs ++ c.node.result ∷ []) c.new-kubelets.ensures.items in
    subst (AllReady node_number (IsReadyNode _ _) []) (sym items)
    (more_ready node_number (IsReadyNode _ _) [] [] c.node.result (none_ready node_number (IsReadyNode _ _) []) c.node.ensures.number c.node.ensures.ready)

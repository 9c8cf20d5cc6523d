use Rattle.tk_program_tests.proofs.Ready.{node_ready}
use Rattle.tk_program_tests.proofs.begun.node.Goals as goal

pub returns-clause-ready : goal.returns-clause-ready
returns-clause-ready g c =
    node_ready _ _ c.new_node-node.result c.begin.new.self c.args.number c.new.result c.new_node-node.ensures.unseen c.new_node-node.ensures.silent c.begin.ensures c.nothing_is_met.ensures

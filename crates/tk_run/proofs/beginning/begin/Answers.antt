use Rattle.std.proofs.Common.{sym}
use Rattle.tk_rounds.proofs.Parts.{slice_back}
use Rattle.tk_run.proofs.beginning.begin.Goals as goal

pub returns-clause-nodes : goal.returns-clause-nodes
returns-clause-nodes g c root all =
    let back = slice_back c.args.bench.now.kubelets.len c.begin_nodes.new.nodes c.as_mut_slice-2.result.now c.args.bench.now.kubelets.items c.as_mut_slice-2.ensures.value c.as_mut_slice-2.ensures.len c.begin_nodes.ensures.count in
    rw (back, sym c.as_mut_slice-2.ensures.value) (c.begin_nodes.ensures.begun root all)

use Rattle.std.proofs.Common.{◌≡◌, List, Some, arith, length, refl, ◌∙◌, ap, subst, sym}
use Rattle.std.specs.Prelude.{slice_get}
use Rattle.tk_journal.proofs.Attempts.{get_below}
use Rattle.tk_rounds.proofs.Parts.{slice_back}
use Rattle.tk_run.proofs.Onward.{goes_killed, ready_killed}
use Rattle.tk_run.proofs.killing.kill_all.Goals as goal

pub kill_nodes-requires-clause-ready : goal.kill_nodes-requires-clause-ready
kill_nodes-requires-clause-ready g c = rw c.as_mut_slice.ensures.value c.requires.ready.nodes

pub returns-clause-ready : goal.returns-clause-ready
returns-clause-ready g c =
    let back = slice_back c.args.bench.now.kubelets.len c.kill_nodes.new.nodes c.as_mut_slice.result.now c.args.bench.now.kubelets.items c.as_mut_slice.ensures.value c.as_mut_slice.ensures.len c.kill_nodes.ensures.count in
    ready_killed g.G.Gate.answers g.K.Clock.readings g.K.Clock.last g.H.Host.told g.H.Host.faults g.H.Host.killed c.args.bench.now _ c.args.store.now.history refl (ap length back ∙ (c.kill_nodes.ensures.count ∙ ap length c.as_mut_slice.ensures.value)) (rw back c.kill_nodes.ensures.ready) c.requires.ready

pub returns-clause-goes : goal.returns-clause-goes
returns-clause-goes g c start first was =
    let back = slice_back c.args.bench.now.kubelets.len c.kill_nodes.new.nodes c.as_mut_slice.result.now c.args.bench.now.kubelets.items c.as_mut_slice.ensures.value c.as_mut_slice.ensures.len c.kill_nodes.ensures.count in
    goes_killed g.G.Gate.answers g.K.Clock.readings g.K.Clock.last g.H.Host.told g.H.Host.faults start c.args.bench.now _ first c.args.store.now.history refl refl (ap length back ∙ (c.kill_nodes.ensures.count ∙ ap length c.as_mut_slice.ensures.value)) (rw (back, sym c.as_mut_slice.ensures.value) c.kill_nodes.ensures.follow) was

pub returns-clause-settled : goal.returns-clause-settled
returns-clause-settled g c legal lived i n at =
    let back = slice_back c.args.bench.now.kubelets.len c.kill_nodes.new.nodes c.as_mut_slice.result.now c.args.bench.now.kubelets.items c.as_mut_slice.ensures.value c.as_mut_slice.ensures.len c.kill_nodes.ensures.count in
    let there = subst (λ (nodes : List _). slice_get nodes i ≡ Some n) back at in
    let within = get_below c.kill_nodes.new.nodes i n there in
    let count = c.kill_nodes.ensures.count in
    c.kill_nodes.ensures.settled legal (rw c.as_mut_slice.ensures.value lived) i n (omega (arith, within, count)) there

use Rattle.std.proofs.Common.{List, reverse, subst, sym}
use Rattle.tk_journal.specs.declared.entry.Entry.{Entry}
use Rattle.tk_script.specs.declared.pod_script.PodScript.{PodScript}
use Rattle.tk_world.specs.Nodes.{scripts_in}
use Rattle.tk_world.specs.Whole.{AreNewNodes, Stands}
use Rattle.tk_world.proofs.Started.{start_stands}
use Rattle.tk_world.proofs.world.World.new.Goals as goal

pub returns-clause-world : goal.returns-clause-world
returns-clause-world c =
    subst (λ (h : List Entry). Stands (scripts_in c.args.scripts) h 0 c.in_ok-controllers.controllers.items c.in_ok-nodes.nodes.items c.empty.result) (sym c.in_ok-store.ensures.entries)
    (start_stands (reverse c.args.admitted.entries) c.args.scripts c.args.controllers c.args.kubelets c.in_ok-controllers.controllers.items c.in_ok-nodes.nodes.items c.empty.result
    c.requires.legal c.requires.admits c.requires.rooted c.in_ok-controllers.ensures
    (subst (λ (pods : List PodScript). AreNewNodes pods c.args.kubelets c.in_ok-nodes.nodes.items) c.as_slice.ensures c.in_ok-nodes.ensures)
    c.empty.ensures c.ranges.controllers.fits c.ranges.kubelets.fits)

pub returns-clause-nodes : goal.returns-clause-nodes
returns-clause-nodes c = subst (λ (pods : List PodScript). AreNewNodes pods c.args.kubelets c.in_ok-nodes.nodes.items) c.as_slice.ensures c.in_ok-nodes.ensures

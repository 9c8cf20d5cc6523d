use Rattle.std.proofs.Common.{inr, length, sym}
use Rattle.std.specs.Prelude.{◌⊎◌}
use Rattle.tk_journal.specs.declared.entry.Entry.{Entry}
use Rattle.tk_rounds.specs.Growth.{OfOne}
use Rattle.tk_rounds.specs.Members.{of_controller, of_kubelet}
use Rattle.tk_rounds.proofs.Growing.{grows_as}
use Rattle.tk_rounds.proofs.Parts.{slice_back}
use Rattle.tk_rounds.proofs.Standing.{two_kinds}
use Rattle.tk_rounds.proofs.round.node_round.Goals as goal

pub part_beside-requires-clause-kinds : goal.part_beside-requires-clause-kinds
part_beside-requires-clause-kinds g c i j e = let apart = two_kinds j i e in (apart.1, apart.0)

pub part_beside-requires-clause-members : goal.part_beside-requires-clause-members
part_beside-requires-clause-members g c = rw c.as_mut_slice.ensures.value c.requires.nodes

pub returns-in_err-part_beside-clause-nodes : goal.returns-in_err-part_beside-clause-nodes
returns-in_err-part_beside-clause-nodes g c =
    let one = slice_back c.args.bench.now.kubelets.len c.part_beside.new.members c.as_mut_slice.result.now c.args.bench.now.kubelets.items c.as_mut_slice.ensures.value c.as_mut_slice.ensures.len c.part_beside.ensures.count in
    rw one c.part_beside.ensures.members

pub returns-in_err-part_beside-clause-grows : goal.returns-in_err-part_beside-clause-grows
returns-in_err-part_beside-clause-grows g c =
    let such = OfOne of_kubelet (length c.args.bench.now.kubelets.items) in
    grows_as such (λ (e : Entry). OfOne of_controller (length c.args.bench.now.controllers.items) e ⊎ such e) (λ e own. inr own) c.args.store.now.history c.part_beside.new.store.history (rw (sym c.as_mut_slice.ensures.value) c.part_beside.ensures.grows)

pub returns-in_err-part_beside-clause-nodes_follow : goal.returns-in_err-part_beside-clause-nodes_follow
returns-in_err-part_beside-clause-nodes_follow g c =
    let one = slice_back c.args.bench.now.kubelets.len c.part_beside.new.members c.as_mut_slice.result.now c.args.bench.now.kubelets.items c.as_mut_slice.ensures.value c.as_mut_slice.ensures.len c.part_beside.ensures.count in
    rw (one, sym c.as_mut_slice.ensures.value) c.part_beside.ensures.members_follow

pub returns-clause-nodes : goal.returns-clause-nodes
returns-clause-nodes g c =
    let one = slice_back c.args.bench.now.kubelets.len c.part_beside.new.members c.as_mut_slice.result.now c.args.bench.now.kubelets.items c.as_mut_slice.ensures.value c.as_mut_slice.ensures.len c.part_beside.ensures.count in
    rw one c.part_beside.ensures.members

pub returns-clause-grows : goal.returns-clause-grows
returns-clause-grows g c =
    let such = OfOne of_kubelet (length c.args.bench.now.kubelets.items) in
    grows_as such (λ (e : Entry). OfOne of_controller (length c.args.bench.now.controllers.items) e ⊎ such e) (λ e own. inr own) c.args.store.now.history c.part_beside.new.store.history (rw (sym c.as_mut_slice.ensures.value) c.part_beside.ensures.grows)

pub returns-clause-nodes_follow : goal.returns-clause-nodes_follow
returns-clause-nodes_follow g c =
    let one = slice_back c.args.bench.now.kubelets.len c.part_beside.new.members c.as_mut_slice.result.now c.args.bench.now.kubelets.items c.as_mut_slice.ensures.value c.as_mut_slice.ensures.len c.part_beside.ensures.count in
    rw (one, sym c.as_mut_slice.ensures.value) c.part_beside.ensures.members_follow

pub part_beside-requires-clause-beside : goal.part_beside-requires-clause-beside
part_beside-requires-clause-beside g c = rw c.as_slice.ensures.value c.requires.controllers

pub returns-in_err-part_beside-clause-controllers : goal.returns-in_err-part_beside-clause-controllers
returns-in_err-part_beside-clause-controllers g c = rw (sym c.as_slice.ensures.value) c.part_beside.ensures.beside

pub returns-clause-controllers : goal.returns-clause-controllers
returns-clause-controllers g c = rw (sym c.as_slice.ensures.value) c.part_beside.ensures.beside

pub returns-in_err-part_beside-clause-controllers_follow : goal.returns-in_err-part_beside-clause-controllers_follow
returns-in_err-part_beside-clause-controllers_follow g c = rw (sym c.as_slice.ensures.value) c.part_beside.ensures.beside_follow

pub returns-clause-controllers_follow : goal.returns-clause-controllers_follow
returns-clause-controllers_follow g c = rw (sym c.as_slice.ensures.value) c.part_beside.ensures.beside_follow

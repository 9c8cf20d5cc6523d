use Rattle.std.proofs.Common.{All, subst, sym}
use Rattle.std.proofs.lemmas.List.Elements.{All-same}
use Rattle.tk_types.specs.declared.run.RunSpec.{RunSpec}
use Rattle.tk_child_names.specs.Children.{HasFewChildren, ReadsItsMatrix}
use Rattle.tk_child_names.proofs.Parts.{all_back, all_front}
use Rattle.tk_child_names.proofs.names.add_run_names.Goals as goal

pub add_tasks_names-requires-clause-readable : goal.add_tasks_names-requires-clause-readable
add_tasks_names-requires-clause-readable c =
    let spec = c.args.spec.now in
    All-same ReadsItsMatrix c.as_slice.result.now spec.tasks c.as_slice.ensures (all_front ReadsItsMatrix spec.tasks spec.finally c.requires.readable)

pub add_tasks_names-requires-clause-few : goal.add_tasks_names-requires-clause-few
add_tasks_names-requires-clause-few c =
    let spec = c.args.spec.now in
    subst (λ (s : RunSpec). All (HasFewChildren s) c.as_slice.result.now) (sym c.in_ok-values.ensures)
    (All-same (HasFewChildren spec) c.as_slice.result.now spec.tasks c.as_slice.ensures (all_front (HasFewChildren spec) spec.tasks spec.finally c.requires.few))

pub add_tasks_names-requires-2-clause-readable : goal.add_tasks_names-requires-2-clause-readable
add_tasks_names-requires-2-clause-readable c =
    let spec = c.args.spec.now in
    All-same ReadsItsMatrix c.as_slice-2.result.now spec.finally c.as_slice-2.ensures (all_back ReadsItsMatrix spec.tasks spec.finally c.requires.readable)

pub add_tasks_names-requires-2-clause-few : goal.add_tasks_names-requires-2-clause-few
add_tasks_names-requires-2-clause-few c =
    let spec = c.args.spec.now in
    subst (λ (s : RunSpec). All (HasFewChildren s) c.as_slice-2.result.now) (sym c.in_ok-values.ensures)
    (All-same (HasFewChildren spec) c.as_slice-2.result.now spec.finally c.as_slice-2.ensures (all_back (HasFewChildren spec) spec.tasks spec.finally c.requires.few))

use Rattle.std.proofs.Common.{◌≡◌, List, ◌++◌, sym, ap, subst, ◌∙◌}
use Rattle.std.proofs.lemmas.Result.{IfOk-weaker}
use Rattle.tk_types.specs.declared.run.Child.{Child}
use Rattle.tk_types.specs.declared.run.Facts.{Facts}
use Rattle.tk_verdict.specs.Labels.{labels_of}
use Rattle.tk_verdict.specs.WellFormed.{IsWellFormed}
use Rattle.tk_labels.specs.Change.{children_with}
use Rattle.tk_labels.specs.Kept.{of_run}
use Rattle.tk_labels.specs.Reached.{WasKept}
use Rattle.tk_labels.proofs.Changes.{given_formed}
use Rattle.tk_labels.proofs.KeptAfter.{given_kept}
use Rattle.tk_labels.proofs.labels.given.Goals as goal

pub relabelled-requires-clause-formed : goal.relabelled-requires-clause-formed
relabelled-requires-clause-formed c =
    subst (λ (cs : List Child). IsWellFormed (of_run c.args.run.now cs)) (sym (c.as_slice.ensures.value ∙ c.in_ok-add.ensures.ok))
    (given_formed (of_run c.args.run.now c.args.children.now.items) c.requires.kept.formed c.args.task c.args.outcomes.now c.requires.may)

pub returns-clause-labels : goal.returns-clause-labels
returns-clause-labels c =
    let run = c.args.run.now in
    let old : Facts = of_run run c.args.children.now.items in
    let all : c.as_slice.result.now ≡ c.args.children.now.items ++ children_with c.args.task c.args.outcomes.now = c.as_slice.ensures.value ∙ c.in_ok-add.ensures.ok in
    let kept : WasKept old (of_run run c.as_slice.result.now) c.args.task c.args.was.now
    = subst (λ (cs : List Child). WasKept old (of_run run cs) c.args.task c.args.was.now) (sym all)
    (given_kept old c.requires.kept.formed c.args.was.now c.requires.kept.labelled c.args.task c.args.outcomes.now c.requires.may) in
    IfOk-weaker c.relabelled.result _ _ (λ labels is. is old kept ∙ ap (λ (cs : List Child). labels_of (of_run run cs)) all) c.relabelled.ensures

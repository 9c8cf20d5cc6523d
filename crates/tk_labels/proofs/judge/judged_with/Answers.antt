use Rattle.std.proofs.Common.{List, map, refl, ap, slice_get, ◌∙◌, arith}
use Rattle.std.proofs.lemmas.Result.{IfOk-weaker}
use Rattle.tk_types.specs.declared.run.Child.{Child}
use Rattle.tk_types.specs.declared.run.Facts.{Facts}
use Rattle.tk_types.specs.declared.run.Stop.{Stop}
use Rattle.tk_types.specs.declared.verdict.Verdict.TheVariants.{Ready}
use Rattle.tk_verdict.specs.Facts.{children_at, first_stop}
use Rattle.tk_verdict.specs.Labels.{label_by}
use Rattle.tk_verdict.specs.Readings.{ReadsBody}
use Rattle.tk_verdict.proofs.Formed.{readable}
use Rattle.tk_verdict.proofs.Reading.{read_found, read_has}
use Rattle.tk_verdict.proofs.TaskLine.{blocked_line, good_line, line_at, waiting_line}
use Rattle.tk_labels.specs.Kept.{of_run}
use Rattle.tk_labels.proofs.judge.judged_with.Goals as goal
use denote.Bor.{Bor}

pub good_row-requires : goal.good_row-requires
good_row-requires c =
    let all = readable (of_run c.args.run.now c.args.kids.now) c.requires.formed in
    read_has ReadsBody c.as_slice-2.result.now c.args.run.now.spec.bodies c.args.place c.index-as_slice-place-2.result all.bodies (omega (arith, c.requires.exists, all.one_body_each)) c.as_slice-2.ensures c.index-as_slice-place-2.is

pub returns-then-is_blocked : goal.returns-then-is_blocked
returns-then-is_blocked c =
    let facts : Facts = of_run c.args.run.now c.args.kids.now in
    let found = read_found c.as_slice.result.now facts.spec.tasks c.args.place c.index-as_slice-place.result c.requires.exists c.as_slice.ensures c.index-as_slice-place.is in
    let stop = c.copied-stop.ensures ∙ (c.first.ensures.value ∙ ap (λ (ss : List Stop). slice_get ss 0) c.as_slice-3.ensures) in
    IfOk-weaker c.blocked_label.result _ _
    (λ label is.
    blocked_line facts c.args.labels.now c.args.parents.now c.args.place c.index-as_slice-place.result _ c.copied-stop.result label c.if-is_blocked.ensures c.requires.children stop is
    ∙ line_at facts c.args.labels.now c.args.place c.index-as_slice-place.result c.args.parents.now found c.requires.parents)
    c.blocked_label.ensures

pub returns-then-not-are_good : goal.returns-then-not-are_good
returns-then-not-are_good c =
    let facts : Facts = of_run c.args.run.now c.args.kids.now in
    let task = c.index-as_slice-place.result in
    let found = read_found c.as_slice.result.now facts.spec.tasks c.args.place task c.requires.exists c.as_slice.ensures c.index-as_slice-place.is in
    IfOk-weaker c.waiting_label.result _ _
    (λ label is.
    waiting_line facts c.args.labels.now c.args.parents.now c.args.place task (children_at c.args.kids.now c.args.place) (first_stop facts) label c.if-is_blocked.ensures c.if-not-are_good.ensures refl refl (is task found)
    ∙ line_at facts c.args.labels.now c.args.place task c.args.parents.now found c.requires.parents)
    c.waiting_label.ensures

pub returns : goal.returns
returns c =
    let facts : Facts = of_run c.args.run.now c.args.kids.now in
    let all = readable facts c.requires.formed in
    let task = c.index-as_slice-place.result in
    let found = read_found c.as_slice.result.now facts.spec.tasks c.args.place task c.requires.exists c.as_slice.ensures c.index-as_slice-place.is in
    let body = read_found c.as_slice-2.result.now facts.spec.bodies c.args.place c.index-as_slice-place-2.result (omega (arith, c.requires.exists, all.one_body_each)) c.as_slice-2.ensures c.index-as_slice-place-2.is in
    let stop = c.copied-stop.ensures ∙ (c.first.ensures.value ∙ ap (λ (ss : List Stop). slice_get ss 0) c.as_slice-3.ensures) in
    let now : List Child = map (λ (b : Bor Child). b.now) c.args.children.now in
    let own = c.in_ok-own.ensures task found in
    let row = c.in_ok-row.ensures c.args.kids.now own in
    IfOk-weaker c.label_by.result _ _
    (λ label is.
    good_line facts c.args.labels.now c.args.parents.now c.args.place task c.index-as_slice-place-2.result now c.copied-stop.result label c.if-is_blocked.ensures c.if-not-are_good.ensures c.requires.children stop body
    (is ∙ (λ i. label_by now (own i).combined.list (row i) c.copied-stop.result Ready))
    ∙ line_at facts c.args.labels.now c.args.place task c.args.parents.now found c.requires.parents)
    c.label_by.ensures

use Rattle.std.proofs.Common.{List, map, slice_get, ap, ◌∙◌, arith}
use Rattle.std.proofs.lemmas.Result.{IfOk-weaker}
use Rattle.tk_types.specs.declared.run.Child.{Child}
use Rattle.tk_types.specs.declared.run.Stop.{Stop}
use Rattle.tk_types.specs.declared.verdict.Verdict.TheVariants.{Ready}
use Rattle.tk_verdict.specs.Facts.{children_at}
use Rattle.tk_verdict.specs.Labels.{label_by}
use Rattle.tk_verdict.specs.Readings.{ReadsBody, ReadsTask}
use Rattle.tk_verdict.proofs.Reading.{read_found, read_has}
use Rattle.tk_verdict.proofs.TaskLine.{blocked_line, good_line, line_at, waiting_line}
use Rattle.tk_verdict.proofs.tasks.judge_task.Goals as goal
use denote.Bor.{Bor}

pub waiting_label-requires-clause-reads : goal.waiting_label-requires-clause-reads
waiting_label-requires-clause-reads c =
    read_has ReadsTask c.as_slice.result.now c.args.facts.now.spec.tasks c.args.place c.index-as_slice-place.result c.requires.readable.tasks c.requires.exists c.as_slice.ensures c.index-as_slice-place.is

pub task_own-requires-clause-reads : goal.task_own-requires-clause-reads
task_own-requires-clause-reads c =
    read_has ReadsTask c.as_slice.result.now c.args.facts.now.spec.tasks c.args.place c.index-as_slice-place.result c.requires.readable.tasks c.requires.exists c.as_slice.ensures c.index-as_slice-place.is

pub good_row-requires-clause-reads : goal.good_row-requires-clause-reads
good_row-requires-clause-reads c =
    read_has ReadsBody c.as_slice-2.result.now c.args.facts.now.spec.bodies c.args.place c.index-as_slice-place-2.result c.requires.readable.bodies (omega (arith, c.requires.exists, c.requires.readable.one_body_each)) c.as_slice-2.ensures c.index-as_slice-place-2.is

pub returns-then-is_blocked : goal.returns-then-is_blocked
returns-then-is_blocked c =
    let facts = c.args.facts.now in
    let found = read_found c.as_slice.result.now facts.spec.tasks c.args.place c.index-as_slice-place.result c.requires.exists c.as_slice.ensures c.index-as_slice-place.is in
    let children = c.at-children.ensures ∙ ap (λ (cs : List Child). children_at cs c.args.place) c.requires.gathered.all_children in
    let stop = c.copied-stop.ensures ∙ (c.first.ensures.value ∙ ap (λ (ss : List Stop). slice_get ss 0) c.as_slice-3.ensures) in
    IfOk-weaker c.blocked_label.result _ _
    (λ label is.
    blocked_line facts c.args.labels.now c.args.parents.now c.args.place c.index-as_slice-place.result _ c.copied-stop.result label c.if-is_blocked.ensures children stop is
    ∙ line_at facts c.args.labels.now c.args.place c.index-as_slice-place.result c.args.parents.now found c.requires.parents)
    c.blocked_label.ensures

pub returns-then-not-are_good : goal.returns-then-not-are_good
returns-then-not-are_good c =
    let facts = c.args.facts.now in
    let found = read_found c.as_slice.result.now facts.spec.tasks c.args.place c.index-as_slice-place.result c.requires.exists c.as_slice.ensures c.index-as_slice-place.is in
    let children = c.at-children.ensures ∙ ap (λ (cs : List Child). children_at cs c.args.place) c.requires.gathered.all_children in
    let stop = c.copied-stop.ensures ∙ (c.first.ensures.value ∙ ap (λ (ss : List Stop). slice_get ss 0) c.as_slice-3.ensures) in
    IfOk-weaker c.waiting_label.result _ _
    (λ label is.
    waiting_line facts c.args.labels.now c.args.parents.now c.args.place c.index-as_slice-place.result _ c.copied-stop.result label c.if-is_blocked.ensures c.if-not-are_good.ensures children stop is
    ∙ line_at facts c.args.labels.now c.args.place c.index-as_slice-place.result c.args.parents.now found c.requires.parents)
    c.waiting_label.ensures

pub returns : goal.returns
returns c =
    let facts = c.args.facts.now in
    let task = c.index-as_slice-place.result in
    let found = read_found c.as_slice.result.now facts.spec.tasks c.args.place task c.requires.exists c.as_slice.ensures c.index-as_slice-place.is in
    let body = read_found c.as_slice-2.result.now facts.spec.bodies c.args.place c.index-as_slice-place-2.result (omega (arith, c.requires.exists, c.requires.readable.one_body_each)) c.as_slice-2.ensures c.index-as_slice-place-2.is in
    let children = c.at-children.ensures ∙ ap (λ (cs : List Child). children_at cs c.args.place) c.requires.gathered.all_children in
    let stop = c.copied-stop.ensures ∙ (c.first.ensures.value ∙ ap (λ (ss : List Stop). slice_get ss 0) c.as_slice-3.ensures) in
    let now : List Child = map (λ (b : Bor Child). b.now) c.at-children.result.now in
    IfOk-weaker c.label_by.result _ _
    (λ label is.
    good_line facts c.args.labels.now c.args.parents.now c.args.place task c.index-as_slice-place-2.result now c.copied-stop.result label c.if-is_blocked.ensures c.if-not-are_good.ensures children stop body
    (is ∙ (λ i. label_by now (c.in_ok-own.ensures i).combined.list (c.in_ok-row.ensures i) c.copied-stop.result Ready))
    ∙ line_at facts c.args.labels.now c.args.place task c.args.parents.now found c.requires.parents)
    c.label_by.ensures

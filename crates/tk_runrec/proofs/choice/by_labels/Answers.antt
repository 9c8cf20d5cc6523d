use Rattle.std.proofs.Common.{◌≡◌, ◌+◌, List, length, Option, None, refl, ap, sym, subst, ◌∙◌, arith}
use Rattle.std.specs.Prelude.{IfOk}
use Rattle.tk_types.specs.declared.run.Child.{Child}
use Rattle.tk_types.specs.declared.run.Facts.{Facts}
use Rattle.tk_types.specs.declared.verdict.Verdict.{Verdict}
use Rattle.tk_cache.specs.Views.{seen}
use Rattle.tk_journal.specs.declared.act.Act.{Act}
use Rattle.tk_journal.specs.Effects.{task_count}
use Rattle.tk_verdict.proofs.Lines.{labels_length}
use Rattle.tk_runrec.specs.Choice.{seen_children, close, halt, start, cancel, make_first, schedule}
use Rattle.tk_runrec.proofs.Table.{middle_gives, middle_misses}
use Rattle.tk_runrec.proofs.choice.by_labels.Goals as goal

pub halt-requires : goal.halt-requires
halt-requires c =
    let long = labels_length c.args.kept.now in
    let same = ap (λ (labels : List Verdict). length labels) c.requires.labels in
    let spec = ap (λ (facts : Facts). task_count facts.spec) c.requires.facts in
    let sum : task_count c.args.run.now.spec ≡ length c.args.run.now.spec.tasks + length c.args.run.now.spec.finally = refl in
    record { apart = c.requires.fit.once; same = ap (λ (facts : Facts). facts.spec) c.requires.facts; long = omega (arith, long, same, spec, sum) }

pub returns-in-Some-3 : goal.returns-in-Some-3
returns-in-Some-3 c =
    let view = (seen c.args.cache.now).view in
    let name = c.args.name.now in
    let run = c.args.run.now in
    let labels = c.args.labels.now in
    let closes : close view name run labels ≡ None = sym c.in_ok-act.ensures ∙ c.in_default.is in
    let halts : halt c.args.moment name run (seen_children view run) labels ≡ None =
    ap (λ (children : List Child). halt c.args.moment name run children labels) (ap (λ (facts : Facts). facts.children) (sym c.requires.facts)) ∙ sym c.in_ok-act-2.ensures ∙ c.in_default-2.is in
    middle_gives (close view name run labels) (halt c.args.moment name run (seen_children view run) labels) (start name run) (cancel view name run) (make_first view name run) (schedule view name run labels) c.in-Some-3.act
    closes halts (sym c.in_ok-act-3.ensures ∙ c.in-Some-3.is)

pub returns : goal.returns
returns c =
    let view = (seen c.args.cache.now).view in
    let name = c.args.name.now in
    let run = c.args.run.now in
    let labels = c.args.labels.now in
    let closes : close view name run labels ≡ None = sym c.in_ok-act.ensures ∙ c.in_default.is in
    let halts : halt c.args.moment name run (seen_children view run) labels ≡ None =
    ap (λ (children : List Child). halt c.args.moment name run children labels) (ap (λ (facts : Facts). facts.children) (sym c.requires.facts)) ∙ sym c.in_ok-act-2.ensures ∙ c.in_default-2.is in
    let same = middle_misses (close view name run labels) (halt c.args.moment name run (seen_children view run) labels) (start name run) (cancel view name run) (make_first view name run) (schedule view name run labels)
    closes halts (sym c.in_ok-act-3.ensures ∙ c.in_default-3.is) in
    subst (λ (chosen : Option Act). IfOk c.schedule.result (λ (act : Option Act). act ≡ chosen)) same c.schedule.ensures

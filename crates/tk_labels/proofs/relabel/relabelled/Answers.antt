use Rattle.std.proofs.Common.{◌≡◌, ◌<◌, false, List, ◌++◌, length, ℕ, sym, ap, subst, ◌∙◌}
use Rattle.std.specs.Prelude.{nat_le, replicate}
use Rattle.std.specs.List.{list_all, list_any}
use Rattle.tk_types.specs.declared.run.Child.{Child}
use Rattle.tk_types.specs.declared.run.Facts.{Facts}
use Rattle.tk_types.specs.declared.verdict.Verdict.{Verdict}
use Rattle.tk_types.specs.declared.verdict.Verdict.TheVariants.{Waits}
use Rattle.tk_verdict.specs.Labels.{IsRight, verdict_line}
use Rattle.tk_verdict.specs.Verdict.{is_done, label_at}
use Rattle.tk_labels.specs.Kept.{of_run}
use Rattle.tk_labels.specs.Reached.{WasKept}
use Rattle.tk_labels.proofs.Relabelled.{early_right}
use Rattle.tk_labels.proofs.relabel.relabelled.Goals as goal

pub returns : goal.returns
returns c = λ old was.
    let facts : Facts = of_run c.args.run.now c.args.children.now in
    let same : of_run c.args.run.now c.new-kids.result ≡ facts = ap (of_run c.args.run.now) c.new-kids.ensures in
    let ys : List Verdict = c.in_ok-labels.labels.items in
    let grown : c.push_waits.new.labels.items ≡ ys ++ replicate (length facts.spec.finally) Waits
    = c.in_ok-push_waits.ensures ∙ ap (λ (n : ℕ). ys ++ replicate n Waits) c.len-2.ensures in
    let none : list_any (λ (d : Child). nat_le (length facts.spec.tasks) d.task) facts.children ≡ false
    = ap (λ (n : ℕ). list_any (λ (d : Child). nat_le n d.task) facts.children) (sym c.len.ensures) ∙ sym c.if-has_late_child.ensures in
    let undone : list_all is_done ys ≡ false = ap (list_all is_done) (sym c.as_slice.ensures.value) ∙ sym c.if-are_all_done.ensures in
    let right = subst (λ (f : Facts). (place : ℕ) → place < length c.args.run.now.spec.tasks → label_at ys place ≡ verdict_line f ys place) same
    (c.in_ok-labels.ensures.right old (subst (λ (f : Facts). WasKept old f c.args.task c.args.was.now) (sym same) was)) in
    c.one_labelling.ensures.only facts c.push_waits.new.labels.items c.requires.formed.acyclic
    (subst (IsRight facts) (sym grown) (early_right facts ys c.in_ok-labels.ensures.count right none undone))

use Rattle.std.proofs.Common.{◌≡◌, ◌+◌, List, ◌++◌, length, refl, sym, ap, subst, ◌∙◌, arith}
use Rattle.std.specs.List.{list_any}
use Rattle.tk_types.specs.declared.run.Child.{Child}
use Rattle.tk_types.specs.declared.run.Facts.{Facts}
use Rattle.tk_verdict.specs.Labels.{labels_of}
use Rattle.tk_verdict.specs.WellFormed.{IsWellFormed}
use Rattle.tk_labels.specs.Change.{children_with}
use Rattle.tk_labels.specs.Kept.{is_bad, of_run, MayHave}
use Rattle.tk_labels.specs.declared.spans.Span.{Span}
use Rattle.tk_labels.specs.Spans.{AreSpanned, HasSpan}
use Rattle.tk_labels.proofs.Changes.{given_formed}
use Rattle.tk_labels.proofs.Spanned.{given_spanned}
use Rattle.tk_labels.proofs.labels.Labels.give.Goals as goal

pub given-made-requires-clause-spanned : goal.given-made-requires-clause-spanned
given-made-requires-clause-spanned c =
    let run = c.self.inside.run in
    let cs : List Child = c.self.inside.children.items in
    let old : Facts = of_run run cs in
    let may : MayHave old c.args.task (length c.args.outcomes.now) = subst (λ (f : Facts). MayHave f c.args.task (length c.args.outcomes.now)) (sym c.self.view_is) c.requires in
    let first : c.len-from.result ≡ length cs = omega (arith, c.len-from.ensures) in
    let has = subst (λ (ss : List Span). HasSpan c.args.task (record { from = c.len-from.result; to = c.len-from.result + length c.args.outcomes.now }) ss c.in_ok-spans.spans.items) c.as_slice.ensures.value c.in_ok-spans.ensures in
    subst (λ (ss : List Span). AreSpanned (cs ++ children_with c.args.task c.args.outcomes.now) ss) (sym c.as_slice-2.ensures.value)
    (given_spanned cs c.args.task c.args.outcomes.now c.len-from.result (c.len-from.result + length c.args.outcomes.now) c.self.inside.spans.items c.in_ok-spans.spans.items first refl c.self.invariant.spanned may.none has)

pub invariant_of-self : goal.invariant_of-self
invariant_of-self c =
    let run = c.self.inside.run in
    let cs : List Child = c.self.inside.children.items in
    let old : Facts = of_run run cs in
    let may : MayHave old c.args.task (length c.args.outcomes.now) = subst (λ (f : Facts). MayHave f c.args.task (length c.args.outcomes.now)) (sym c.self.view_is) c.requires in
    let first : c.len-from.result ≡ length cs = omega (arith, c.len-from.ensures) in
    let has = subst (λ (ss : List Span). HasSpan c.args.task (record { from = c.len-from.result; to = c.len-from.result + length c.args.outcomes.now }) ss c.in_ok-spans.spans.items) c.as_slice.ensures.value c.in_ok-spans.ensures in
    record {
      kept = record {
        formed = subst (λ (xs : List Child). IsWellFormed (of_run run xs)) (sym c.in-Ok.ensures.added) (given_formed old c.self.invariant.kept.formed c.args.task c.args.outcomes.now may);
        above = c.self.invariant.kept.above;
        ranked = c.self.invariant.kept.ranked;
        labelled = c.of.ensures ∙ (c.in-Ok.ensures.labels ∙ ap (λ (xs : List Child). labels_of (of_run run xs)) (sym c.in-Ok.ensures.added));
      };
      spanned = subst (λ (xs : List Child). AreSpanned xs c.in_ok-spans.spans.items) (sym c.in-Ok.ensures.added)
          (given_spanned cs c.args.task c.args.outcomes.now c.len-from.result (c.len-from.result + length c.args.outcomes.now) c.self.inside.spans.items c.in_ok-spans.spans.items first refl c.self.invariant.spanned may.none has);
      bad = c.any_bad-self-inside.ensures ∙ ap (list_any (is_bad run.spec)) c.as_slice-in-Ok.ensures.value;
    }

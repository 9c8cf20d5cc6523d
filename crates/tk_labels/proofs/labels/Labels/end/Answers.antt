use Rattle.std.proofs.Common.{◌≡◌, ◌<◌, List, length, map, set, Some, None, sym, ap, subst, ◌∙◌, arith}
use Rattle.std.specs.Prelude.{Contains, slice_get}
use Rattle.std.specs.List.{list_any}
use Rattle.std.proofs.lemmas.List.{length-set}
use Rattle.std.proofs.lemmas.Option.{slice_get_within}
use Rattle.tk_types.specs.declared.run.Child.{Child}
use Rattle.tk_types.specs.declared.run.Facts.{Facts}
use Rattle.tk_verdict.specs.declared.sequence.Ranked.{Ranked}
use Rattle.tk_verdict.specs.Labels.{labels_of}
use Rattle.tk_verdict.specs.WellFormed.{IsWellFormed}
use Rattle.tk_labels.specs.Change.{once_ended}
use Rattle.tk_labels.specs.Kept.{has_bad, is_bad, of_run, IsRanked}
use Rattle.tk_labels.specs.Reached.{WasKept}
use Rattle.tk_labels.specs.declared.spans.Span.{Span}
use Rattle.tk_labels.specs.Spans.{AreSpanned}
use Rattle.tk_labels.proofs.Changes.{end_formed, ends_at, taken_back}
use Rattle.tk_labels.proofs.KeptAfter.{end_kept}
use Rattle.tk_labels.proofs.Spanned.{ended_spanned}
use Rattle.tk_labels.proofs.labels.Labels.end.Goals as goal

pub relabelled-made-requires-clause-formed : goal.relabelled-made-requires-clause-formed
relabelled-made-requires-clause-formed c =
    let run = c.self.inside.run in
    let cs : List Child = c.self.inside.children.items in
    let that : Child = record { task = c.args.task; index = c.args.index; outcome = None } in
    let place = c.place_of-place.result in
    let found : slice_get cs place ≡ Some that = ap (λ (xs : List Child). slice_get xs place) (sym c.as_slice.ensures.value) ∙ c.place_of-place.ensures in
    let ends : map (once_ended c.args.task c.args.index c.args.outcome) cs ≡ c.put.new.children.items
    = ends_at c.args.task c.args.index c.args.outcome cs place c.self.invariant.kept.formed.children_differ found ∙ sym c.put.ensures in
    subst (λ (xs : List Child). IsWellFormed (of_run run xs)) (ends ∙ sym c.as_slice-2.ensures.value)
    (end_formed (of_run run cs) c.self.invariant.kept.formed c.args.task c.args.index c.args.outcome)

pub relabelled-made-requires-clause-spanned : goal.relabelled-made-requires-clause-spanned
relabelled-made-requires-clause-spanned c =
    let cs : List Child = c.self.inside.children.items in
    let that : Child = record { task = c.args.task; index = c.args.index; outcome = None } in
    let place = c.place_of-place.result in
    let found : slice_get cs place ≡ Some that = ap (λ (xs : List Child). slice_get xs place) (sym c.as_slice.ensures.value) ∙ c.place_of-place.ensures in
    let ends : map (once_ended c.args.task c.args.index c.args.outcome) cs ≡ c.put.new.children.items
    = ends_at c.args.task c.args.index c.args.outcome cs place c.self.invariant.kept.formed.children_differ found ∙ sym c.put.ensures in
    subst (λ (ss : List Span). AreSpanned c.as_slice-2.result.now ss) (sym c.as_slice-3.ensures.value)
    (subst (λ (xs : List Child). AreSpanned xs c.self.inside.spans.items) (ends ∙ sym c.as_slice-2.ensures.value)
    (ended_spanned c.args.task c.args.index c.args.outcome cs c.self.inside.spans.items c.self.invariant.spanned))

pub relabelled-made-requires-clause-parents : goal.relabelled-made-requires-clause-parents
relabelled-made-requires-clause-parents c = c.as_slice-4.ensures ∙ c.self.invariant.kept.above

pub relabelled-made-requires-clause-ranked : goal.relabelled-made-requires-clause-ranked
relabelled-made-requires-clause-ranked c = subst (λ (s : List Ranked). IsRanked c.self.inside.run.spec.tasks s) (sym c.as_slice-5.ensures.value) c.self.invariant.kept.ranked

pub invariant_of-self : goal.invariant_of-self
invariant_of-self c =
    let run = c.self.inside.run in
    let cs : List Child = c.self.inside.children.items in
    let that : Child = record { task = c.args.task; index = c.args.index; outcome = None } in
    let place = c.place_of-place.result in
    let found : slice_get cs place ≡ Some that = ap (λ (xs : List Child). slice_get xs place) (sym c.as_slice.ensures.value) ∙ c.place_of-place.ensures in
    let ends : map (once_ended c.args.task c.args.index c.args.outcome) cs ≡ c.put.new.children.items
    = ends_at c.args.task c.args.index c.args.outcome cs place c.self.invariant.kept.formed.children_differ found ∙ sym c.put.ensures in
    let old : Facts = of_run run cs in
    let there : Contains cs that = subst (λ (f : Facts). Contains f.children that) (sym c.self.view_is) c.requires in
    let was : WasKept old (of_run run (map (once_ended c.args.task c.args.index c.args.outcome) cs)) c.args.task c.as_slice-6.result.now
    = end_kept old c.self.invariant.kept.formed c.as_slice-6.result.now (c.as_slice-6.ensures ∙ c.self.invariant.kept.labelled) c.args.task c.args.index c.args.outcome there in
    let now : WasKept old (of_run run c.as_slice-2.result.now) c.args.task c.as_slice-6.result.now
    = subst (λ (xs : List Child). WasKept old (of_run run xs) c.args.task c.as_slice-6.result.now) (ends ∙ sym c.as_slice-2.ensures.value) was in
    record {
      kept = record {
        formed = subst (λ (xs : List Child). IsWellFormed (of_run run xs)) ends (end_formed old c.self.invariant.kept.formed c.args.task c.args.index c.args.outcome);
        above = c.self.invariant.kept.above;
        ranked = c.self.invariant.kept.ranked;
        labelled = c.of.ensures ∙ c.in-Ok.ensures old now ∙ ap (λ (xs : List Child). labels_of (of_run run xs)) c.as_slice-2.ensures.value;
      };
      spanned = subst (λ (xs : List Child). AreSpanned xs c.self.inside.spans.items) ends (ended_spanned c.args.task c.args.index c.args.outcome cs c.self.inside.spans.items c.self.invariant.spanned);
      bad = c.any_bad-self-inside.ensures ∙ ap (list_any (is_bad run.spec)) c.as_slice-in-Ok.ensures.value;
    }

pub put-requires-in-Err : goal.put-requires-in-Err
put-requires-in-Err c =
    let cs : List Child = c.self.inside.children.items in
    let that : Child = record { task = c.args.task; index = c.args.index; outcome = None } in
    let place = c.place_of-place.result in
    let found : slice_get cs place ≡ Some that = ap (λ (xs : List Child). slice_get xs place) (sym c.as_slice.ensures.value) ∙ c.place_of-place.ensures in
    let long : length c.put.new.children.items ≡ length cs = ap length c.put.ensures ∙ length-set cs place (record { task = c.args.task; index = c.args.index; outcome = Some c.args.outcome }) in
    let within : place < length cs = slice_get_within cs place that found in
    omega (arith, long, within)

pub invariant_of-self-in-Err : goal.invariant_of-self-in-Err
invariant_of-self-in-Err c =
    let run = c.self.inside.run in
    let cs : List Child = c.self.inside.children.items in
    let that : Child = record { task = c.args.task; index = c.args.index; outcome = None } in
    let place = c.place_of-place.result in
    let found : slice_get cs place ≡ Some that = ap (λ (xs : List Child). slice_get xs place) (sym c.as_slice.ensures.value) ∙ c.place_of-place.ensures in
    let back : c.put-in-Err.new.children.items ≡ cs
    = c.put-in-Err.ensures ∙ (ap (λ (xs : List Child). set xs place that) c.put.ensures ∙ taken_back cs place that (record { task = c.args.task; index = c.args.index; outcome = Some c.args.outcome }) found) in
    record {
      kept = record {
        formed = subst (λ (xs : List Child). IsWellFormed (of_run run xs)) (sym back) c.self.invariant.kept.formed;
        above = c.self.invariant.kept.above;
        ranked = c.self.invariant.kept.ranked;
        labelled = c.self.invariant.kept.labelled ∙ ap (λ (xs : List Child). labels_of (of_run run xs)) (sym back);
      };
      spanned = subst (λ (xs : List Child). AreSpanned xs c.self.inside.spans.items) (sym back) c.self.invariant.spanned;
      bad = c.self.invariant.bad ∙ ap (λ (xs : List Child). has_bad (of_run run xs)) (sym back);
    }

pub returns-in-Ok-clause-ok : goal.returns-in-Ok-clause-ok
returns-in-Ok-clause-ok c =
    let run = c.self.inside.run in
    let cs : List Child = c.self.inside.children.items in
    let that : Child = record { task = c.args.task; index = c.args.index; outcome = None } in
    let place = c.place_of-place.result in
    let found : slice_get cs place ≡ Some that = ap (λ (xs : List Child). slice_get xs place) (sym c.as_slice.ensures.value) ∙ c.place_of-place.ensures in
    let ends : map (once_ended c.args.task c.args.index c.args.outcome) cs ≡ c.put.new.children.items
    = ends_at c.args.task c.args.index c.args.outcome cs place c.self.invariant.kept.formed.children_differ found ∙ sym c.put.ensures in
    ap (of_run run) (sym ends) ∙ ap (λ (facts : Facts). of_run facts (map (once_ended c.args.task c.args.index c.args.outcome) facts.children)) c.self.view_is

pub returns-in-Err-clause-err : goal.returns-in-Err-clause-err
returns-in-Err-clause-err c =
    let run = c.self.inside.run in
    let cs : List Child = c.self.inside.children.items in
    let that : Child = record { task = c.args.task; index = c.args.index; outcome = None } in
    let place = c.place_of-place.result in
    let found : slice_get cs place ≡ Some that = ap (λ (xs : List Child). slice_get xs place) (sym c.as_slice.ensures.value) ∙ c.place_of-place.ensures in
    let back : c.put-in-Err.new.children.items ≡ cs
    = c.put-in-Err.ensures ∙ (ap (λ (xs : List Child). set xs place that) c.put.ensures ∙ taken_back cs place that (record { task = c.args.task; index = c.args.index; outcome = Some c.args.outcome }) found) in
    ap (of_run run) back ∙ c.self.view_is

use Rattle.std.proofs.Common.{◌++◌, ◌∷◌, [], List, Option, filter, map, ap, sym, ◌∙◌, zero-add}
use Rattle.std.specs.List.{range_with_len}
use Rattle.std.proofs.lemmas.List.Elements.{filter-append}
use Rattle.std.proofs.lemmas.List.FromFn.{map-range_with_len_more}
use Rattle.tk_types.specs.declared.run.Child.{Child}
use Rattle.tk_types.specs.declared.run.Outcome.{Outcome}
use Rattle.tk_cache.specs.Views.{seen}
use Rattle.tk_run_cache.specs.Follow.{child_seen, is_absent, outcome_seen}
use Rattle.tk_run_cache.proofs.children.new_children.Goals as goal

pub loop-index-preserved : goal.loop-index-preserved
loop-index-preserved c =
    let i = c.loop-index.index in
    let o = outcome_seen (seen c.args.cache.now).view.task_run c.args.spec.now c.args.task in
    let f = child_seen (seen c.args.cache.now).view.task_run c.args.spec.now c.args.task in
    let p = is_absent (seen c.args.cache.now).view.task_run c.args.spec.now in
    record {
      outcomes = c.in_ok-add_child.ensures.outcomes
          ∙ (ap (λ (xs : List (Option Outcome)). xs ++ o i ∷ []) c.loop-index.invariant.outcomes
          ∙ sym (map-range_with_len_more o 0 i i (zero-add i)));
      missing = c.in_ok-add_child.ensures.missing
          ∙ (ap (λ (xs : List Child). xs ++ filter p (f i ∷ [])) c.loop-index.invariant.missing
          ∙ (sym (filter-append p (map f (range_with_len 0 i)) (f i ∷ []))
          ∙ ap (filter p) (sym (map-range_with_len_more f 0 i i (zero-add i)))));
    }

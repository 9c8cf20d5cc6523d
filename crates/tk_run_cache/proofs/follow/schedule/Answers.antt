use Rattle.std.proofs.Common.{rules, ◌≡◌, Option, Some, length, sym, ap, subst, ◌∙◌}
use Rattle.std.specs.Prelude.{IfSome}
use Rattle.std.proofs.lemmas.List.FromFn.{length-map-range_with_len}
use Rattle.indexmap.specs.IndexMap.{get_by_text}
use Rattle.tk_labels.specs.Kept.{MayHave}
use Rattle.tk_cache.specs.Views.{seen}
use Rattle.tk_run_cache.specs.declared.step.Step.TheVariants.{Children}
use Rattle.tk_run_cache.specs.Follow.{outcome_seen, MayStep}
use Rattle.tk_run_cache.specs.Labelled.{Standing}
use Rattle.tk_run_cache.proofs.follow.schedule.Goals as goal

pub step_run-requires : goal.step_run-requires
step_run-requires c =
    let s : Standing = c.in-Some.known.now in
    let there : get_by_text c.args.runs.now c.args.name.now ≡ Some s = search rules in
    let may : MayHave s.facts c.args.task c.args.count = subst (λ (o : Option Standing). IfSome o (λ (x : Standing). MayHave x.facts c.args.task c.args.count)) there c.requires.may in
    let long : length c.in_ok-outcomes.outcomes ≡ c.args.count = ap length c.in_ok-outcomes.ensures.outcomes ∙ length-map-range_with_len (outcome_seen (seen c.args.cache.now).view.task_run c.spec.result.now c.args.task) 0 c.args.count in
    record { may = subst (λ (o : Option Standing). IfSome o (MayStep (Children c.args.task c.in_ok-outcomes.outcomes c.in_ok-outcomes.missing))) (sym there) (subst (MayHave s.facts c.args.task) (sym long) may) }

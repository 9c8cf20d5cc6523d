use Rattle.std.proofs.Common.{◌≡◌, Bool, Some, None, refl, sym, ap, ◌∙◌, subst}
use Rattle.tk_places.specs.Places.{IsPlaceOf, IsSet}
use Rattle.tk_cache.specs.Views.{seen}
use Rattle.tk_task_cache.specs.Acting.{may_act, may_act_at}
use Rattle.tk_task_cache.proofs.acting.judge.Goals as goal

pub may_act-requires : goal.may_act-requires
may_act-requires c = record { few = c.requires.few c.args.name.now c.task_run_at.result.now (c.task_run_at.ensures c.args.name.now c.in-Some.ensures.0) }

pub returns-in_default : goal.returns-in_default
returns-in_default c =
    (None, subst (IsPlaceOf (seen c.args.cache.now).view.task_runs c.args.name.now) c.in_default.is c.task_run_place.ensures, refl)

pub returns : goal.returns
returns c =
    let view = (seen c.args.cache.now).view in
    let there : view.task_run c.args.name.now ≡ Some c.task_run_at.result.now = c.task_run_at.ensures c.args.name.now c.in-Some.ensures.0 in
    let may : c.in_ok-may.may ≡ may_act view c.args.name.now = c.in_ok-may.ensures ∙ ap (may_act_at view c.args.name.now) (sym there) in
    (Some c.in-Some.place, c.in-Some.ensures, subst (λ (b : Bool). IsSet c.in-Some.place b c.args.queue.now c.set.new.self) may c.in_ok-set.ensures.ok)

use Rattle.std.proofs.Common.{Some, None, true, refl, subst}
use Rattle.tk_places.specs.Places.{IsPlaceOf}
use Rattle.tk_cache.specs.Views.{seen}
use Rattle.tk_run_cache.proofs.active.judge_by.Goals as goal

pub returns-in_default : goal.returns-in_default
returns-in_default c =
    (None, subst (IsPlaceOf (seen c.args.cache.now).view.runs c.args.name.now) c.in_default.is c.place.ensures, refl)

pub returns : goal.returns
returns c = (Some c.in-Some.place, c.in-Some.ensures, record { is_in = true; enough = λ gets. refl; set = c.in_ok-set.ensures.ok })

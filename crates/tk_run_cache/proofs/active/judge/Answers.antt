use Rattle.std.proofs.Common.{◌≡◌, Some, None, refl, sym, ap, ◌∙◌, subst}
use Rattle.tk_places.specs.Places.{IsPlaceOf}
use Rattle.tk_cache.specs.Views.{Kept, seen}
use Rattle.tk_run_cache.specs.Active.{may_get, may_get_at}
use Rattle.tk_run_cache.proofs.active.judge.Goals as goal

pub returns-in_default : goal.returns-in_default
returns-in_default c =
    (None, subst (IsPlaceOf (seen c.args.cache.now).view.runs c.args.name.now) c.in_default.is c.place.ensures, refl)

pub returns : goal.returns
returns c =
    let shown = (seen c.cache-shown.result.now).view in
    let there : shown.run c.args.name.now ≡ Some c.run_at.result.now =
    c.run_at.ensures c.args.name.now (subst (λ (k : Kept). IsPlaceOf (seen k).view.runs c.args.name.now (Some c.in-Some.place)) (sym c.cache-shown.ensures) c.in-Some.ensures).0 in
    let may : c.may_get-may.result ≡ may_get (seen c.args.cache.now).view c.args.name.now =
    c.may_get-may.ensures ∙ ap (may_get_at shown c.args.name.now) (sym there) ∙ ap (λ (k : Kept). may_get (seen k).view c.args.name.now) c.cache-shown.ensures in
    (Some c.in-Some.place, c.in-Some.ensures, record { is_in = c.may_get-may.result; enough = λ gets. may ∙ gets; set = c.in_ok-set.ensures.ok })

use Rattle.std.proofs.Common.{◌≡◌, false, Ok, Err, sym, ◌∙◌}
use Rattle.std.specs.Prelude.{OnOk}
use Rattle.std.specs.Result.{is_err}
use Rattle.std.specs.declared.result.Result.{Result}
use Rattle.tk_cache.specs.Views.{seen}
use Rattle.tk_run_cache.specs.Active.{AreActive}
use Rattle.tk_run_cache.proofs.Activity.{nothing_active}
use Rattle.tk_run_cache.proofs.run_cache.RunCache.relist.Goals as goal

pub invariant_of-self : goal.invariant_of-self
invariant_of-self c = nothing_active (seen c.empty.result) c.empty.ensures c.new.result

holds : {T E : Type 0} (P : Type 0) (r : Result T E) → is_err r ≡ false → OnOk r P → P
holds P (Ok x) fine so = so
holds P (Err e) fine so = absurd (cc (fine))

pub invariant_of-self-else-is_err : goal.invariant_of-self-else-is_err
invariant_of-self-else-is_err c =
    holds (AreActive (seen c.relist-listed.new.cache).view c.relist-listed.new.active) c.relist-listed.result (sym c.is_err.ensures.value ∙ c.if-is_err.false) c.relist-listed.ensures.active

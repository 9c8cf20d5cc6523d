use Rattle.std.proofs.Common.{[], sym, subst}
use Rattle.tk_cache.specs.Fronts.{Shows}
use Rattle.tk_cache.specs.Views.{Kept, seen}
use Rattle.tk_cache.proofs.cache.Cache.reach.Goals as goal

pub returns-then-is_err-clause-err : goal.returns-then-is_err-clause-err
returns-then-is_err-clause-err c = subst (λ (k : Kept). Shows (seen k) []) (sym c.drop.view_is) c.empty.ensures

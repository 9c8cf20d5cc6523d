use Rattle.std.proofs.Common.{subst}
use Rattle.tk_cache.specs.Views.{Kept, seen}
use Rattle.tk_run_cache.specs.Active.{AreActive}
use Rattle.tk_run_cache.proofs.run_cache.RunCache.active.Goals as goal

pub returns : goal.returns
returns c = subst (λ (k : Kept). AreActive (seen k).view c.self.inside.active) c.self.view_is c.self.invariant

use Rattle.std.proofs.Common.{[], subst, sym}
use Rattle.tk_cache.specs.Fronts.{Shows}
use Rattle.tk_cache.specs.Views.{seen}
use Rattle.tk_program_tests.proofs.begun.controller.Goals as goal

pub returns-clause-ready : goal.returns-clause-ready
returns-clause-ready g c = subst (λ x. Shows (seen x.cache) []) (sym c.begin.ensures) c.new-controller.ensures.unseen

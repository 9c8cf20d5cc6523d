-- What the decision of a run stands on.
use Rattle.std.specs.Prelude.{◌≡◌, ℕ, List}
use Rattle.tk_types.specs.declared.run.Child.{Child}
use Rattle.tk_types.specs.declared.run.Facts.{Facts}
use Rattle.tk_bind.specs.declared.env.Given.{Given}
use Rattle.tk_graph.specs.Parents.{IsRanking}
use Rattle.tk_verdict.specs.Available.{available_results}
use Rattle.tk_verdict.specs.WellFormed.{IsWellFormed}

-- ranks, children and available results are those of the facts
pub record IsPrepared (facts : Facts) (ranks : List ℕ) (children : List Child) (results : List Given) : Type 0 where
  pub well_formed : IsWellFormed facts
  pub ranked : IsRanking facts.spec.tasks ranks
  pub grouped : children ≡ facts.children
  pub available : results ≡ available_results facts

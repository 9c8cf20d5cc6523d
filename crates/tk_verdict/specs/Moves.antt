-- How the facts of a run move on, and what they leave as it is.
use Rattle.std.specs.Prelude.{◌≡◌, ℕ, ◌≤◌, List, [], ◌∷◌, ◌++◌, length, All, Some, IsTrue}
use Rattle.std.specs.List.{AllZip, list_all}
use Rattle.tk_types.specs.declared.run.Child.{Child}
use Rattle.tk_types.specs.declared.run.Facts.{Facts}
use Rattle.tk_types.specs.declared.run.Outcome.{Outcome}
use Rattle.tk_types.specs.declared.run.Stop.{Stop}
use Rattle.tk_types.specs.declared.verdict.Verdict.TheVariants.{Ready}
use Rattle.tk_graph.specs.Parents.{IsAncestor}
use Rattle.tk_verdict.specs.Gives.{label_of, first_labels}
use Rattle.tk_verdict.specs.Verdict.{is_done}

-- the same child, which may have ended since
pub record IsLater (old new : Child) : Type 0 where
  pub task : new.task ≡ old.task
  pub index : new.index ≡ old.index
  pub outcome : (outcome : Outcome) → old.outcome ≡ Some outcome → new.outcome ≡ Some outcome

-- the same children, of which more may have ended
abbrev pub KeepOutcomes : List Child → List Child → Type 0
KeepOutcomes old new = AllZip IsLater old new

-- more children have ended
pub record GainsOutcomes (old new : Facts) : Type 0 where
  pub spec : new.spec ≡ old.spec
  pub stops : new.stops ≡ old.stops
  pub children : KeepOutcomes old.children new.children

-- one more stop is recorded
pub record GainsStop (old new : Facts) : Type 0 where
  pub spec : new.spec ≡ old.spec
  pub children : new.children ≡ old.children
  pub stop : Stop
  pub stops : new.stops ≡ old.stops ++ stop ∷ []

-- a task that is Ready gets children
pub record GainsChildren (old new : Facts) : Type 0 where
  pub spec : new.spec ≡ old.spec
  pub stops : new.stops ≡ old.stops
  pub place : ℕ
  pub ready : label_of old place ≡ Ready
  pub more : List Child
  pub of_task : All (λ child. child.task ≡ place) more
  pub children : new.children ≡ old.children ++ more

-- one step
pub data Moves (old new : Facts) : Type 0 where
  by_outcomes : GainsOutcomes old new → Moves old new
  by_stop : GainsStop old new → Moves old new
  by_children : GainsChildren old new → Moves old new

-- nothing that the task's label rests on can still change: it and its ancestors are done, and for a task of `finally` all of `tasks`
pub record IsSettled (facts : Facts) (place : ℕ) : Type 0 where
  pub itself : IsTrue (is_done (label_of facts place))
  pub ancestors : (t : ℕ) → IsAncestor facts.spec.tasks t place → IsTrue (is_done (label_of facts t))
  pub tasks : length facts.spec.tasks ≤ place → IsTrue (list_all is_done (first_labels facts))

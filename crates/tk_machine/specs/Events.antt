-- Which events may come to the machine.
use Rattle.std.specs.Prelude.{◌<◌, ◌≤◌, ℕ, List, [], ◌∷◌}
use Rattle.tk_types.specs.declared.scenario.Event.{Event}
use Rattle.tk_types.specs.declared.scenario.Event.TheVariants as events
use Rattle.tk_types.specs.declared.scenario.Viewer.{Viewer}
use Rattle.tk_types.specs.declared.scenario.Viewer.TheVariants as viewers
use Rattle.tk_types.specs.declared.scenario.Taker.{Taker}
use Rattle.tk_types.specs.declared.scenario.Taker.TheVariants as takers

-- the clock behind an event
abbrev pub clock_after : ℕ → Event → ℕ
clock_after clock (events.Clock reading) = reading
clock_after clock _ = clock

-- there are so many controllers and kubelets
module _ (controllers kubelets : ℕ) where
  abbrev pub HasViewer : Viewer → Type 0
  HasViewer (viewers.Controller i) = i < controllers
  HasViewer (viewers.Kubelet i) = i < kubelets

  abbrev pub HasTaker : Taker → Type 0
  HasTaker (takers.Runs i) = i < controllers
  HasTaker (takers.Tasks i) = i < controllers
  HasTaker (takers.Kubelet i) = i < kubelets

  -- its actor exists, and it doesn't set the clock back
  abbrev pub MayCome : ℕ → Event → Type 0
  MayCome clock (events.Deliver viewer kind n) = HasViewer viewer
  MayCome clock (events.DeliverAll viewer) = HasViewer viewer
  MayCome clock (events.Relist viewer kind position) = HasViewer viewer
  MayCome clock (events.Turn taker) = HasTaker taker
  MayCome clock (events.Restart viewer) = HasViewer viewer
  MayCome clock (events.Ask name status) = Unit {0}
  MayCome clock (events.Clock reading) = clock ≤ reading
  MayCome clock events.Round = Unit {0}

  -- each of them may, one after the other
  abbrev pub MayAllCome : ℕ → List Event → Type 0
  MayAllCome clock [] = Unit {0}
  MayAllCome clock (event ∷ later) = MayCome clock event × MayAllCome (clock_after clock event) later

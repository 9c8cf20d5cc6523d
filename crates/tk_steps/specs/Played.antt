-- That each armed step of a pod is watched once, in order, and what a host that plays answers.
use Rattle.std.specs.Prelude.{◌≡◌, ℕ, suc, Bool, List, [], ◌∷◌, Option, Some}
use Rattle.tk_edge.specs.declared.event.Arming.{Arming}
use Rattle.tk_edge.specs.declared.event.Event.{Event}
use Rattle.tk_edge.specs.declared.order.Watch.{Watch}
use Rattle.tk_edge.specs.Calls.{TellsTurn}
use Rattle.tk_edge.specs.History.{arming_of}
use Rattle.tk_edge.specs.Plays.{Play, IsPlayed}

-- one watch of an armed step
pub record WatchesStep (play : Option Play) (killed : ℕ → Bool) (pod : List ℕ) (step child : ℕ) (old new : List Event) : Type 0 where
  pub arming : Arming
  pub armed : arming_of child old ≡ Some arming
  pub same_pod : arming.order.pod ≡ pod
  pub same_step : arming.order.step ≡ step
  pub watch : Watch
  pub tells : TellsTurn child arming old new watch
  pub played : IsPlayed play (killed child) child old watch

-- each of these children, which are armed as the pod's steps from this one on, is watched once, in order
abbrev pub WatchesFrom : Option Play → (ℕ → Bool) → List ℕ → ℕ → List ℕ → List Event → List Event → Type 0
WatchesFrom play killed pod step [] old new = new ≡ old
WatchesFrom play killed pod step (child ∷ children) old new =
    (between : List Event) × WatchesStep play killed pod step child old between × WatchesFrom play killed pod (suc step) children between new

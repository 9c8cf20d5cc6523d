-- When the history of a host explains that an entry is refused.
use Rattle.std.specs.Prelude.{◌≡◌, ◌⊎◌, ℕ, true, false, List, Option, Some}
use Rattle.tk_pod.specs.Exits.{passes}
use Rattle.tk_edge.specs.declared.event.Arming.{Arming}
use Rattle.tk_edge.specs.declared.event.Event.{Event}
use Rattle.tk_edge.specs.History.{Has, arming_of, exit_of, is_refused}

-- an entry of its pod, which posts where it waits
pub record PostsFor (arming other : Arming) : Type 0 where
  pub same_pod : other.order.pod ≡ arming.order.pod
  pub there : other.post ≡ arming.wait

-- the child of this arming broke: it was refused, or it ended with an exit that doesn't pass
abbrev pub HasBroken : ℕ → Arming → List Event → Type 0
HasBroken child arming told = (is_refused child told ≡ true) ⊎ Has (exit_of child told) (λ exit. passes arming.keep_going exit ≡ false)

-- a child that posts where this entry waits broke
pub record IsExplained (arming : Arming) (told : List Event) : Type 0 where
  pub child : ℕ
  pub other : Arming
  pub armed : arming_of child told ≡ Some other
  pub posts : PostsFor arming other
  pub broke : HasBroken child other told

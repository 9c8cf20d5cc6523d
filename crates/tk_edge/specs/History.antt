-- What a host's history says. It is the list of what the host did, the newest first.
use Rattle.std.specs.Prelude.{◌≡◌, ◌⊎◌, ℕ, Bool, true, false, not, ◌&&◌, ◌||◌, nat_eq, bytes_eq, if◌then◌else◌, List, [], ◌∷◌, ◌++◌, Option, Some, None}
use Rattle.tk_pod.specs.Exits.{passes}
use Rattle.tk_edge.specs.declared.order.Order.{Order}
use Rattle.tk_edge.specs.declared.event.Event.{Event}
use Rattle.tk_edge.specs.declared.event.Event.TheVariants as events
use Rattle.tk_edge.specs.declared.event.Arming.{Arming}
use Rattle.tk_edge.specs.Files.{is_under}

-- there is one, and it has P
pub record Has {X : Type 0} (o : Option X) (P : X → Type 0) : Type 0 where
  pub it : X
  pub is : o ≡ Some it
  pub has : P it

-- the event names the child
abbrev pub names : ℕ → Event → Bool
names child (events.Armed other arming) = nat_eq child other
names child (events.Started other order) = nat_eq child other
names child (events.Refused other) = nat_eq child other
names child (events.Exited other exit) = nat_eq child other
names child (events.Put path bytes answered) = false
names child (events.Cleared folder answered) = false
names child (events.Fetched path bytes) = false

-- no event names the child
abbrev pub IsNew : ℕ → List Event → Type 0
IsNew child [] = Unit {0}
IsNew child (e ∷ older) = (names child e ≡ false) × IsNew child older

-- the exit of a child that was found ended
abbrev pub exit_of : ℕ → List Event → Option ℕ
exit_of child [] = None
exit_of child (events.Exited other exit ∷ older) = if nat_eq child other then Some exit else exit_of child older
exit_of child (_ ∷ older) = exit_of child older

-- the order of a child that was started
abbrev pub order_of : ℕ → List Event → Option Order
order_of child [] = None
order_of child (events.Started other order ∷ older) = if nat_eq child other then Some order else order_of child older
order_of child (_ ∷ older) = order_of child older

-- what the child was armed with
abbrev pub arming_of : ℕ → List Event → Option Arming
arming_of child [] = None
arming_of child (events.Armed other arming ∷ older) = if nat_eq child other then Some arming else arming_of child older
arming_of child (_ ∷ older) = arming_of child older

-- its wait file was found with `.err`
abbrev pub is_refused : ℕ → List Event → Bool
is_refused child [] = false
is_refused child (events.Refused other ∷ older) = nat_eq child other || is_refused child older
is_refused child (_ ∷ older) = is_refused child older

-- the orders that were started, the newest first
abbrev pub started_orders : List Event → List Order
started_orders [] = []
started_orders (events.Started child order ∷ older) = order ∷ started_orders older
started_orders (_ ∷ older) = started_orders older

-- what `fetch` last answered for the path
abbrev pub fetched : List ℕ → List Event → Option (Option (List ℕ))
fetched path [] = None
fetched path (events.Fetched other bytes ∷ older) = if bytes_eq path other then Some bytes else fetched path older
fetched path (_ ∷ older) = fetched path older

-- a put of the path answered Ok, and no clear that answered Ok came behind it for a folder above
abbrev pub was_put : List ℕ → List Event → Bool
was_put path [] = false
was_put path (events.Put other bytes true ∷ older) = bytes_eq path other || was_put path older
was_put path (events.Cleared folder true ∷ older) = not (is_under folder path) && was_put path older
was_put path (_ ∷ older) = was_put path older

-- An armed entry of the pod whose post file is this path, and whose exit passed.
pub record HasPassed (pod path : List ℕ) (history : List Event) : Type 0 where
  pub child : ℕ
  pub arming : Arming
  pub armed : arming_of child history ≡ Some arming
  pub same_pod : arming.order.pod ≡ pod
  pub post : arming.post ≡ path
  pub exit : ℕ
  pub exited : exit_of child history ≡ Some exit
  pub passed : passes arming.keep_going exit ≡ true

-- the entry's wait file stands, by what the host did
abbrev pub MayStart : Arming → List Event → Type 0
MayStart arming history = (was_put arming.wait history ≡ true) ⊎ HasPassed arming.order.pod arming.wait history

-- an armed entry that neither started nor was refused
pub record StillWaits (child : ℕ) (history : List Event) : Type 0 where
  pub not_started : order_of child history ≡ None
  pub not_refused : is_refused child history ≡ false

-- a child that started and wasn't found ended
pub record StillRuns (child : ℕ) (history : List Event) : Type 0 where
  pub order : Order
  pub started : order_of child history ≡ Some order
  pub no_exit : exit_of child history ≡ None

-- an armed entry starts with its own order, once its wait file stands
pub record StartsArmed (child : ℕ) (order : Order) (history : List Event) : Type 0 where
  pub arming : Arming
  pub armed : arming_of child history ≡ Some arming
  pub waited : StillWaits child history
  pub own_order : order ≡ arming.order
  pub may : MayStart arming history

-- what may come after a history
abbrev pub Fits : Event → List Event → Type 0
Fits (events.Armed child arming) older = IsNew child older
Fits (events.Started child order) older = IsNew child older ⊎ StartsArmed child order older
Fits (events.Refused child) older = Has (arming_of child older) (λ arming. StillWaits child older)
Fits (events.Exited child exit) older = StillRuns child older
Fits _ older = Unit {0}

-- Armed entries and started children are told as they may come: each number is new, a step starts once, by its
-- own order and behind its wait file, and a child has one exit, behind its start.
abbrev pub IsTold : List Event → Type 0
IsTold [] = Unit {0}
IsTold (e ∷ older) = Fits e older × IsTold older

-- the newer history goes on from the older
pub record GoesOn (old new : List Event) : Type 0 where
  pub since : List Event
  pub is : new ≡ since ++ old

-- The Scenario that stands first among the objects of an input.
use Rattle.std.proofs.Common.{◌≡◌, ℕ, ◌+◌, ◌≤◌, Bool, true, false, cond, List, [], ◌∷◌, Option, Some, None, option_and_then, slice_get, filter, count_by, sum_by, refl, sym, subst, arith}
use Rattle.std.specs.Prelude.{All}
use Rattle.std.specs.Option.{ForSome}
use Rattle.std.proofs.lemmas.List.Elements.{All-filter, All-head}
use Rattle.std.proofs.lemmas.List.Recursion.{is_count_by}
use Rattle.std.proofs.lemmas.List.Sums.{sum_by-cons}
use Rattle.std.proofs.lemmas.Option.{none-some, same_Some}
use Rattle.tk_types.specs.declared.object.Item.{Item}
use Rattle.tk_types.specs.declared.object.ItemObject.{ItemObject}
use Rattle.tk_types.specs.declared.object.ItemObject.TheVariants.{Scenario}
use Rattle.tk_types.specs.declared.scenario.Event.{Event}
use Rattle.tk_types.specs.declared.scenario.Event.TheVariants.{Ask}
use Rattle.tk_types.specs.declared.scenario.Scenario.{Scenario as Given}
use Rattle.tk_admit.specs.Command.{as_scenario, is_scenario, scenarios_of, the_scenario}
use Rattle.tk_admit.specs.Weight.{asks_of, is_ask, object_asks}
use Rattle.tk_scenario_laws.specs.Laws.{IsPlayable, count_asks}
use Rattle.tk_scenario_laws.proofs.Read.{IsPlayableObject, IsPlayableItem}

-- what holds of the object of the first of some items holds of its Scenario
chosen : (P : Given → Type 0) (Q : Item → Type 0) → ((item : Item) → Q item → ForSome (as_scenario item.object) P)
    → (found : Option Item) → ForSome found Q → ForSome (option_and_then (λ (item : Item). as_scenario item.object) found) P
chosen P Q holds None there = λ given is. absurd (none-some given is)
chosen P Q holds (Some item) there = holds item (there item refl)

-- it may be played, as all may
first_holds : {X : Type 0} (P : X → Type 0) (xs : List X) → All P xs → ForSome (slice_get xs 0) P
first_holds P [] all = λ x is. absurd (none-some x is)
first_holds P (y ∷ ys) all = λ x is. subst P (same_Some y x is) (All-head P y ys all)

object_playable : (object : ItemObject) → IsPlayableObject object → ForSome (as_scenario object) IsPlayable
object_playable (Scenario name spec) playable = λ given is. subst IsPlayable (same_Some spec given is) playable
object_playable object playable = λ given is. absurd (none-some given is)

pub first_playable : (items : List Item) → All IsPlayableItem items → ForSome (the_scenario items) IsPlayable
first_playable items playable =
    chosen IsPlayable IsPlayableItem (λ item. object_playable item.object) (slice_get (scenarios_of items) 0)
    (first_holds IsPlayableItem (scenarios_of items) (All-filter (λ (item : Item). is_scenario item.object) IsPlayableItem items playable))

-- its asks are among those of all
asks_counted : (given : List Event) → count_asks given ≡ count_by is_ask given
asks_counted given = is_count_by count_asks is_ask refl step given
  where
    step : (event : Event) (later : List Event) → count_asks (event ∷ later) ≡ cond (is_ask event) (1 + count_asks later) (count_asks later)
    step (Ask name status) later = omega arith
    step event later = refl

object_counted : (total : ℕ) (object : ItemObject) → object_asks object ≤ total → ForSome (as_scenario object) (λ (given : Given). count_asks given.events ≤ total)
object_counted total (Scenario name spec) few =
    λ given is. subst (λ (given : Given). count_asks given.events ≤ total) (same_Some spec given is) (subst (λ count. count ≤ total) (sym (asks_counted spec.events)) few)
object_counted total object few = λ given is. absurd (none-some given is)

module _ {X : Type 0} (test : X → Bool) (size : X → ℕ) where
  -- the first that passes, by whether the first of all does
  within_by : (x : X) (xs : List X) (passes : Bool) → ForSome (slice_get (filter test xs) 0) (λ y. size y ≤ sum_by size xs)
      → ForSome (slice_get (cond passes (x ∷ filter test xs) (filter test xs)) 0) (λ y. size y ≤ size x + sum_by size xs)
  within_by x xs true later = λ y is. subst (λ z. size z ≤ size x + sum_by size xs) (same_Some x y is) (omega arith)
  within_by x xs false later = λ y is. let few = later y is in omega arith

  first_within : (xs : List X) → ForSome (slice_get (filter test xs) 0) (λ y. size y ≤ sum_by size xs)
  first_within [] = λ y is. absurd (none-some y is)
  first_within (x ∷ xs) = λ y is. subst (λ total. size y ≤ total) (sym (sum_by-cons size x xs)) (within_by x xs (test x) (first_within xs) y is)

pub first_counted : (items : List Item) → ForSome (the_scenario items) (λ (given : Given). count_asks given.events ≤ sum_by asks_of items)
first_counted items =
    chosen (λ (given : Given). count_asks given.events ≤ sum_by asks_of items) (λ (item : Item). asks_of item ≤ sum_by asks_of items)
    (λ item. object_counted (sum_by asks_of items) item.object) (slice_get (scenarios_of items) 0)
    (first_within (λ (item : Item). is_scenario item.object) asks_of items)

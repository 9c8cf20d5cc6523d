-- The weight of an input, which bounds the entries of its journal.
use Rattle.std.specs.Prelude.{ℕ, ◌+◌, Bool, true, false, nat_lt, List, sum_by, count_by}
use Rattle.tk_types.specs.declared.object.Item.{Item}
use Rattle.tk_types.specs.declared.object.ItemObject.{ItemObject}
use Rattle.tk_types.specs.declared.object.ItemObject.TheVariants.{Scenario}
use Rattle.tk_types.specs.declared.scenario.Event.{Event}
use Rattle.tk_types.specs.declared.scenario.Event.TheVariants.{Ask}
use Rattle.tk_types.specs.Fault.{too_large}
use Rattle.tk_types.specs.Limits.{most_weight}
use Rattle.tk_types.specs.Place.{root}
use Rattle.tk_types.specs.First.{Finding, refused_if}
use Rattle.tk_early.specs.Possible.{told_count}
use Rattle.tk_journal.specs.Weight.{run_weight}
use Rattle.tk_admit.specs.declared.taken.Taken.{Taken}

-- the asks of a Scenario
abbrev pub is_ask : Event → Bool
is_ask (Ask name status) = true
is_ask _ = false

abbrev pub object_asks : ItemObject → ℕ
object_asks (Scenario name scenario) = count_by is_ask scenario.events
object_asks _ = 0

abbrev pub asks_of : Item → ℕ
asks_of item = object_asks item.object

-- these asks and those of the Scenarios, and all runs
abbrev pub weight : ℕ → List Item → List Taken → ℕ
weight asks items runs = asks + sum_by asks_of items + sum_by (λ (run : Taken). run_weight run.spec) runs

abbrev pub weight_finding : ℕ → Finding
weight_finding total = refused_if (nat_lt most_weight total) (too_large root most_weight (told_count total))

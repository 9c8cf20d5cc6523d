-- The files and exits of a script on worked rows.
use Rattle.std.proofs.Common.{◌≡◌, ℕ, true, List, [], ◌∷◌, refl}
use Rattle.std.specs.Prelude.{codes, Some, None}
use Rattle.tk_edge.specs.declared.event.Event.{Event}
use Rattle.tk_edge.specs.declared.event.Event.TheVariants as events
use Rattle.tk_edge.specs.declared.order.Order.{Order}
use Rattle.tk_script.specs.ScriptHost.{Scripts, script_file, scripted_exit}

abbrev scripts : Scripts
scripts = record {
  root = codes "/w";
  pods = record { pod = codes "p"; exits = 0 ∷ 3 ∷ []; files = record { key = codes "r"; value = codes "one" } ∷ record { key = codes "a/b"; value = codes "two" } ∷ [] } ∷ [];
}

abbrev step_of : List ℕ → ℕ → Order
step_of pod step = record { pod = pod; step = step; argv = []; env = []; dir = [] }

abbrev started : List Event
started = events.Started 0 (step_of (codes "p") 0) ∷ []

pub before_the_start : script_file scripts (codes "/w/p/results/r") [] ≡ None
before_the_start = refl

pub from_the_start_on : script_file scripts (codes "/w/p/results/r") started ≡ Some (codes "one")
from_the_start_on = refl

pub a_slash_stands_nowhere : script_file scripts (codes "/w/p/results/a/b") started ≡ None
a_slash_stands_nowhere = refl

pub a_later_start_leaves_nothing : script_file scripts (codes "/w/p/results/r") (events.Started 1 (step_of (codes "p") 1) ∷ events.Cleared (codes "/w/p") true ∷ started) ≡ None
a_later_start_leaves_nothing = refl

pub another_pod_leaves_nothing : script_file scripts (codes "/w/p/results/r") (events.Started 0 (step_of (codes "q") 0) ∷ []) ≡ None
another_pod_leaves_nothing = refl

pub the_second_exit : scripted_exit scripts.pods (step_of (codes "p") 1) ≡ 3
the_second_exit = refl

pub no_third_exit : scripted_exit scripts.pods (step_of (codes "p") 2) ≡ 0
no_third_exit = refl

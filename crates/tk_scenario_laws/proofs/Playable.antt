-- What a Scenario without a fault gives to the machine.
use Rattle.std.proofs.Common.{◌≡◌, ℕ, ◌<◌, ◌≤◌, Bool, true, not, ◌&&◌, List, Option, Some, None, codes, nat_le, refl, arith}
use Rattle.std.specs.Prelude.{unwrap_or}
use Rattle.std.specs.Option.{ForSome}
use Rattle.std.proofs.lemmas.Bool.{and_parts, leb-true, not-false}
use Rattle.serde_json.specs.Data.{Data}
use Rattle.tk_types.specs.Fault.{bad_choice, wrong_shape}
use Rattle.tk_types.specs.First.{Finding}
use Rattle.tk_types.specs.Place.{Place}
use Rattle.tk_fields.specs.Check.{passes}
use Rattle.tk_fields.specs.Get.{as_whole, at, elements, field, number_of}
use Rattle.tk_fields.specs.Shape.{field_finding, optional}
use Rattle.tk_scenario.specs.Scenario.{actors, count_at, counts, counts_of, events_of, keys}
use Rattle.tk_read_laws.proofs.Fields.{Holds, optional_at}
use Rattle.tk_read_laws.proofs.Nothing.{first_none, not_refused, rest_none}
use Rattle.tk_scenario_laws.specs.Laws.{ScenarioIsPlayable}
use Rattle.tk_scenario_laws.proofs.Events.{events_come, events_timely}

-- a number of actors is from 1 to 8
abbrev IsFew : ℕ → Type 0
IsFew n = (0 < n) × (n ≤ 8)

abbrev is_few : ℕ → Bool
is_few n = nat_le 1 n && nat_le n 8

few_by : (n : ℕ) → is_few n ≡ true → IsFew n
few_by n e =
    let both = and_parts (nat_le 1 n) (nat_le n 8) e in
    (leb-true 1 n both.0, leb-true n 8 both.1)

abbrev number_finding : Place → Option ℕ → Finding
number_finding place found = elim found [ None ↦ Some (wrong_shape place) | Some n ↦ passes is_few bad_choice place n ]

number_by : (place : Place) (found : Option ℕ) → number_finding place found ≡ None → IsFew (unwrap_or found 0)
number_by place None e = absurd (let f : ⊥ = cc in f)
number_by place (Some n) e = few_by n (not-false (is_few n) (not_refused (not (is_few n)) (bad_choice place) e))

actors_few : Holds actors number_of IsFew
actors_few place d e = number_by place (as_whole d) e

-- one where none is written
or_one : (found : Option ℕ) → ForSome found IsFew → IsFew (unwrap_or found 1)
or_one None few = (omega arith, omega arith)
or_one (Some n) few = few n refl

count_few : (key : List ℕ) (place : Place) (d : Data) → field_finding place d (optional key actors) ≡ None → IsFew (count_at key d)
count_few key place d e = or_one (field number_of key d) (optional_at IsFew number_of key actors actors_few place d e)

controllers_few : (place : Place) (d : Data) → counts place d ≡ None → IsFew (count_at (codes "controllers") d)
unfolding counts
controllers_few place d e = count_few (codes "controllers") place d (first_none _ _ e)

kubelets_few : (place : Place) (d : Data) → counts place d ≡ None → IsFew (count_at (codes "kubelets") d)
unfolding counts
kubelets_few place d e = count_few (codes "kubelets") place d (first_none _ _ (rest_none _ _ e))

pub scenario_is_playable : ScenarioIsPlayable
unfolding events_of
scenario_is_playable place d e =
    let counted : counts place d ≡ None = first_none _ _ (rest_none (keys place d) _ e) in
    let controllers = controllers_few place d counted in
    let kubelets = kubelets_few place d counted in
    let written = elements (at (codes "events") d) in
    record {
      some_controllers = controllers.0;
      few_controllers = controllers.1;
      some_kubelets = kubelets.0;
      few_kubelets = kubelets.1;
      may = events_come (counts_of d) 0 written;
      timely = events_timely (counts_of d) 0 written;
    }

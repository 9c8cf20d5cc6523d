-- What an admitted Scenario gives to the machine.
use Rattle.tk_manifest.specs.declared.kinds.KindSet.TheVariants.{WithScenario}
use Rattle.tk_manifest.specs.Input.{objects_of, reading_fault}
use Rattle.tk_read_laws.proofs.Nothing.{first_none}
use Rattle.tk_scenario_laws.specs.Laws.{AdmittedIsPlayable, AsksAreWeighed}
use Rattle.tk_scenario_laws.proofs.First.{first_counted, first_playable}
use Rattle.tk_scenario_laws.proofs.Read.{objects_playable}

pub admitted_is_playable : AdmittedIsPlayable
admitted_is_playable asks root bytes e =
    first_playable (objects_of WithScenario bytes) (objects_playable WithScenario bytes (first_none (reading_fault WithScenario bytes) _ e))

pub asks_are_weighed : AsksAreWeighed
asks_are_weighed asks root bytes e = first_counted (objects_of WithScenario bytes)

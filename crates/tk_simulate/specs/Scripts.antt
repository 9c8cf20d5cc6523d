-- What a Scenario's outcomes are to the hosts and to the machine.
use Rattle.std.specs.Prelude.{List, [], map, Option, Some, None}
use Rattle.tk_types.specs.declared.scenario.Scenario.{Scenario}
use Rattle.tk_types.specs.declared.scenario.Scripted.{Scripted}
use Rattle.tk_names.specs.Children.{pod_name}
use Rattle.tk_script.specs.declared.pod_script.PodScript.{PodScript}
use Rattle.tk_machine.specs.Hosts.{Script}
use Rattle.tk_play.specs.Scripts.{script_of}
use Rattle.tk_world.specs.Nodes.{scripts_in}

-- the script of an attempt's pod
abbrev pub script_by : Scripted → PodScript
script_by outcome = record { pod = pod_name outcome.task_run outcome.attempt; exits = outcome.exits; files = outcome.files }

abbrev pub scripts_by : List Scripted → List PodScript
scripts_by outcomes = map script_by outcomes

-- without a Scenario there are one controller and one kubelet, each step exits with 0, and no event comes
abbrev pub scenario_in : Option Scenario → Scenario
scenario_in None = record { controllers = 1; kubelets = 1; outcomes = []; events = [] }
scenario_in (Some scenario) = scenario

-- what the outcomes give the machine
abbrev pub script_in : Scenario → Script
script_in scenario = script_of (scripts_in (scripts_by scenario.outcomes))

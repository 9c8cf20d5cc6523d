-- The exits of a held pod's steps, and how its walk through them ended (Tekton, Tasks, Specifying `onError` for a step).
use Rattle.std.specs.Prelude.{ℕ, Bool, List, filter_map, Option, Some, None, is_some}
use Rattle.tk_pod.specs.Walk.{walked}
use Rattle.tk_pod.specs.declared.walk.Walked.{Walked}
use Rattle.tk_pod.specs.declared.walk.Walked.TheVariants.{Well, Broke}
use Rattle.tk_journal.specs.PodRows.{walk_of}
use Rattle.tk_steps.specs.declared.held.HeldPod.{HeldPod}
use Rattle.tk_steps.specs.declared.held.HeldStep.{HeldStep}

-- the exits of the steps that ended, in order
abbrev pub exits_of : List HeldStep → List ℕ
exits_of steps = filter_map (λ (step : HeldStep). step.exit) steps

-- how the pod's walk ended, where it is over
abbrev pub walked_of : HeldPod → Option Walked
walked_of pod = walked (walk_of pod.plan (exits_of pod.steps.items))

-- a step doesn't pass, or every step has an exit
abbrev pub is_walked : HeldPod → Bool
is_walked pod = is_some (walked_of pod)

-- the exit with which a walk broke
abbrev pub broke_with : Option Walked → Option ℕ
broke_with (Some (Broke step exit)) = Some exit
broke_with (Some Well) = None
broke_with None = None

-- the first exit that doesn't pass
abbrev pub broken_exit : HeldPod → Option ℕ
broken_exit pod = broke_with (walked_of pod)

-- The walk of a pod through its steps.
use Rattle.std.specs.Prelude.{ℕ, ◌+◌, ◌/◌, ◌%◌, ◌^◌, ◌≤◌, ◌<◌, Bool, true, ◌||◌, ◌==◌, if◌then◌else◌, List, [], ◌∷◌, length, Option, Some, None, is_none, get_or, ◌≡◌}
use Rattle.tk_pod.specs.Exits.{continues, passes}
use Rattle.tk_pod.specs.declared.walk.Walked.{Walked}
use Rattle.tk_pod.specs.declared.walk.Walked.TheVariants.{Well, Broke}

-- the steps of a pod, of which those whose bit is set continue on error, and the exits so far, in order
pub record Walk : Type 0 where
  pub steps : ℕ
  pub keep_going : ℕ
  pub exits : List ℕ

-- the step passes with an exit
abbrev pub passes_at : ℕ → ℕ → ℕ → Bool
passes_at keep_going step exit = passes (continues keep_going step) exit

-- of exits from a step on, the first that doesn't pass, with its step
abbrev pub broken_from : ℕ → ℕ → List ℕ → Option Walked
broken_from keep_going step [] = None
broken_from keep_going step (exit ∷ exits) =
    if passes_at keep_going step exit then broken_from keep_going (step + 1) exits else Some (Broke step exit)

abbrev pub broken : Walk → Option Walked
broken walk = broken_from walk.keep_going 0 walk.exits

-- how the walk ended, where it is over
abbrev pub or_well : Walk → Option Walked → Option Walked
or_well walk (Some walked) = Some walked
or_well walk None = if length walk.exits == walk.steps then Some Well else None

abbrev pub walked : Walk → Option Walked
walked walk = or_well walk (broken walk)

-- the step that is next, where the walk isn't over
abbrev pub next_step : Walk → Option ℕ
next_step walk = if is_none (walked walk) then Some (length walk.exits) else None

-- each exit but the last passes, and no step has two
pub record IsWalk (walk : Walk) : Type 0 where
  pub least : 1 ≤ walk.steps
  pub most : walk.steps ≤ 32
  pub few : length walk.exits ≤ walk.steps
  pub before_last : (step : ℕ) → step + 1 < length walk.exits → passes_at walk.keep_going step (get_or walk.exits step 0) ≡ true

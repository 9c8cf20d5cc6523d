-- When a step passes (Tekton, Tasks, Specifying `onError` for a step).
use Rattle.std.specs.Prelude.{ℕ, ◌/◌, ◌%◌, ◌^◌, Bool, ◌||◌, ◌==◌}

-- the step continues on error: its bit is set
abbrev pub continues : ℕ → ℕ → Bool
continues keep_going step = keep_going / 2 ^ step % 2 == 1

-- the exit is 0, or the step continues on error
abbrev pub passes : Bool → ℕ → Bool
passes keep_going exit = (exit == 0) || keep_going

-- Values by their tasks and names.
use denote.Ref.{Bor}
use Rattle.std.specs.Prelude.{ℕ, List, Option, bytes_eq}
use Rattle.std.specs.Option.{option_and_then}
use Rattle.std.specs.HashMap.{HashMap, get_by}

-- the value of a name in the group of a task
abbrev pub grouped_value : {S V : Type 0} → List ℕ → List ℕ → HashMap (Bor (List ℕ)) (HashMap (Bor (List ℕ)) V S) S → Option V
grouped_value task name groups = option_and_then (get_by (λ k. bytes_eq name k.now)) (get_by (λ k. bytes_eq task k.now) groups)

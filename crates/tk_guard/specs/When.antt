-- Whether `when` expressions hold (Tekton, Pipelines, Guard Task execution using when expressions).
use Rattle.std.specs.Prelude.{ℕ, Bool, true, false, List, bytes_eq}
use Rattle.std.specs.List.{list_any, list_all}
use Rattle.std.specs.Bool.{beq}
use Rattle.tk_types.specs.declared.task.When.{When}

-- the input is one of the values, where the operator is `in`, and isn't, where it is `notin`
abbrev pub is_met : When → Bool
is_met guard = beq (list_any (bytes_eq guard.input) guard.values) guard.is_member

-- every expression is met
abbrev pub all_hold : List When → Bool
all_hold guards = list_all is_met guards

-- the expressions `input in values` and `input notin values`
abbrev pub in_values : List ℕ → List (List ℕ) → When
in_values input values = record { input = input; is_member = true; values = values }

abbrev pub not_in_values : List ℕ → List (List ℕ) → When
not_in_values input values = record { input = input; is_member = false; values = values }

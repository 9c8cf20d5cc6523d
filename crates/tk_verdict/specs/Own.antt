-- What a task's own texts give, and why they skip it.
use Rattle.std.specs.Prelude.{Bool, false, not, ◌||◌, [], ◌∷◌, Option, is_none}
use Rattle.std.specs.List.{list_all}
use Rattle.std.specs.Option.{option_map_or}
use Rattle.tk_types.specs.declared.task.PipelineTask.{PipelineTask}
use Rattle.tk_types.specs.declared.task.TaskBody.{TaskBody}
use Rattle.tk_types.specs.declared.verdict.SkipReason.{SkipReason}
use Rattle.tk_types.specs.declared.verdict.SkipReason.TheVariants.{Broken, When, EmptyMatrix}
use Rattle.tk_types.specs.Lists.{first_row}
use Rattle.tk_bind.specs.declared.env.Env.{Env}
use Rattle.tk_bind.specs.Fits.{fits}
use Rattle.tk_guard.specs.When.{all_hold}
use Rattle.tk_verdict.specs.declared.own.Own.{Own}
use Rattle.tk_verdict.specs.Bindings.{combinations_in, guards_in, has_no_combination}

-- what the texts of a task give in an environment
abbrev pub own_in : Env → PipelineTask → Own
own_in env task = record { guards = guards_in env task; combined = record { is_empty = has_no_combination env task; list = combinations_in env task } }

-- a reference has no value, there are too many combinations, or one doesn't fit the body
abbrev pub own_is_broken : TaskBody → Own → Bool
own_is_broken body own = is_none own.guards || not (option_map_or (list_all (fits body)) own.combined.list false)

-- a `when` expression is false
abbrev pub own_is_refused : Own → Bool
own_is_refused own = option_map_or (λ guards. not (all_hold guards)) own.guards false

-- the first row that holds
abbrev pub row_by : TaskBody → Own → Option SkipReason
row_by body own = first_row ((own_is_broken body own, Broken) ∷ (own_is_refused own, When) ∷ (own.combined.is_empty, EmptyMatrix) ∷ [])

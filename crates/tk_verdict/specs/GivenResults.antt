-- What a task whose children are all good gives, by its children in order of index (Tekton, Pipelines, Using Results).
use Rattle.std.specs.Prelude.{ℕ, List, map, take, filter_map, flat_map, option_map, option_and_then}
use Rattle.tk_types.specs.declared.value.Param.{Param}
use Rattle.tk_types.specs.declared.value.Value.{Value}
use Rattle.tk_types.specs.declared.value.Value.TheVariants.{Arr}
use Rattle.tk_types.specs.declared.run.Child.{Child}
use Rattle.tk_types.specs.Lists.{all_some}
use Rattle.tk_types.specs.Value.{value_named}
use Rattle.tk_bind.specs.declared.env.Given.{Given}
use Rattle.tk_bind.specs.Substitute.{as_text}
use Rattle.tk_verdict.specs.Available.{emitted}

-- a result of a task
abbrev pub given : List ℕ → List ℕ → Value → Given
given task name value = record { task = task; name = name; value = value }

-- without a matrix: each result with the first value of its name
abbrev pub firsts_given : List ℕ → List Child → List Given
firsts_given task children =
    let results = flat_map emitted children in
    filter_map (λ (p : Param). option_map (given task p.name) (value_named p.name results)) results

-- with a matrix: each result of the first child, where every child emitted a text under its name
abbrev pub lists_given : List ℕ → List Child → List Given
lists_given task children =
    filter_map (λ (p : Param). option_map (given task p.name) (option_map Arr (all_some (map (λ c. option_and_then as_text (value_named p.name (emitted c))) children))))
    (flat_map emitted (take 1 children))

-- The workspaces to which a Task is bound (Tekton, Workspaces).
use Rattle.std.specs.Prelude.{ℕ, Bool, not, ◌&&◌, if◌then◌else◌, List, ◌++◌, Option, codes, bytes_eq, filter_map, find, is_none, option_map, option_and_then}
use Rattle.std.specs.List.{list_any}
use Rattle.tk_types.specs.declared.task.Space.{Space}
use Rattle.tk_types.specs.declared.task.SpaceSpec.{SpaceSpec}
use Rattle.tk_types.specs.declared.task.SpaceUse.{SpaceUse}
use Rattle.tk_types.specs.Lists.{is_empty}

-- two paths joined, either of which may be empty
abbrev pub joined_path : List ℕ → List ℕ → List ℕ
joined_path first second = if is_empty first then second else (if is_empty second then first else first ++ codes "/" ++ second)

-- the binding of a name
abbrev pub binding_named : List Space → List ℕ → Option Space
binding_named bindings name = find (λ (b : Space). bytes_eq b.name name) bindings

-- a run's binding as a pipeline task hands it on: under the Task's name, and a path further down
abbrev pub handed_on : SpaceUse → Space → Space
handed_on use_ b = record { name = use_.name; claim = b.claim; sub = joined_path b.sub use_.sub }

-- what a workspace that a Task declares is bound to, by the pipeline task's uses of the run's bindings
abbrev pub space_by : List Space → List SpaceUse → SpaceSpec → Option Space
space_by bindings uses wanted =
    option_and_then (λ (u : SpaceUse). option_map (handed_on u) (binding_named bindings u.from)) (find (λ (u : SpaceUse). bytes_eq u.name wanted.name) uses)

-- the bound workspaces of a pipeline task's Task, in the order of its declarations
abbrev pub handed_spaces : List Space → List SpaceUse → List SpaceSpec → List Space
handed_spaces bindings uses wanted = filter_map (space_by bindings uses) wanted

-- and those of a TaskRun's own Task, which takes the bindings as they are
abbrev pub own_spaces : List Space → List SpaceSpec → List Space
own_spaces bindings wanted = filter_map (λ (w : SpaceSpec). binding_named bindings w.name) wanted

-- a declared workspace that isn't optional is bound to nothing
abbrev pub is_unbound : List Space → SpaceSpec → Bool
is_unbound bound wanted = not wanted.optional && is_none (binding_named bound wanted.name)

abbrev pub has_unbound : List Space → List SpaceSpec → Bool
has_unbound bound wanted = list_any (is_unbound bound) wanted

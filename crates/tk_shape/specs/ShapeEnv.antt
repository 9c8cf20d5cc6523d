-- The shapes of the values that references take, and which reference takes which.
use Rattle.std.specs.Prelude.{ℕ, List, [], map, ◌&&◌, Option, bytes_eq, find, option_map, option_and_then}
use Rattle.std.specs.Bool.{then_some}
use Rattle.tk_types.specs.declared.value.Param.{Param}
use Rattle.tk_vars.specs.declared.reference.Reference.{Reference}
use Rattle.tk_vars.specs.Target.{Target, param, result, word, target_of}
use Rattle.tk_bind.specs.declared.env.Env.{Env}
use Rattle.tk_bind.specs.declared.env.Given.{Given}
use Rattle.tk_shape.specs.Shape.{Shape, one, keys_of, has_key, shape_of, selected_shape}

-- a shape by its name
pub record NamedShape : Type 0 where
  pub name : List ℕ
  pub shape : Shape

-- the shape of a result of a task
pub record ResultShape : Type 0 where
  pub task : List ℕ
  pub name : List ℕ
  pub shape : Shape

-- the shapes of parameters and of results, and the keys of words
pub record ShapeEnv : Type 0 where
  pub params : List NamedShape
  pub results : List ResultShape
  pub words : List (List ℕ)

-- parameters of these shapes and words of these keys, with no results
abbrev pub without_results : List NamedShape → List (List ℕ) → ShapeEnv
without_results params words = record { params = params; results = []; words = words }

-- the shape of a parameter, and of parameters
abbrev pub param_shape : Param → NamedShape
param_shape p = record { name = p.name; shape = shape_of p.value }

abbrev pub shapes_of : List Param → List NamedShape
shapes_of params = map param_shape params

abbrev pub result_shape : Given → ResultShape
result_shape g = record { task = g.task; name = g.name; shape = shape_of g.value }

-- the shapes of what an environment has
abbrev pub shape_env : Env → ShapeEnv
shape_env env = record { params = shapes_of env.params; results = map result_shape env.results; words = keys_of env.words }

-- the shape of this name
abbrev pub shape_named : List ℕ → List NamedShape → Option Shape
shape_named name shapes = option_map (λ (s : NamedShape). s.shape) (find (λ (s : NamedShape). bytes_eq s.name name) shapes)

abbrev pub result_shape_named : List ℕ → List ℕ → List ResultShape → Option Shape
result_shape_named task name results = option_map (λ (r : ResultShape). r.shape) (find (λ (r : ResultShape). bytes_eq r.task task && bytes_eq r.name name) results)

-- the shape of what a reference takes, if it takes something
abbrev pub target_shape : ShapeEnv → Target → Option Shape
target_shape env (param name selector) = option_and_then (selected_shape selector) (shape_named name env.params)
target_shape env (result task name selector) = option_and_then (selected_shape selector) (result_shape_named task name env.results)
target_shape env (word key) = then_some (has_key key env.words) one

abbrev pub reference_shape : ShapeEnv → Reference → Option Shape
reference_shape env reference = target_shape env (target_of reference.parts)

-- A scope by the parameters that texts see there, and what is wrong with the pieces of a text in it.
use Rattle.std.specs.Prelude.{ℕ, Bool, not, List, [], ◌∷◌, filter_map, find, is_some, map, Option, option_map}
use Rattle.tk_types.specs.Fault.{unknown_variable, unknown_task, wrong_type}
use Rattle.tk_types.specs.First.{Finding, first_of, refused_if}
use Rattle.tk_types.specs.Place.{Place}
use Rattle.tk_vars.specs.declared.reference.Reference.{Reference}
use Rattle.tk_vars.specs.declared.piece.Piece.{Piece}
use Rattle.tk_vars.specs.Target.{referenced}
use Rattle.tk_bind.specs.declared.scope.Scope.{Scope}
use Rattle.tk_bind.specs.Scope.{is_visible, is_well_typed}
use Rattle.tk_validate.specs.Texts.{unknown_of}
use Rattle.tk_validate.specs.declared.seen.Seen.{Seen}
use Rattle.tk_validate.specs.Seen.{typed_of, untyped_of}

-- the scope of these parameters, words, paths and tasks
abbrev pub scope_with : List Seen → List (List ℕ) → List (List ℕ) → List (List ℕ) → Bool → Bool → Scope
scope_with all words paths tasks results finally_results =
    record {
      params = filter_map typed_of all;
      untyped = untyped_of all;
      tasks = tasks;
      words = words;
      results = results;
      finally_results = finally_results;
      paths = paths;
    }

-- a reference isn't visible; or else a task is unknown; or else a reference is used against its type
abbrev pub spelling_of : (Reference → Bool) → List Piece → Option (List ℕ)
spelling_of test pieces = option_map (λ (r : Reference). r.spelling) (find (λ r. not (test r)) (filter_map referenced pieces))

abbrev pub visible_finding : Scope → List Piece → Place → Finding
visible_finding scope pieces at = option_map (unknown_variable at) (spelling_of (is_visible scope) pieces)

abbrev pub tasks_finding : List (List ℕ) → Scope → List Piece → Place → Finding
tasks_finding firsts scope pieces at = option_map (unknown_task at) (first_of (map (unknown_of firsts scope) (filter_map referenced pieces)))

abbrev pub types_finding : Scope → Bool → List Piece → Place → Finding
types_finding scope whole pieces at = refused_if (is_some (spelling_of (is_well_typed scope whole) pieces)) (wrong_type at)

abbrev pub pieces_finding : List (List ℕ) → Scope → Bool → List Piece → Place → Finding
pieces_finding firsts scope whole pieces at = first_of (visible_finding scope pieces at ∷ tasks_finding firsts scope pieces at ∷ types_finding scope whole pieces at ∷ [])

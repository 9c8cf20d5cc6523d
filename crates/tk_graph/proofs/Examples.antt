-- Parents, unknown names and cycles that are known.
use Rattle.std.proofs.Common.{◌≡◌, List, [], ◌∷◌, refl, ℕ, Some, None, false}
use Rattle.std.specs.Prelude.{codes, map}
use Rattle.tk_types.specs.declared.task.TaskSource.TheVariants.{Named}
use Rattle.tk_types.specs.declared.task.PipelineTask.{PipelineTask}
use Rattle.tk_graph.specs.Parents.{parents}
use Rattle.tk_graph.specs.Cycle.{left_of, cycle_of, cycle_names, name_at}
use Rattle.tk_graph.specs.Unknown.{first_unknown}

abbrev task : List ℕ → List (List ℕ) → PipelineTask
task name run_after =
    record { name = name; source = Named []; params = []; matrix = None; run_after = run_after; when = []; retries = 0; timeout = 0; ignore_failure = false; spaces = [] }

-- `a`, and `b` after it
abbrev two : List PipelineTask
two = task (codes "a") [] ∷ task (codes "b") (codes "a" ∷ []) ∷ []

after_a : parents two 1 ≡ 0 ∷ []
after_a = refl

all_known : first_unknown two ≡ None
all_known = refl

nothing_left : left_of two ≡ []
nothing_left = refl

nothing_told : cycle_names two ≡ None
nothing_told = refl

-- two tasks of one name, named twice
abbrev same : List PipelineTask
same = task (codes "a") [] ∷ task (codes "b") (codes "a" ∷ codes "a" ∷ []) ∷ task (codes "a") [] ∷ []

both_parents : parents same 1 ≡ 0 ∷ 2 ∷ []
both_parents = refl

-- `a` after `b` and `b` after `a`
abbrev circle : List PipelineTask
circle = task (codes "a") (codes "b" ∷ []) ∷ task (codes "b") (codes "a" ∷ []) ∷ []

circle_names : map (name_at circle) (cycle_of circle) ≡ codes "a" ∷ codes "b" ∷ []
circle_names = refl

-- `a` waits for a cycle of `b` and `c`, and `d` for none
abbrev tail : List PipelineTask
tail = task (codes "d") [] ∷ task (codes "a") (codes "d" ∷ codes "c" ∷ []) ∷ task (codes "b") (codes "c" ∷ []) ∷ task (codes "c") (codes "b" ∷ []) ∷ []

tail_left : left_of tail ≡ 1 ∷ 2 ∷ 3 ∷ []
tail_left = refl

tail_names : map (name_at tail) (cycle_of tail) ≡ codes "c" ∷ codes "b" ∷ []
tail_names = refl

tail_told : cycle_names tail ≡ Some (codes "c" ∷ codes "b" ∷ [])
tail_told = refl

-- the first task that names an unknown one, and its first such name
abbrev strange : List PipelineTask
strange = task (codes "a") [] ∷ task (codes "b") (codes "a" ∷ codes "y" ∷ codes "x" ∷ []) ∷ task (codes "c") (codes "w" ∷ []) ∷ []

strange_name : first_unknown strange ≡ Some (1, codes "y")
strange_name = refl

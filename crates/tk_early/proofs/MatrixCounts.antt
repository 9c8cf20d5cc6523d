-- How many combinations a matrix has that is known at admission.
use Rattle.std.proofs.Common.{◌≡◌, ◌≤◌, ℕ, Bool, true, false, Option, Some, None, option_map, unwrap_or, refl, subst, arith}
use Rattle.std.specs.Prelude.{if◌then◌else◌}
use Rattle.std.specs.Option.{ForSome}
use Rattle.tk_types.specs.declared.task.Matrix.{Matrix}
use Rattle.tk_types.specs.declared.task.PipelineTask.{PipelineTask}
use Rattle.tk_types.specs.declared.run.RunSpec.{RunSpec}
use Rattle.tk_types.specs.Limits.{most_combinations}
use Rattle.tk_matrix.specs.Product.{HasLists}
use Rattle.tk_bind.specs.declared.env.Env.{Env}
use Rattle.tk_bind.specs.Params.{matrix_in}
use Rattle.tk_early.specs.Possible.{possible_children, settled_count, settled_matrix}
use Rattle.tk_early.specs.Settled.{is_settled}
use Rattle.tk_early.proofs.MatrixLists.{matrix_has_lists}

-- what is made is what is made where a test holds
under : {X : Type 0} (b : Bool) (o : Option X) (x : X) → (if b then o else None) ≡ Some x → o ≡ Some x
under true o x is = is
under false o x is = absurd (let f : ⊥ = cc in f)

pub settled_has_lists : (env : Env) (task : PipelineTask) (made : Option Matrix) → settled_matrix env task ≡ Some made → ForSome made HasLists
settled_has_lists env task made is = matrix_has_lists env task.matrix made (under (is_settled task) (matrix_in env task.matrix) made is)

-- no task has more children than are allowed, where no settled matrix has
most_of : (count : Option ℕ) → ForSome count (λ n. n ≤ most_combinations) → unwrap_or count most_combinations ≤ most_combinations
most_of None few = omega arith
most_of (Some n) few = few n refl

few_of : (count : Option ℕ) (matrix : Option Matrix) (children : ℕ) → ForSome count (λ n. n ≤ most_combinations)
    → option_map (λ (m : Matrix). unwrap_or count most_combinations) matrix ≡ Some children → children ≤ most_combinations
few_of count None children few is = absurd (let f : ⊥ = cc in f)
few_of count (Some m) children few is = subst (λ n. n ≤ most_combinations) (let e : unwrap_or count most_combinations ≡ children = cc in e) (most_of count few)

pub few_children : (spec : RunSpec) (task : PipelineTask) (children : ℕ) → ForSome (settled_count spec task) (λ n. n ≤ most_combinations) → possible_children spec task ≡ Some children → children ≤ most_combinations
few_children spec task children few is = few_of (settled_count spec task) task.matrix children few is

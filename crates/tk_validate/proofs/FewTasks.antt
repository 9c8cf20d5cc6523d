-- A pipeline within its sizes has few tasks.
use Rattle.std.proofs.Common.{◌≡◌, ℕ, ◌+◌, ◌<◌, ◌≤◌, ◌^◌, None, length, arith}
use Rattle.std.proofs.lemmas.Bool.Decides.{nat_tests}
use Rattle.tk_types.specs.declared.object.PipelineSpec.{PipelineSpec}
use Rattle.tk_types.specs.Place.{Place}
use Rattle.tk_validate.specs.Sizes.{over, pipeline_within}
use Rattle.tk_validate.proofs.FirstNone.{first_none}

not_over : (limit : ℕ) (at : Place) (count : ℕ) → over limit at count ≡ None → count ≤ limit
not_over limit at count e = grind (arith, nat_tests)

pub few_in_all : (at : Place) (pipeline : PipelineSpec) → pipeline_within at pipeline ≡ None → length pipeline.tasks + length pipeline.finally ≤ 5000
unfolding pipeline_within
few_in_all at pipeline e = not_over 5000 _ (length pipeline.tasks + length pipeline.finally) (first_none _ _ e)

pub few_tasks : (at : Place) (pipeline : PipelineSpec) → pipeline_within at pipeline ≡ None → length pipeline.tasks < 2 ^ 32
few_tasks at pipeline e = let h = few_in_all at pipeline e in omega arith

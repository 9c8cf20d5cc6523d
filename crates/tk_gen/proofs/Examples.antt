-- Numbers that are drawn, and texts of them.
use Rattle.std.proofs.Common.{◌≡◌, ◌/◌, ◌∷◌, [], Some, None, true, false, map, refl}
use Rattle.std.specs.Prelude.{codes}
use Rattle.std.specs.Fmt.{digits}
use Rattle.tk_types.specs.Lists.{repeated}
use Rattle.tk_gen.specs.Generate.{generated, next, one_of, task_text, tasks}

-- the first draws of number 1, before each is made a number below its count
draws_of_1 : map (λ draw. repeated next draw 1 / 65536) (1 ∷ 2 ∷ 3 ∷ 4 ∷ 5 ∷ 6 ∷ 7 ∷ []) ≡ 16838 ∷ 5758 ∷ 10113 ∷ 17515 ∷ 31051 ∷ 5627 ∷ 23010 ∷ []
unfolding next
draws_of_1 = refl

two_tasks : tasks 1 2 ≡ record { place = 0; has_matrix = false; retries = 0; parent = None } ∷ record { place = 1; has_matrix = false; retries = 2; parent = Some 0 } ∷ []
unfolding next one_of
two_tasks = refl

smallest : generated 1 1 ≡ codes "{\"apiVersion\":\"v1\",\"items\":[{\"apiVersion\":\"tekton.dev/v1\",\"kind\":\"PipelineRun\",\"metadata\":{\"name\":\"gen\"},\"spec\":{\"pipelineSpec\":{\"tasks\":[{\"name\":\"t0\",\"retries\":0,\"taskSpec\":{\"steps\":[{\"command\":[\"true\"]}]}}]}}}],\"kind\":\"List\"}"
unfolding next one_of digits
smallest = refl

-- a matrix, and a task before it
all_members : task_text (record { place = 12; has_matrix = true; retries = 1; parent = Some 10 }) ≡ codes "{\"matrix\":{\"params\":[{\"name\":\"p\",\"value\":[\"x\",\"y\",\"z\"]}]},\"name\":\"t12\",\"retries\":1,\"runAfter\":[\"t10\"],\"taskSpec\":{\"steps\":[{\"command\":[\"true\"]}]}}"
unfolding digits
all_members = refl

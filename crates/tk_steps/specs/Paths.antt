-- The files in a pod's folder.
use Rattle.std.specs.Prelude.{ℕ, ◌-◌, List, codes, decimal, nat_eq, if◌then◌else◌}
use Rattle.tk_edge.specs.InOrder.{Layout}
use Rattle.tk_space.specs.Space.{below, pod_folder}

-- the file for which the first step waits
abbrev pub start_path : List ℕ → List ℕ → List ℕ
start_path root pod = below (below (pod_folder root pod) (codes "run")) (codes "start")

-- the file that a step leaves once it passed
abbrev pub post_path : List ℕ → List ℕ → ℕ → List ℕ
post_path root pod step = below (below (below (pod_folder root pod) (codes "run")) (decimal step)) (codes "out")

-- a step waits for the one before it
abbrev pub wait_path : List ℕ → List ℕ → ℕ → List ℕ
wait_path root pod step = if nat_eq step 0 then start_path root pod else post_path root pod (step - 1)

abbrev pub script_path : List ℕ → List ℕ → ℕ → List ℕ
script_path root pod step = below (below (pod_folder root pod) (codes "scripts")) (decimal step)

abbrev pub result_path : List ℕ → List ℕ → List ℕ → List ℕ
result_path root pod result = below (below (pod_folder root pod) (codes "results")) result

abbrev pub layout_of : List ℕ → Layout
layout_of root = record { wait_of = wait_path root; post_of = post_path root }

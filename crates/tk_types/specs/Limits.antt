-- The limits of an input and of what it may mean.
use Rattle.std.specs.Prelude.{ℕ}

-- the bytes of an input, and its objects
abbrev pub longest_input : ℕ
longest_input = 8388608

abbrev pub most_objects : ℕ
most_objects = 1000

-- the tasks of a pipeline, the steps of a Task, and the retries of a task
abbrev pub most_tasks : ℕ
most_tasks = 5000

abbrev pub most_steps : ℕ
most_steps = 32

abbrev pub most_retries : ℕ
most_retries = 100

-- the combinations of a matrix
abbrev pub most_combinations : ℕ
most_combinations = 256

-- the weight of an input
abbrev pub most_weight : ℕ
most_weight = 200000

-- the bytes of an attempt's results
abbrev pub most_result_bytes : ℕ
most_result_bytes = 4096

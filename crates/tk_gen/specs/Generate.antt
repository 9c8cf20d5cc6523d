-- A pipeline whose tasks are drawn at random from a number, as a List in compact JSON.
use Rattle.std.specs.Prelude.{ℕ, zero, suc, ◌+◌, ◌*◌, ◌/◌, ◌%◌, Bool, not, ◌&&◌, ◌==◌, if◌then◌else◌, List, [], ◌∷◌, ◌++◌, map, Option, Some, None, codes, decimal}
use Rattle.std.specs.List.{join_with_byte}
use Rattle.tk_types.specs.Lists.{repeated}
use Rattle.tk_gen.specs.declared.task.DrawnTask.{DrawnTask}

-- the state that the next draw leaves
unfoldable pub next : ℕ → ℕ
next state = (state * 1103515245 + 12345) % 2147483648

-- what a draw gives that leaves this state: one of the numbers below count
unfoldable pub one_of : ℕ → ℕ → ℕ
one_of count state = state / 65536 % count

-- what a draw gives that comes behind so many others from a state on
abbrev pub drawn : ℕ → ℕ → ℕ → ℕ
drawn earlier count state = one_of count (repeated next (suc earlier) state)

-- a task but the first follows an earlier one where its first draw, of 4, isn't 0
abbrev pub follows : ℕ → ℕ → Bool
follows place state = not (place == 0) && not (drawn 0 4 state == 0)

-- the task of a place: it has a matrix where its second draw is 0, its retries are the third, and a fourth says which it follows
abbrev pub task_of : ℕ → ℕ → DrawnTask
task_of place state = record {
  place = place;
  has_matrix = drawn 1 8 state == 0;
  retries = drawn 2 3 state;
  parent = if follows place state then Some (drawn 3 place state) else None;
}

-- the state that its draws leave
abbrev pub state_behind : ℕ → ℕ → ℕ
state_behind place state = repeated next (if follows place state then 4 else 3) state

-- so many tasks from a place and a state on
abbrev pub tasks_from : ℕ → ℕ → ℕ → List DrawnTask
tasks_from zero place state = []
tasks_from (suc count) place state = task_of place state ∷ tasks_from count (suc place) (state_behind place state)

-- the tasks of a pipeline of this size
abbrev pub tasks : ℕ → ℕ → List DrawnTask
tasks number size = tasks_from size 0 number

-- the members of a task that may be missing, each with the comma behind it
abbrev pub matrix_text : Bool → List ℕ
matrix_text has_matrix = if has_matrix then codes "\"matrix\":{\"params\":[{\"name\":\"p\",\"value\":[\"x\",\"y\",\"z\"]}]}," else []

abbrev pub parent_text : Option ℕ → List ℕ
parent_text None = []
parent_text (Some parent) = codes "\"runAfter\":[\"t" ++ decimal parent ++ codes "\"],"

-- a task: its keys in byte order
abbrev pub task_text : DrawnTask → List ℕ
task_text t =
    codes "{" ++ matrix_text t.has_matrix
    ++ codes "\"name\":\"t" ++ decimal t.place ++ codes "\",\"retries\":" ++ decimal t.retries ++ codes ","
    ++ parent_text t.parent ++ codes "\"taskSpec\":{\"steps\":[{\"command\":[\"true\"]}]}}"

-- what stands before the task of a place in their list
abbrev pub separator : ℕ → List ℕ
separator place = if place == 0 then [] else codes ","

-- tasks, with a comma between each two
abbrev pub tasks_text : List DrawnTask → List ℕ
tasks_text ts = join_with_byte 44 (map task_text ts)

-- what stands before the tasks and behind them: a List of one PipelineRun with its pipeline inlined
abbrev pub front : List ℕ
front = codes "{\"apiVersion\":\"v1\",\"items\":[{\"apiVersion\":\"tekton.dev/v1\",\"kind\":\"PipelineRun\",\"metadata\":{\"name\":\"gen\"},\"spec\":{\"pipelineSpec\":{\"tasks\":["

abbrev pub back : List ℕ
back = codes "]}}}],\"kind\":\"List\"}"

-- the List of a number and a size
abbrev pub generated : ℕ → ℕ → List ℕ
generated number size = front ++ tasks_text (tasks number size) ++ back

-- The names of children, of pods and of generated objects.
use Rattle.std.specs.Prelude.{ℕ, zero, suc, ◌+◌, ◌/◌, ◌%◌, ◌^◌, Bool, ◌&&◌, nat_le, nat_lt, if◌then◌else◌, List, [], ◌∷◌, ◌++◌, map, length, take, slice_index, Option, Some, None, codes, decimal}
use Rattle.std.specs.List.{range_with_len}
use Rattle.std.specs.Char.{digit_char}
use Rattle.tk_types.specs.Limits.{most_retries}
use Rattle.md5.specs.Md5.{md5}
use Rattle.hex.specs.Hex.{encode_lower}

-- a byte that goes on with a character of UTF-8
abbrev pub goes_on : ℕ → Bool
goes_on b = nat_le 128 b && nat_lt b 192

-- the last place up to this one that doesn't cut a character: in ASCII the place itself
unfoldable pub cut_place : List ℕ → ℕ → ℕ
cut_place text zero = zero
cut_place text (suc place) = if goes_on (slice_index text (suc place)) then cut_place text place else suc place

-- a long text: its first 30 bytes, `-`, and the digits of the MD5 of the whole
abbrev pub shortened : List ℕ → List ℕ
shortened text = if nat_le (length text) 63 then text else take (cut_place text 30) text ++ codes "-" ++ encode_lower (md5 text)

-- a child's whole name, of combination i where the task has a matrix
abbrev pub whole_child_name : List ℕ → List ℕ → Option ℕ → List ℕ
whole_child_name run task None = run ++ codes "-" ++ task
whole_child_name run task (Some i) = run ++ codes "-" ++ task ++ codes "-" ++ decimal i

-- the name of a child
abbrev pub child_name : List ℕ → List ℕ → Option ℕ → List ℕ
child_name run task index = shortened (whole_child_name run task index)

-- the names that a task's children may have, of which there are at most so many where it has a matrix
abbrev pub child_names : List ℕ → List ℕ → Option ℕ → List (List ℕ)
child_names run task None = child_name run task None ∷ []
child_names run task (Some count) = map (λ i. child_name run task (Some i)) (range_with_len 0 count)

-- how many attempts a TaskRun may have, counted from 1
abbrev pub most_attempts : ℕ
most_attempts = most_retries + 1

-- the name of an attempt's pod, which is never shortened
abbrev pub pod_name : List ℕ → ℕ → List ℕ
pod_name task_run attempt = task_run ++ codes "-pod-" ++ decimal attempt

-- the digit of n in base 36 at a place, counted from the last: `0` to `9`, `a` to `z`
abbrev pub base_36 : ℕ → ℕ → ℕ
base_36 n place = digit_char (n / 36 ^ place % 36)

-- the prefix and five digits
abbrev pub generated : List ℕ → ℕ → List ℕ
generated start counter = start ++ map (base_36 counter) (4 ∷ 3 ∷ 2 ∷ 1 ∷ 0 ∷ [])

-- Any line that sees the labels of a task's parents, and for a task of `finally` those of `tasks`, has exactly one labelling that
-- judges itself, and judging again and again finds it.
use Rattle.std.proofs.Common.{◌≡◌, ℕ, ◌<◌, ◌≤◌, List, length, get_or, take, map, replicate, sym, ◌∙◌, ap, inl, inr, cond, arith}
use Rattle.std.specs.Prelude.{Contains, slice_index, nat_lt, if◌then◌else◌}
use Rattle.std.specs.List.{range_with_len}
use Rattle.std.proofs.lemmas.Bool.{cases_lt, lt-ltb, le-ltb}
use Rattle.std.proofs.lemmas.List.{ext_get_or, get_or-take, length-take-le}
use Rattle.tk_types.specs.Lists.{repeated}
use Rattle.tk_types.specs.declared.task.PipelineTask.{PipelineTask}
use Rattle.tk_graph.specs.Parents.{parents, IsRanking}
use Rattle.tk_verdict.proofs.Below.{below, below-lt, below-lt_self}
use Rattle.tk_verdict.proofs.Rounds.{only, right, length-after}

module _ {V : Type 0} (wait : V) (tasks : List PipelineTask) (total : ℕ) (line : List V → ℕ → V)
    (within_parents : (place p : ℕ) → Contains (parents tasks place) p → p < length tasks)
    (more : length tasks ≤ total)
    (sees_parents : (xs ys : List V) (place : ℕ) → place < length tasks
    → ((p : ℕ) → Contains (parents tasks place) p → get_or xs p wait ≡ get_or ys p wait) → line xs place ≡ line ys place)
    (sees_tasks : (xs ys : List V) (place : ℕ) → length tasks ≤ place → take (length tasks) xs ≡ take (length tasks) ys → line xs place ≡ line ys place)
    (ranks : List ℕ) (ranking : IsRanking tasks ranks) where
  abbrev count : ℕ
  count = length tasks

  -- the depth of a place: how many tasks have a lower rank; a task of `finally` stands above all of `tasks`
  abbrev depth : ℕ → ℕ
  depth place = if nat_lt place count then below (slice_index ranks) (slice_index ranks place) count else count

  depth_of_task : (place : ℕ) → place < count → depth place ≡ below (slice_index ranks) (slice_index ranks place) count
  depth_of_task place lt = ap (λ b. cond b (below (slice_index ranks) (slice_index ranks place) count) count) (lt-ltb place count lt)

  depth_of_finally : (place : ℕ) → count ≤ place → depth place ≡ count
  depth_of_finally place le = ap (λ b. cond b (below (slice_index ranks) (slice_index ranks place) count) count) (le-ltb place count le)

  -- each task of `tasks` is less deep than a task of `finally`
  depth-lt : (place : ℕ) → place < count → depth place < count
  depth-lt place lt = rw (depth_of_task place lt) (below-lt_self (slice_index ranks) count place lt)

  -- a parent is less deep than its child
  rises : (place p : ℕ) → place < count → Contains (parents tasks place) p → depth p < depth place
  rises place p lt c =
      let within : p < count = within_parents place p c in
      rw (depth_of_task p within, depth_of_task place lt)
      (below-lt (slice_index ranks) (slice_index ranks p) (slice_index ranks place) count p within (omega arith) (ranking.rising p place c))

  same_front : (xs ys : List V) → length xs ≡ total → length ys ≡ total
      → ((p : ℕ) → depth p < count → get_or xs p wait ≡ get_or ys p wait) → take count xs ≡ take count ys
  same_front xs ys long_x long_y same =
      let len_x : length (take count xs) ≡ count = length-take-le count xs (rw long_x more) in
      let len_y : length (take count ys) ≡ count = length-take-le count ys (rw long_y more) in
      ext_get_or wait (take count xs) (take count ys) (len_x ∙ sym len_y)
      (λ i lt.
      let within : i < count = omega arith in
      get_or-take count xs i wait within ∙ (same i (depth-lt i within) ∙ sym (get_or-take count ys i wait within)))

  -- labellings that agree on what is less deep give a place the same label
  local : (xs ys : List V) → length xs ≡ total → length ys ≡ total → (place : ℕ) → place < total
      → ((p : ℕ) → depth p < depth place → get_or xs p wait ≡ get_or ys p wait) → line xs place ≡ line ys place
  local xs ys long_x long_y place lt same =
      elim (cases_lt place count) [
        | inl within ↦ sees_parents xs ys place within (λ p c. same p (rises place p within c))
        | inr past ↦ sees_tasks xs ys place past (same_front xs ys long_x long_y (λ p lower. same p (rw (depth_of_finally place past) lower)))
      ]

  -- no place is deeper than there are tasks
  small : (place : ℕ) → place < total → depth place < total
  small place lt =
      elim (cases_lt place count) [
        | inl within ↦ let low : depth place < count = depth-lt place within in omega arith
        | inr past ↦ rw (depth_of_finally place past) (omega arith)
      ]

  abbrev pub judged_out : List V
  judged_out = repeated (λ labels. map (line labels) (range_with_len 0 total)) total (replicate total wait)

  pub judged_out-length : length judged_out ≡ total
  judged_out-length = length-after wait total line depth local small total

  pub judged_out-right : (place : ℕ) → place < total → get_or judged_out place wait ≡ line judged_out place
  judged_out-right = right wait total line depth local small

  pub one : (xs ys : List V) → length xs ≡ total → length ys ≡ total
      → ((i : ℕ) → i < total → get_or xs i wait ≡ line xs i) → ((i : ℕ) → i < total → get_or ys i wait ≡ line ys i) → xs ≡ ys
  one = only wait total line depth local small

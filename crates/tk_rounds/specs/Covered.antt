-- How far a member has seen the journal, by what its gate answered.
use Rattle.std.specs.Prelude.{◌≡◌, ◌≤◌, ◌+◌, ◌++◌, ◌∷◌, [], ℕ, suc, List, Bool, true, if◌then◌else◌}
use Rattle.tk_types.specs.declared.scenario.Kind.{Kind}
use Rattle.tk_types.specs.declared.scenario.Kind.TheVariants as kinds
use Rattle.tk_edge.specs.declared.gate.GateTurn.{GateTurn}
use Rattle.tk_edge.specs.declared.gate.GateTurn.TheVariants.{Deliver, Relist, Work, Pause}
use Rattle.tk_journal.specs.declared.entry.Fronts.{Fronts}
use Rattle.tk_journal.specs.declared.entry.Entry.{Entry}
use Rattle.tk_journal.specs.Effects.{same_kind}
use Rattle.tk_cache.specs.Fronts.{count_until}
use Rattle.tk_rounds.specs.Members.{count_that}

-- by how much an answer may move a kind's front
abbrev pub allowed_by : Kind → GateTurn → ℕ
allowed_by kind (Deliver k n) = if same_kind kind k then n else 0
allowed_by kind (Relist k position) = if same_kind kind k then position else 0
allowed_by kind Work = 0
allowed_by kind Pause = 0

abbrev pub allowed : Kind → List GateTurn → ℕ
allowed kind [] = 0
allowed kind (answer ∷ older) = allowed_by kind answer + allowed kind older

-- how many answers are Work
abbrev pub work_of : GateTurn → ℕ
work_of Work = 1
work_of (Deliver k n) = 0
work_of (Relist k position) = 0
work_of Pause = 0

abbrev pub works : List GateTurn → ℕ
works [] = 0
works (answer ∷ older) = work_of answer + works older

-- these answers let the fronts be where they are: the entries of each kind that stand at or before its front are at most as
-- many as was delivered and listed
pub record IsCovered (answers : List GateTurn) (history : List Entry) (fronts : Fronts) : Type 0 where
  pub runs : count_until kinds.Runs fronts.runs history ≤ allowed kinds.Runs answers
  pub task_runs : count_until kinds.TaskRuns fronts.task_runs history ≤ allowed kinds.TaskRuns answers
  pub pods : count_until kinds.Pods fronts.pods history ≤ allowed kinds.Pods answers

-- The answers up to some moment cover the fronts, and as many answers Work follow as the member writes entries from this one on.
pub record HasAnswers (answers : List GateTurn) (newer_ones : ℕ) (older : List Entry) (fronts : Fronts) : Type 0 where
  pub later : List GateTurn
  pub before : List GateTurn
  pub split : answers ≡ later ++ before
  pub covered : IsCovered before older fronts
  pub worked : suc newer_ones ≤ works later

-- so it is for each entry of the member
abbrev pub AreCovered : (Entry → Bool) → List GateTurn → List Entry → Type 0
AreCovered mine answers journal =
    (newer : List Entry) (e : Entry) (older : List Entry) → journal ≡ newer ++ e ∷ older → mine e ≡ true
    → HasAnswers answers (count_that mine newer) older e.fronts

-- What kept labels stand for, and what a change asks of it.
use Rattle.std.specs.Prelude.{◌≡◌, ◌≢◌, ℕ, ◌<◌, ◌≤◌, ◌^◌, Bool, false, not, List, [], length, map, slice_get, Contains, Option, Some, None, IfSome, IfNone}
use Rattle.std.specs.List.{list_all, list_any, range_with_len}
use Rattle.std.specs.Option.{option_map_or}
use Rattle.tk_types.specs.declared.task.PipelineTask.{PipelineTask}
use Rattle.tk_types.specs.declared.run.Child.{Child}
use Rattle.tk_types.specs.declared.run.Facts.{Facts}
use Rattle.tk_types.specs.declared.run.Outcome.{Outcome}
use Rattle.tk_types.specs.declared.run.RunSpec.{RunSpec}
use Rattle.tk_types.specs.declared.verdict.Verdict.{Verdict}
use Rattle.tk_types.specs.declared.verdict.Verdict.TheVariants.{Ready}
use Rattle.tk_graph.specs.Parents.{parents, IsRanking}
use Rattle.tk_labels.specs.declared.change.Change.{Change}
use Rattle.tk_labels.specs.declared.change.Change.TheVariants.{Stop, Children, Ended}
use Rattle.tk_labels.specs.declared.spans.Span.{Span}
use Rattle.tk_labels.specs.Spans.{AreSpanned}
use Rattle.tk_verdict.specs.Facts.{children_of, is_good, task_total}
use Rattle.tk_verdict.specs.Labels.{labels_of}
use Rattle.tk_verdict.specs.declared.sequence.Ranked.{Ranked}
use Rattle.tk_verdict.specs.Sequence.{IsSequence}
use Rattle.tk_verdict.specs.Verdict.{is_done, label_at}
use Rattle.tk_verdict.specs.WellFormed.{IsWellFormed}

-- a run without stops and children
abbrev pub fresh : RunSpec → Facts
fresh spec = record { spec = spec; stops = []; children = [] }

-- a run with these children in place of its own
abbrev pub of_run : Facts → List Child → Facts
of_run run children = record { spec = run.spec; stops = run.stops; children = children }

-- the task exists and may get so many children: it has none
pub record MayHave (facts : Facts) (task count : ℕ) : Type 0 where
  pub exists : task < task_total facts
  pub none : children_of facts task ≡ []
  pub few : count ≤ 2 ^ 32

-- a stop may always be recorded, a task without children may get some, and a child that runs may end
abbrev pub MayChange : Change → Facts → Type 0
MayChange (Stop stop) facts = Unit {0}
MayChange (Children task outcomes) facts = MayHave facts task (length outcomes)
MayChange (Ended task index outcome) facts = Contains facts.children (record { task = task; index = index; outcome = None })

-- the sequence has the tasks by rising ranks
pub record IsRanked (tasks : List PipelineTask) (order : List Ranked) : Type 0 where
  pub ranks : List ℕ
  pub ranking : IsRanking tasks ranks
  pub sequence : IsSequence ranks order

-- the facts are well formed, the parents of each task and a sequence by rank are those of their tasks, and the labels are theirs
pub record IsKept (facts : Facts) (lists : List (List ℕ)) (order : List Ranked) (labels : List Verdict) : Type 0 where
  pub formed : IsWellFormed facts
  pub above : lists ≡ map (parents facts.spec.tasks) (range_with_len 0 (length facts.spec.tasks))
  pub ranked : IsRanked facts.spec.tasks order
  pub labelled : labels ≡ labels_of facts

-- the child's task is one of `tasks`, and it ended and isn't good for it
abbrev pub ended_badly : Option Outcome → PipelineTask → Bool
ended_badly None task = false
ended_badly (Some outcome) task = not (is_good task outcome)

abbrev pub is_bad : RunSpec → Child → Bool
is_bad spec child = option_map_or (ended_badly child.outcome) (slice_get spec.tasks child.task) false

-- some child of the run is so
abbrev pub has_bad : Facts → Bool
has_bad facts = list_any (is_bad facts.spec) facts.children

-- and the children of each task stand where its span says, and whether one is bad is known
pub record IsHeld (facts : Facts) (spans : List Span) (lists : List (List ℕ)) (order : List Ranked) (labels : List Verdict) (one_bad : Bool) : Type 0 where
  pub kept : IsKept facts lists order labels
  pub spanned : AreSpanned facts.children spans
  pub bad : one_bad ≡ has_bad facts

-- the task is Ready, and no task before it
pub record IsFirstReady (labels : List Verdict) (place : ℕ) : Type 0 where
  pub ready : label_at labels place ≡ Ready
  pub least : (before : ℕ) → before < place → label_at labels before ≢ Ready

-- the first place whose label is Ready, if one is, and whether all are done
pub record IsSummed (labels : List Verdict) (ready : Option ℕ) (done : Bool) : Type 0 where
  pub some : IfSome ready (λ place. IsFirstReady labels place)
  pub none : IfNone ready ((place : ℕ) → label_at labels place ≢ Ready)
  pub all : done ≡ list_all is_done labels

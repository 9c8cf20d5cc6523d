-- What is kept beside a cache is what it shows of its runs.
use Rattle.std.specs.Prelude.{◌≡◌, ℕ, Bool, List, map, filter, Option, is_none, option_map, string_bytes}
use Rattle.std.specs.declared.string.String.{String}
use Rattle.indexmap.specs.IndexMap.{IndexMap, get_by_text, keys}
use Rattle.tk_types.specs.declared.run.Child.{Child}
use Rattle.tk_types.specs.declared.run.Facts.{Facts}
use Rattle.tk_journal.specs.declared.object.RunState.{RunState}
use Rattle.tk_journal.specs.History.{View}
use Rattle.tk_journal.specs.Names.{child_name_of}
use Rattle.tk_journal.specs.RunRows.{facts_in}

-- the child has no TaskRun, as it is seen
abbrev pub is_missing : View → RunState → Child → Bool
is_missing view run child = is_none (view.task_run (child_name_of run.spec child.task child.index))

-- the children of a run that have none
abbrev pub missing_in : View → RunState → List Child
missing_in view run = filter (is_missing view run) (facts_in view run).children

-- the facts of the run of a name, and its children without a TaskRun, as they are seen
abbrev pub facts_seen : View → List ℕ → Option Facts
facts_seen view name = option_map (facts_in view) (view.run name)

abbrev pub missing_seen : View → List ℕ → Option (List Child)
missing_seen view name = option_map (missing_in view) (view.run name)

-- how a run stands: its facts, and its children without a TaskRun
pub record Standing : Type 0 where
  pub facts : Facts
  pub missing : List Child

abbrev pub standing_in : View → RunState → Standing
standing_in view run = record { facts = facts_in view run; missing = missing_in view run }

abbrev pub standing_seen : View → List ℕ → Option Standing
standing_seen view name = option_map (standing_in view) (view.run name)

-- the names of what is kept, in order
abbrev pub kept_names : {A X S : Type 0} → IndexMap (String A) X S → List (List ℕ)
kept_names kept = map string_bytes (keys kept)

-- what is kept stands for each run that is seen, in the same order, and for no other
pub record AreLabelled {A S : Type 0} (view : View) (kept : IndexMap (String A) Standing S) : Type 0 where
  pub standing : (name : List ℕ) → get_by_text kept name ≡ standing_seen view name
  pub names : kept_names kept ≡ view.runs

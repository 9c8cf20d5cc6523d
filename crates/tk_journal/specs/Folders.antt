-- The folders of workspaces of different attempts (Tekton, Workspaces, Using Workspaces in Tasks).
use Rattle.std.specs.Prelude.{◌≡◌, ◌<◌, ◌≤◌, ℕ, List, [], ◌∷◌, length, Some, None, Contains}
use Rattle.tk_types.specs.declared.task.Space.{Space}
use Rattle.tk_space.specs.Space.{space_folder}
use Rattle.tk_space.specs.Apart.{IsWithin}
use Rattle.tk_names.specs.Children.{pod_name}
use Rattle.tk_journal.specs.declared.act.Act.{Act}
use Rattle.tk_journal.specs.declared.act.Act.TheVariants as acts
use Rattle.tk_journal.specs.declared.entry.Entry.{Entry}
use Rattle.tk_journal.specs.declared.object.TaskRunState.{TaskRunState}
use Rattle.tk_journal.specs.History.{past, task_run_of}
use Rattle.tk_journal.specs.Legal.{IsLegal}

-- what it admits has this root
abbrev pub HasRoot : List ℕ → Act → Type 0
HasRoot root (acts.Admit name spec pending asked own) = own ≡ root
HasRoot root _ = Unit {0}

-- all that is admitted has it
abbrev pub HaveRoot : List ℕ → List Entry → Type 0
HaveRoot root [] = Unit {0}
HaveRoot root (e ∷ older) = HasRoot root e.act × HaveRoot root older

-- a bound workspace of an attempt that was opened, counted from 1
pub record HasSpace (history : List Entry) (name : List ℕ) (attempt : ℕ) (space : Space) : Type 0 where
  pub task_run : TaskRunState
  pub there : task_run_of history name ≡ Some task_run
  pub from_one : 0 < attempt
  pub opened : attempt ≤ length task_run.attempts
  pub bound : Contains task_run.spec.body.bound space

-- its folder
abbrev pub folder_for : TaskRunState → List ℕ → ℕ → Space → List ℕ
folder_for task_run name attempt space = space_folder task_run.root (pod_name name attempt) space

-- the folder of an attempt's emptyDir neither is nor lies under a folder of another attempt
abbrev pub FoldersApart : Type 0
FoldersApart =
    (history : List Entry) → IsLegal history → (root : List ℕ) → HaveRoot root history → (n : ℕ) (one other : List ℕ) (attempt later : ℕ) (own far : Space)
    → (a : HasSpace (past n history) one attempt own) → (b : HasSpace (past n history) other later far)
    → ((one ≡ other) × (attempt ≡ later) → ⊥) → own.claim ≡ None
    → IsWithin (folder_for b.task_run other later far) (folder_for a.task_run one attempt own) → ⊥

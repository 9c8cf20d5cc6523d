-- What a run worker asks of the list of a run's labels.
use Rattle.std.specs.Prelude.{ℕ, suc, Bool, not, ◌&&◌, List, [], ◌∷◌, ◌++◌, Option, Some, None, if◌then◌else◌}
use Rattle.tk_types.specs.declared.verdict.Verdict.{Verdict}
use Rattle.tk_verdict.specs.Verdict.{is_done, is_ready}
use Rattle.tk_journal.specs.declared.act.Skip.{Skip}
use Rattle.tk_journal.specs.RunRows.{skip_of}

abbrev pub is_undone : Verdict → Bool
is_undone label = not (is_done label)

-- the skipped ones of the tasks from `task` on
abbrev pub skips_in : ℕ → List Verdict → List Skip
skips_in task [] = []
skips_in task (label ∷ labels) = skip_of task label ++ skips_in (suc task) labels

-- the first task from `task` on that is Ready and passes the test
abbrev pub first_ready : (ℕ → Bool) → ℕ → List Verdict → Option ℕ
first_ready may task [] = None
first_ready may task (label ∷ labels) = if is_ready label && may task then Some task else first_ready may (suc task) labels

use Rattle.std.proofs.Common.{◌≡◌, ◌++◌, drop}
use Rattle.std.specs.Prelude.{filter_map}
use Rattle.std.specs.List.{enumerate_from}
use Rattle.tk_verdict.specs.Status.{word_among}
use Rattle.tk_verdict.proofs.status.push_status_words.Given as goal

-- the words so far, and those of the tasks that are left, are the whole
abbrev pub invariant-loop-place : goal.invariant-loop-place
invariant-loop-place l = l.words ++ filter_map (word_among l.groups l.labels) (enumerate_from l.place (drop l.place l.tasks)) ≡ l.initial.words ++ filter_map (word_among l.groups l.labels) (enumerate_from 0 l.tasks)

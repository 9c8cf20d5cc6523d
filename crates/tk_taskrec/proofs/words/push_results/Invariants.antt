use Rattle.std.proofs.Common.{◌≡◌, ◌++◌, map, take}
use Rattle.tk_journal.specs.Plan.{result_word}
use Rattle.tk_taskrec.proofs.words.push_results.Given as goal

abbrev pub invariant-loop-spec : goal.invariant-loop-spec
invariant-loop-spec l = l.words ≡ l.initial.words ++ map (result_word l.folder) (take l.spec-index l.results)

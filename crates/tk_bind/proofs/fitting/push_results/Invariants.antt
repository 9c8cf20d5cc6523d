use Rattle.std.proofs.Common.{◌≡◌, ◌++◌, take}
use Rattle.tk_bind.specs.Fits.{result_words}
use Rattle.tk_bind.proofs.fitting.push_results.Given as goal

-- the words of the results so far are added
abbrev pub invariant-loop-spec : goal.invariant-loop-spec
invariant-loop-spec l = l.words ≡ l.initial.words ++ result_words (take l.spec-index l.results)

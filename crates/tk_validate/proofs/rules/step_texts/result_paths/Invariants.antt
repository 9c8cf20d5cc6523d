use Rattle.std.proofs.Common.{◌≡◌, ◌++◌, drop}
use Rattle.tk_bind.specs.Fits.{result_words}
use Rattle.tk_validate.specs.Seen.{keys}
use Rattle.tk_validate.proofs.rules.step_texts.result_paths.Given as goal

-- what is made so far, and what those that are left give, are the whole
abbrev pub invariant-loop-spec : goal.invariant-loop-spec
invariant-loop-spec l = l.paths ++ keys (result_words (drop l.spec-index l.results)) ≡ keys (result_words l.results)

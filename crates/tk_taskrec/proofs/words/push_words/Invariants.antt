use Rattle.std.proofs.Common.{◌≡◌, ◌++◌, take}
use Rattle.tk_taskrec.proofs.words.push_words.Given as goal

abbrev pub invariant-loop-pair : goal.invariant-loop-pair
invariant-loop-pair l = l.words ≡ l.initial.words ++ take l.pair-index l.more

use Rattle.std.proofs.Common.{◌≡◌, ◌++◌, drop, map}
use Rattle.tk_words.proofs.ordered.add_others.Given as goal

abbrev pub invariant-loop-word : goal.invariant-loop-word
invariant-loop-word l = map (λ w. w.now) l.words.items ++ drop l.word-index l.others ≡ map (λ w. w.now) l.fn.words.items ++ l.others

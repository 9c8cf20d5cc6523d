use Rattle.std.proofs.Common.{◌≡◌, flat_map, take}
use Rattle.tk_space.specs.Space.{words_of_space}
use Rattle.tk_space.proofs.variables.words.Given as goal

abbrev pub invariant-loop-spec : goal.invariant-loop-spec
invariant-loop-spec l = l.words ≡ flat_map (words_of_space l.root l.pod l.bound) (take l.spec-index l.specs)

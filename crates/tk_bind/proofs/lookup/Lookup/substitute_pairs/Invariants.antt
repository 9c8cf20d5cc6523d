use Rattle.std.proofs.Common.{◌≡◌, map, drop}
use Rattle.tk_types.specs.Lists.{all_ok}
use Rattle.tk_bind.specs.Substitute.{substituted_pair}
use Rattle.tk_bind.proofs.Gathering.{after}
use Rattle.tk_bind.proofs.lookup.Lookup.substitute_pairs.Given as goal

-- the pairs so far, and what the pairs that are left give, are the whole
abbrev pub invariant-loop-pair : goal.invariant-loop-pair
invariant-loop-pair l = after l.made (all_ok (map (substituted_pair l.self) (drop l.pair-index l.pairs))) ≡ all_ok (map (substituted_pair l.self) l.pairs)

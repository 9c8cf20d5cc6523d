use Rattle.std.proofs.Common.{◌≡◌, map, drop}
use Rattle.std.specs.Result.{result_ok}
use Rattle.tk_bind.specs.Substitute.{substituted_pair}
use Rattle.tk_types.specs.Lists.{all_ok}
use Rattle.tk_taskrec.proofs.Gathered.{gathered}
use Rattle.tk_taskrec.proofs.texts.pairs.Given as goal

-- the pairs so far, and those to come
abbrev pub invariant-loop-written : goal.invariant-loop-written
invariant-loop-written l = gathered (λ pair. result_ok (substituted_pair l.lookup pair)) l.made (drop l.written-index l.pairs) ≡ result_ok (all_ok (map (substituted_pair l.lookup) l.pairs))

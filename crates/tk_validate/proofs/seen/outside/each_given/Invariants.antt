use Rattle.std.proofs.Common.{◌≡◌, ◌++◌, drop}
use Rattle.std.specs.List.{flat_map}
use Rattle.tk_validate.specs.Seen.{params_seen}
use Rattle.tk_validate.proofs.seen.outside.each_given.Given as goal

-- what is made so far, and what those that are left give, are the whole
abbrev pub invariant-loop-entry : goal.invariant-loop-entry
invariant-loop-entry l = l.all ++ flat_map (params_seen l.outer) (drop l.entry-index l.entries) ≡ flat_map (params_seen l.outer) l.entries

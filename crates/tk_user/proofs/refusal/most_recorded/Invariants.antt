use Rattle.std.proofs.Common.{◌≡◌, drop}
use Rattle.tk_types.specs.Behaviour.{level_of}
use Rattle.tk_user.specs.Ask.{greatest}
use Rattle.tk_user.proofs.refusal.most_recorded.Given as goal

abbrev pub invariant-loop-place : goal.invariant-loop-place
invariant-loop-place l = greatest level_of l.fn.from l.fn.stops ≡ greatest level_of l.most (drop l.place l.fn.stops)

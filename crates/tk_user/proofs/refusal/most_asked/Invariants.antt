use Rattle.std.proofs.Common.{◌≡◌, drop}
use Rattle.tk_journal.specs.Stops.{asked_level}
use Rattle.tk_user.specs.Ask.{greatest}
use Rattle.tk_user.proofs.refusal.most_asked.Given as goal

abbrev pub invariant-loop-place : goal.invariant-loop-place
invariant-loop-place l = greatest asked_level 0 l.fn.asked ≡ greatest asked_level l.most (drop l.place l.fn.asked)

use Rattle.std.proofs.Common.{◌≡◌, drop}
use Rattle.tk_resolve.specs.Due.{seen}
use Rattle.tk_resolve.specs.Misuse.{any_use}
use Rattle.tk_resolve.proofs.uses.any_use.Given as goal

-- the texts that are left decide
abbrev pub invariant-loop-standing : goal.invariant-loop-standing
invariant-loop-standing g l = any_use (g.Q.Question.asks l.question) (seen (drop l.standing-index l.texts)) ≡ any_use (g.Q.Question.asks l.question) (seen l.texts)

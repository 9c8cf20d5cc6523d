use Rattle.std.proofs.Common.{◌≡◌, ◌++◌, take}
use Rattle.tk_resolve.specs.Due.{dues, seen}
use Rattle.tk_resolve.proofs.due.add_texts.Given as goal

-- the texts so far stand behind those that were there
abbrev pub invariant-loop-text : goal.invariant-loop-text
invariant-loop-text l = seen l.made.items ≡ seen l.fn.made.items ++ dues l.due (take l.text-index l.texts)

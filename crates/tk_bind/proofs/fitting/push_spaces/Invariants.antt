use Rattle.std.proofs.Common.{◌≡◌, ◌++◌, take}
use Rattle.tk_bind.specs.Fits.{space_words}
use Rattle.tk_bind.proofs.fitting.push_spaces.Given as goal

-- the words of the workspaces so far are added
abbrev pub invariant-loop-space : goal.invariant-loop-space
invariant-loop-space l = l.words ≡ l.initial.words ++ space_words (take l.space-index l.spaces)

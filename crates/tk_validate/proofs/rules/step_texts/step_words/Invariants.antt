use Rattle.std.proofs.Common.{◌≡◌, ◌++◌, take}
use Rattle.std.specs.List.{flat_map}
use Rattle.tk_types.specs.declared.task.SpaceSpec.{SpaceSpec}
use Rattle.tk_bind.specs.Fits.{words_of_space}
use Rattle.tk_validate.specs.Seen.{keys}
use Rattle.tk_validate.proofs.rules.step_texts.step_words.Given as goal

-- the words of the workspaces so far are added
abbrev pub invariant-loop-space : goal.invariant-loop-space
invariant-loop-space l = l.words ≡ l.fn.context ++ flat_map (λ (s : SpaceSpec). keys (words_of_space s.name)) (take l.space-index l.spaces)

use Rattle.std.proofs.Common.{◌≡◌, ◌∙◌, ◌++◌, ap, sym, arith}
use Rattle.std.proofs.lemmas.Grind.{common_steps}
use Rattle.std.specs.List.{flat_map}
use Rattle.tk_types.specs.declared.task.SpaceSpec.{SpaceSpec}
use Rattle.tk_bind.specs.Fits.{words_of_space}
use Rattle.tk_validate.specs.Seen.{keys}
use Rattle.tk_validate.proofs.StepWords.{keys_each}
use Rattle.tk_validate.proofs.rules.step_texts.step_words.Goals as goal

pub returns : goal.returns
returns c =
    let each : c.loop-space.words ≡ c.args.context ++ flat_map (λ (s : SpaceSpec). keys (words_of_space s.name)) c.args.spaces.now = grind (arith, common_steps) in
    each ∙ ap (λ ws. c.args.context ++ ws) (sym (keys_each c.args.spaces.now))

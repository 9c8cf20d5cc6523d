use Rattle.std.proofs.Common.{◌≡◌, true, ◌∙◌, arith}
use Rattle.std.proofs.lemmas.Grind.{common_steps}
use Rattle.tk_commands.specs.GenerateWords.{is_numeral}
use Rattle.tk_commands.proofs.Numerals.{parsed_numeral}
use Rattle.tk_commands.proofs.generate_words.numeral.Goals as goal

pub returns : goal.returns
returns c =
    let is : is_numeral c.args.word.now ≡ true = grind (arith, common_steps) in
    c.ok.ensures.value ∙ parsed_numeral c.args.word.now c.parse.result c.parse.ensures.value.0 is

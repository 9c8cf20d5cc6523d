use Rattle.std.proofs.Common.{◌≡◌, true, ◌∙◌, arith}
use Rattle.std.proofs.lemmas.Grind.{common_steps}
use Rattle.tk_scenario.specs.Words.{is_numeral}
use Rattle.tk_scenario.proofs.Numerals.{parsed-number_told}
use Rattle.tk_scenario.proofs.words.number.Goals as goal

pub returns : goal.returns
returns c =
    let is : is_numeral c.args.word.now ≡ true = grind (arith, common_steps) in
    c.ok.ensures.value ∙ parsed-number_told c.args.word.now c.parse.result c.parse.ensures.value.0 is

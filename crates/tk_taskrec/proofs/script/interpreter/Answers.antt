use Rattle.std.proofs.Common.{◌∷◌, ℕ, List, ap, sym, ◌∙◌}
use Rattle.tk_taskrec.proofs.Scripts.{runs}
use Rattle.tk_taskrec.specs.Scripts.{first_word, behind_word}
use Rattle.tk_taskrec.proofs.script.interpreter.Goals as goal

pub returns : goal.returns
returns c =
    let found = c.in-Some.ensures.cases in
    runs c.args.text.now c.in-Some.rest.now c.words.result.0.now c.words.result.1.now (found.1.1 ∙ ap (λ (r : List ℕ). 35 ∷ 33 ∷ r) (sym found.2)) (c.words.ensures.program ∙ ap first_word c.first_line.ensures) (c.words.ensures.rest ∙ ap behind_word c.first_line.ensures) (sym c.is_empty.ensures ∙ c.if-is_empty.false)

use Rattle.std.proofs.Common.{[], ◌∷◌, sym, ◌∙◌}
use Rattle.tk_vars.specs.Grammar.{word}
use Rattle.tk_vars.proofs.grammar.are_words.Goals as goal

pub returns-in-Some : goal.returns-in-Some
returns-in-Some c = c.is_word.ensures ∙ sym (c.in-Some.ensures (word c.args.second.now ∷ []))

pub returns-in-None : goal.returns-in-None
returns-in-None c = sym (c.in-None.ensures (word c.args.second.now ∷ []))

use Rattle.std.proofs.Common.{[], ◌∷◌, sym, ◌∙◌}
use Rattle.std.specs.Prelude.{codes}
use Rattle.tk_vars.specs.Grammar.{word, part, selector}
use Rattle.tk_vars.proofs.grammar.is_task_result.Goals as goal

pub returns-in_default : goal.returns-in_default
returns-in_default c = sym (c.in_default.ensures (word (codes "results") ∷ part ∷ selector ∷ []))

pub returns-in-Some-after_word : goal.returns-in-Some-after_word
returns-in-Some-after_word c = c.is_selected.ensures ∙ sym (c.in-Some.ensures (word (codes "results") ∷ part ∷ selector ∷ []) ∙ c.in-Some-after_word.ensures (part ∷ selector ∷ []))

pub returns-in-None : goal.returns-in-None
returns-in-None c = sym (c.in-Some.ensures (word (codes "results") ∷ part ∷ selector ∷ []) ∙ c.in-None.ensures (part ∷ selector ∷ []))

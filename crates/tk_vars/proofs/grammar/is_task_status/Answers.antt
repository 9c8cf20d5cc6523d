use Rattle.std.proofs.Common.{[], ◌∷◌, sym, ◌∙◌}
use Rattle.std.specs.Prelude.{codes}
use Rattle.tk_vars.specs.Grammar.{word}
use Rattle.tk_vars.proofs.grammar.is_task_status.Goals as goal

pub returns-in-Some : goal.returns-in-Some
returns-in-Some c = c.is_word.ensures ∙ sym (c.in-Some.ensures (word (codes "status") ∷ []))

pub returns-in-None : goal.returns-in-None
returns-in-None c = sym (c.in-None.ensures (word (codes "status") ∷ []))

use Rattle.std.proofs.Common.{◌∷◌, sym, ◌∙◌, ap}
use Rattle.tk_vars.specs.Grammar.{must_stand}
use Rattle.tk_vars.proofs.HeadFacts.{not_due}
use Rattle.tk_vars.proofs.grammar.must_stand.Goals as goal

pub returns-in-Some : goal.returns-in-Some
returns-in-Some c = c.has_head.ensures ∙ (ap (λ t. must_stand (36 ∷ 40 ∷ t)) c.as_bytes.ensures.value ∙ ap (λ t. must_stand (36 ∷ t)) (sym c.in-Some.ensures))

pub returns-in-None : goal.returns-in-None
returns-in-None c = sym (not_due c.args.after.now c.in-None.ensures)

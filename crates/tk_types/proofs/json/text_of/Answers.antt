use Rattle.std.proofs.Common.{◌∙◌, ap, Some, ℕ, List}
use Rattle.tk_types.proofs.Texts.{text_of-no_text, text_of-text}
use Rattle.tk_types.proofs.json.text_of.Goals as goal

pub returns-in-Ok : goal.returns-in-Ok
returns-in-Ok c = ap (λ (t : List ℕ). Some t) c.in-Ok.ensures.cases.0 ∙ text_of-text c.args.bytes.now c.in-Ok.ensures.cases.1

pub returns-in-Err : goal.returns-in-Err
returns-in-Err c = text_of-no_text c.args.bytes.now c.in-Err.ensures.cases.0

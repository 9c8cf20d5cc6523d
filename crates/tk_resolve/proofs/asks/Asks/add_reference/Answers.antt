use Rattle.std.proofs.Common.{◌++◌, [], ◌∷◌, ap, subst, ◌∙◌}
use Rattle.std.proofs.lemmas.Result.{on_ok_weaker}
use Rattle.tk_resolve.specs.Asks.{IsAsked}
use Rattle.tk_resolve.proofs.Asked.{adds_again, adds_asked}
use Rattle.tk_resolve.proofs.asks.Asks.add_reference.Goals as goal

pub returns-then-is_asked : goal.returns-then-is_asked
returns-then-is_asked c =
    adds_again c.args.due c.args.reference.now c.args.self.now c.requires
    (subst (IsAsked c.args.self.now c.args.due) c.as_str-spelling.ensures (c.is_asked.ensures c.if-is_asked.true))

pub returns : goal.returns
returns c =
    on_ok_weaker c.ask.result
    (λ is.
    adds_asked c.args.due c.args.reference.now c.args.self.now c.ask.new.self c.requires (is ∙ ap (λ spelling. c.args.self.now ++ (c.args.due, spelling) ∷ []) c.as_str-spelling.ensures))
    c.ask.ensures

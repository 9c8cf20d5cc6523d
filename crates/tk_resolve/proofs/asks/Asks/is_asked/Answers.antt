use Rattle.std.proofs.Common.{Contains, sym, subst, ◌∙◌}
use Rattle.tk_resolve.proofs.asks.Asks.is_asked.Goals as goal

pub returns-in-Some : goal.returns-in-Some
returns-in-Some c = λ strict. (
  c.in-Some.known.now,
  subst (λ asks. Contains asks (c.in-Some.known.now, c.args.spelling.now)) c.self.view_is (c.self.invariant c.args.spelling.now c.in-Some.known.now (sym c.in-Some.ensures.value)),
  sym c.is_as_strict_as.ensures ∙ strict,
)

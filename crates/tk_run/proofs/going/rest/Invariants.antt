use Rattle.std.proofs.Common.{◌≡◌}
use Rattle.tk_run.proofs.going.rest.Given as goal

abbrev pub invariant-loop : goal.invariant-loop
invariant-loop g l = record {
  last : g.K.Clock.last l.user ≡ g.K.Clock.last l.fn.user;
  told : g.K.Clock.readings l.user ≡ g.K.Clock.readings l.fn.user;
}

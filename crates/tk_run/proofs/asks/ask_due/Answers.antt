use Rattle.std.proofs.Common.{◌≤◌, ◌∙◌, ℕ, subst, sym}
use Rattle.tk_run.specs.Asks.{IsOfUser}
use Rattle.tk_rounds.proofs.Growing.{grows_on}
use Rattle.tk_run.proofs.asks.ask_due.Goals as goal

pub returns-in_err-ask_word-clause-grows : goal.returns-in_err-ask_word-clause-grows
returns-in_err-ask_word-clause-grows g c =
    grows_on IsOfUser c.args.store.now.history c.loop-place.store.history c.ask_word.new.store.history c.loop-place.invariant.grows c.ask_word.ensures.grows

pub returns-in_err-ask_word-clause-asks : goal.returns-in_err-ask_word-clause-asks
returns-in_err-ask_word-clause-asks g c since le was =
    c.ask_word.ensures.asks since (subst (λ (n : ℕ). since ≤ n) (sym c.loop-place.invariant.start) le) (c.loop-place.invariant.asks since le was)

pub loop-place-preserved : goal.loop-place-preserved
loop-place-preserved g c = record {
  count = c.ask_word.ensures.count ∙ c.loop-place.invariant.count;
  start = c.ask_word.ensures.start ∙ c.loop-place.invariant.start;
  legal = c.ask_word.ensures.legal;
  grows = grows_on IsOfUser c.args.store.now.history c.loop-place.store.history c.ask_word.new.store.history c.loop-place.invariant.grows c.ask_word.ensures.grows;
  asks = λ since le was. c.ask_word.ensures.asks since (subst (λ (n : ℕ). since ≤ n) (sym c.loop-place.invariant.start) le) (c.loop-place.invariant.asks since le was);
  user = λ since is. c.ask_word.ensures.user since (c.loop-place.invariant.user since is);
  end = c.loop-place.invariant.end;
}

use Rattle.std.proofs.Common.{◌≤◌, ◌∙◌, ℕ, subst, sym}
use Rattle.tk_cache.specs.Fronts.{Shows}
use Rattle.tk_cache.specs.Views.{seen}
use Rattle.tk_cache.proofs.Showing.{shows_grown}
use Rattle.tk_run.proofs.Onward.{goes_on, rested_goes, rested_ready}
use Rattle.tk_run.proofs.going.rounds.Goals as goal

pub returns-in_err-grew-clause-goes : goal.returns-in_err-grew-clause-goes
returns-in_err-grew-clause-goes g c = goes_on g.G.Gate.answers g.K.Clock.readings g.K.Clock.last g.H.Host.told g.H.Host.faults c.args.bench.now c.loop.bench c.go_on.new.bench c.args.store.now.history c.loop.store.history c.go_on.new.store.history c.loop.invariant.goes c.go_on.ensures.goes

pub returns-in_err-grew-clause-asks : goal.returns-in_err-grew-clause-asks
returns-in_err-grew-clause-asks g c since le was = c.go_on.ensures.asks since (subst (λ (n : ℕ). since ≤ n) (sym c.loop.invariant.start) le) (c.loop.invariant.asks since le was)

pub is_over-requires : goal.is_over-requires
is_over-requires g c = record {
  shows = subst (Shows (seen c.loop.watch)) (sym c.go_on.ensures.goes.grows.grown) (shows_grown (seen c.loop.watch) c.go_on.ensures.goes.grows.new c.loop.store.history c.loop.invariant.shows);
  count = c.go_on.ensures.count ∙ c.loop.invariant.count;
}

pub returns-in_err-is_over-clause-goes : goal.returns-in_err-is_over-clause-goes
returns-in_err-is_over-clause-goes g c = goes_on g.G.Gate.answers g.K.Clock.readings g.K.Clock.last g.H.Host.told g.H.Host.faults c.args.bench.now c.loop.bench c.go_on.new.bench c.args.store.now.history c.loop.store.history c.go_on.new.store.history c.loop.invariant.goes c.go_on.ensures.goes

pub returns-in_err-is_over-clause-asks : goal.returns-in_err-is_over-clause-asks
returns-in_err-is_over-clause-asks g c since le was = c.is_over.ensures.asks since (c.go_on.ensures.asks since (subst (λ (n : ℕ). since ≤ n) (sym c.loop.invariant.start) le) (c.loop.invariant.asks since le was))

pub returns-then-branch-clause-goes : goal.returns-then-branch-clause-goes
returns-then-branch-clause-goes g c = goes_on g.G.Gate.answers g.K.Clock.readings g.K.Clock.last g.H.Host.told g.H.Host.faults c.args.bench.now c.loop.bench c.go_on.new.bench c.args.store.now.history c.loop.store.history c.go_on.new.store.history c.loop.invariant.goes c.go_on.ensures.goes

pub returns-then-branch-clause-asks : goal.returns-then-branch-clause-asks
returns-then-branch-clause-asks g c since le was = c.is_over.ensures.asks since (c.go_on.ensures.asks since (subst (λ (n : ℕ). since ≤ n) (sym c.loop.invariant.start) le) (c.loop.invariant.asks since le was))

pub loop-preserved-then-idle-gt0 : goal.loop-preserved-then-idle-gt0
loop-preserved-then-idle-gt0 g c = record {
  ready = rested_ready g.H.Host.told g.H.Host.killed c.go_on.new.bench c.rest.new.user c.go_on.new.store.history c.go_on.ensures.ready;
  shows = c.is_over.ensures.shows;
  goes = rested_goes g.G.Gate.answers g.K.Clock.readings g.K.Clock.last g.H.Host.told g.H.Host.faults c.args.bench.now c.go_on.new.bench c.rest.new.user c.args.store.now.history c.go_on.new.store.history c.rest.ensures.told c.rest.ensures.last (goes_on g.G.Gate.answers g.K.Clock.readings g.K.Clock.last g.H.Host.told g.H.Host.faults c.args.bench.now c.loop.bench c.go_on.new.bench c.args.store.now.history c.loop.store.history c.go_on.new.store.history c.loop.invariant.goes c.go_on.ensures.goes);
  count = c.is_over.ensures.count ∙ (c.go_on.ensures.count ∙ c.loop.invariant.count);
  start = c.is_over.ensures.start ∙ (c.go_on.ensures.start ∙ c.loop.invariant.start);
  asks = λ since le was. c.is_over.ensures.asks since (c.go_on.ensures.asks since (subst (λ (n : ℕ). since ≤ n) (sym c.loop.invariant.start) le) (c.loop.invariant.asks since le was));
}

pub loop-preserved : goal.loop-preserved
loop-preserved g c = record {
  ready = c.go_on.ensures.ready;
  shows = subst (Shows (seen c.loop.watch)) (sym c.go_on.ensures.goes.grows.grown) (shows_grown (seen c.loop.watch) c.go_on.ensures.goes.grows.new c.loop.store.history c.loop.invariant.shows);
  goes = goes_on g.G.Gate.answers g.K.Clock.readings g.K.Clock.last g.H.Host.told g.H.Host.faults c.args.bench.now c.loop.bench c.go_on.new.bench c.args.store.now.history c.loop.store.history c.go_on.new.store.history c.loop.invariant.goes c.go_on.ensures.goes;
  count = c.go_on.ensures.count ∙ c.loop.invariant.count;
  start = c.go_on.ensures.start ∙ c.loop.invariant.start;
  asks = λ since le was. c.go_on.ensures.asks since (subst (λ (n : ℕ). since ≤ n) (sym c.loop.invariant.start) le) (c.loop.invariant.asks since le was);
}

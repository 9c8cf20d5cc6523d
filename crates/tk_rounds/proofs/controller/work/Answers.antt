use Rattle.std.proofs.Common.{ℕ, subst, inl}
use Rattle.tk_journal.specs.declared.entry.Actor.TheVariants as actors
use Rattle.tk_choice.specs.Took.{TookFirst}
use Rattle.tk_cache.specs.Views.{Kept, seen}
use Rattle.tk_rounds.proofs.Took.{idle_then}
use Rattle.tk_rounds.proofs.controller.work.Goals as goal

pub returns-in-Idle-clause-took : goal.returns-in-Idle-clause-took
returns-in-Idle-clause-took c =
    idle_then c.args.number c.new.result.number c.new-in-Idle.result.number c.new.ensures c.new-in-Idle.ensures (seen c.args.cache.now) c.args.moment c.args.store.now c.turn.new.store c.turn-in-Idle.new.store
    c.in_ok-turn.turn c.turn-in-Idle.result c.in-Idle.is
    (subst (λ (k : Kept). TookFirst (seen k) (actors.Runs c.new.result.number) c.args.moment c.args.store.now c.in_ok-turn.turn c.turn.new.store) c.runs.ensures c.in_ok-turn.ensures.first)
    c.turn-in-Idle.ensures.first

pub returns-in_default : goal.returns-in_default
returns-in_default c = record {
  took = inl (
    c.in_default.not-Idle,
    subst (λ (n : ℕ). TookFirst (seen c.args.cache.now) (actors.Runs n) c.args.moment c.args.store.now c.in_ok-turn.turn c.turn.new.store) c.new.ensures
        (subst (λ (k : Kept). TookFirst (seen k) (actors.Runs c.new.result.number) c.args.moment c.args.store.now c.in_ok-turn.turn c.turn.new.store) c.runs.ensures c.in_ok-turn.ensures.first),
  );
  err = tt;
}

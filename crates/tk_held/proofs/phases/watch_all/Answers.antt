use Rattle.std.proofs.Common.{◌≡◌, ◌∙◌, ◌+◌, arith, refl, inl}
use Rattle.std.proofs.lemmas.Option.{slice_get_within}
use Rattle.tk_cache.specs.Views.{seen}
use Rattle.tk_steps.proofs.Moved.{acts_then}
use Rattle.tk_held.specs.Pods.{count_failed}
use Rattle.tk_held.proofs.Every.{all_none, rises_none, failed_none, done_none, all_then, all_apart, rises_then, failed_then, done_then}
use Rattle.tk_held.proofs.Plays.{goes_adds, pods_played}
use Rattle.tk_held.proofs.Stays.{stay_none, stay_then, placed_all}
use Rattle.tk_held.proofs.Watches.{pods_only, pods_only_all, pods_each, all_only}
use Rattle.tk_held.proofs.phases.watch_all.Goals as goal

pub loop-place-init : goal.loop-place-init
loop-place-init g c = record {
  moves = all_none _ _ _ _ refl c.requires.keeps;
  ready = λ placed. stay_none c.args.root.now c.args.held.now _ _ refl;
  rises = rises_none _ _ _ refl;
  failed = failed_none c.args.held.now;
  apart = c.requires.apart;
  actions = λ same. refl;
  done = done_none c.args.held.now;
  killed = refl;
  plays = refl;
  watched = λ place below pod at none kept. absurd (omega (arith, below));
  played = λ place below pod at none kept. absurd (omega (arith, below));
  only = λ child. inl refl;
}

pub watch_at-requires-clause-keeps : goal.watch_at-requires-clause-keeps
watch_at-requires-clause-keeps g c = c.loop-place.invariant.moves.keeps

pub watch_at-requires-clause-apart : goal.watch_at-requires-clause-apart
watch_at-requires-clause-apart g c = c.loop-place.invariant.apart

pub returns-in_err-acted-clause-moves : goal.returns-in_err-acted-clause-moves
returns-in_err-acted-clause-moves g c = all_then _ _ _ _ _ _ _ c.loop-place.invariant.moves c.watch_at.ensures.moves

pub returns-in_err-acted-clause-rises : goal.returns-in_err-acted-clause-rises
returns-in_err-acted-clause-rises g c = rises_then _ _ _ _ _ _ c.loop-place.invariant.rises c.watch_at.ensures.rises

pub returns-in_err-acted-clause-failed : goal.returns-in_err-acted-clause-failed
returns-in_err-acted-clause-failed g c = failed_then c.args.held.now c.loop-place.held c.watch_at.new.held c.loop-place.invariant.moves.same_length c.loop-place.invariant.failed c.watch_at.ensures.failed

pub returns-in_err-acted-clause-ready : goal.returns-in_err-acted-clause-ready
returns-in_err-acted-clause-ready g c placed =
    stay_then c.args.root.now c.args.held.now c.loop-place.held c.watch_at.new.held _ _ _ c.loop-place.invariant.moves.same_length (c.loop-place.invariant.ready placed) (c.watch_at.ensures.ready (placed_all c.args.root.now c.args.held.now c.loop-place.held _ _ c.loop-place.invariant.moves placed))

pub returns-in_err-acted-clause-done : goal.returns-in_err-acted-clause-done
returns-in_err-acted-clause-done g c = done_then c.args.held.now c.loop-place.held c.watch_at.new.held c.loop-place.invariant.moves.same_length c.loop-place.invariant.done c.watch_at.ensures.done

pub loop-place-preserved : goal.loop-place-preserved
loop-place-preserved g c = record {
  moves = all_then _ _ _ _ _ _ _ c.loop-place.invariant.moves c.watch_at.ensures.moves;
  ready = λ placed. stay_then c.args.root.now c.args.held.now c.loop-place.held c.watch_at.new.held _ _ _ c.loop-place.invariant.moves.same_length (c.loop-place.invariant.ready placed) (c.watch_at.ensures.ready (placed_all c.args.root.now c.args.held.now c.loop-place.held _ _ c.loop-place.invariant.moves placed));
  rises = rises_then _ _ _ _ _ _ c.loop-place.invariant.rises c.watch_at.ensures.rises;
  failed = failed_then c.args.held.now c.loop-place.held c.watch_at.new.held c.loop-place.invariant.moves.same_length c.loop-place.invariant.failed c.watch_at.ensures.failed;
  apart = all_apart _ _ _ _ _ c.watch_at.ensures.moves c.loop-place.invariant.apart;
  actions = λ same.
      let sooner = c.loop-place.invariant.rises.grows in
      let later = c.watch_at.ensures.rises.grows in
      let first : count_failed c.loop-place.held ≡ count_failed c.args.held.now = omega (arith, same, sooner, later) in
      let second : count_failed c.watch_at.new.held ≡ count_failed c.loop-place.held = omega (arith, same, sooner, later) in
      acts_then _ _ _ _ _ (c.loop-place.invariant.actions first) (c.in_ok-acted.ensures.actions second);
  done = done_then c.args.held.now c.loop-place.held c.watch_at.new.held c.loop-place.invariant.moves.same_length c.loop-place.invariant.done c.watch_at.ensures.done;
  killed = c.watch_at.ensures.killed ∙ c.loop-place.invariant.killed;
  plays = c.watch_at.ensures.plays ∙ c.loop-place.invariant.plays;
  watched = λ place below. pods_each (seen c.args.cache.now).view c.args.moment (g.H.Host.told c.watch_at.new.host) c.loop-place.held c.watch_at.new.held c.watch_at.ensures.moves.keeps (all_apart _ _ _ _ _ c.watch_at.ensures.moves c.loop-place.invariant.apart) (g.H.Host.watches c.args.host.now) (g.H.Host.watches c.loop-place.host) (g.H.Host.watches c.watch_at.new.host) c.loop-place.place c.watch_at.ensures.others c.loop-place.invariant.only c.watch_at.ensures.only c.loop-place.invariant.watched c.in_ok-acted.ensures.watched place below;
  played = λ place below. pods_played (g.H.Host.plays c.args.host.now) (g.H.Host.plays c.loop-place.host) (g.H.Host.killed c.args.host.now) (g.H.Host.killed c.loop-place.host) c.loop-place.invariant.plays c.loop-place.invariant.killed (seen c.args.cache.now).view c.args.moment c.loop-place.held c.watch_at.new.held c.loop-place.place (g.H.Host.told c.args.host.now) (g.H.Host.told c.loop-place.host) (g.H.Host.told c.watch_at.new.host) c.watch_at.ensures.others (goes_adds _ _ _ c.loop-place.invariant.moves.adds) (goes_adds _ _ _ c.watch_at.ensures.moves.adds) c.loop-place.invariant.played c.in_ok-acted.ensures.played place below;
  only = pods_only (seen c.args.cache.now).view c.args.moment (g.H.Host.told c.watch_at.new.host) c.loop-place.held c.watch_at.new.held c.watch_at.ensures.moves.keeps (all_apart _ _ _ _ _ c.watch_at.ensures.moves c.loop-place.invariant.apart) (g.H.Host.watches c.args.host.now) (g.H.Host.watches c.loop-place.host) (g.H.Host.watches c.watch_at.new.host) c.loop-place.place c.watch_at.ensures.others c.loop-place.invariant.only c.watch_at.ensures.only (c.loop-place.place + 1) refl;
}

pub returns-in_err-acted-clause-only : goal.returns-in_err-acted-clause-only
returns-in_err-acted-clause-only g c =
    pods_only_all (seen c.args.cache.now).view c.args.moment (g.H.Host.told c.watch_at.new.host) c.loop-place.held c.watch_at.new.held c.watch_at.ensures.moves.keeps (all_apart _ _ _ _ _ c.watch_at.ensures.moves c.loop-place.invariant.apart) (g.H.Host.watches c.args.host.now) (g.H.Host.watches c.loop-place.host) (g.H.Host.watches c.watch_at.new.host) c.loop-place.place c.watch_at.ensures.others c.loop-place.invariant.only c.watch_at.ensures.only

pub returns-clause-watched : goal.returns-clause-watched
returns-clause-watched g c place pod at none kept =
    c.loop-place.invariant.watched place (omega (arith, slice_get_within c.loop-place.held place pod at)) pod at none kept

pub returns-clause-played : goal.returns-clause-played
returns-clause-played g c place pod at none kept =
    c.loop-place.invariant.played place (omega (arith, slice_get_within c.loop-place.held place pod at)) pod at none kept

pub returns-clause-only : goal.returns-clause-only
returns-clause-only g c =
    all_only (seen c.args.cache.now).view c.args.moment c.loop-place.held c.loop-place.place (g.H.Host.watches c.args.host.now) (g.H.Host.watches c.loop-place.host) c.loop-place.invariant.only

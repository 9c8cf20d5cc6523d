use Rattle.std.proofs.Common.{List, sym, ◌∙◌, subst}
use Rattle.tk_edge.specs.declared.event.Event.{Event}
use Rattle.tk_cache.specs.Views.{seen}
use Rattle.tk_held.specs.Pods.{KeepsAll}
use Rattle.tk_held.proofs.Every.{all_apart, failed_then, rises_then}
use Rattle.tk_held.proofs.Plays.{goes_adds, run_played}
use Rattle.tk_held.proofs.Runs.{first_moves, first_ready, run_moves, run_ready, run_done, run_watched, run_only, run_once, none_once, none_only, run_few}
use Rattle.tk_held.proofs.running.run_all.Goals as goal

pub arm_all-requires-clause-keeps : goal.arm_all-requires-clause-keeps
arm_all-requires-clause-keeps g c =
    subst (λ (h : List Event). KeepsAll h c.args.held.now) (sym c.settle_all-killing.ensures.told) c.requires.keeps

pub watch_all-requires-clause-apart : goal.watch_all-requires-clause-apart
watch_all-requires-clause-apart g c =
    all_apart _ _ _ _ _ c.arm_all.ensures.moves c.requires.apart

pub returns-in_err-arm_all-clause-moves : goal.returns-in_err-arm_all-clause-moves
returns-in_err-arm_all-clause-moves g c =
    first_moves c.args.root.now c.args.held.now c.arm_all.new.held _ _ _ c.settle_all-killing.ensures.told c.arm_all.ensures.moves

pub returns-in_err-arm_all-clause-ready : goal.returns-in_err-arm_all-clause-ready
returns-in_err-arm_all-clause-ready g c =
    first_ready c.args.root.now c.args.held.now c.arm_all.new.held _ _ _ c.settle_all-killing.ensures.told c.arm_all.ensures.ready

pub returns-in_err-arm_all-clause-only : goal.returns-in_err-arm_all-clause-only
returns-in_err-arm_all-clause-only g c =
    none_only _ _ _ _ _ (c.arm_all.ensures.watches ∙ c.settle_all-killing.ensures.watches)

pub returns-in_err-arm_all-clause-once : goal.returns-in_err-arm_all-clause-once
returns-in_err-arm_all-clause-once g c =
    none_once _ _ (c.arm_all.ensures.watches ∙ c.settle_all-killing.ensures.watches)

pub returns-in_err-arm_all-clause-few : goal.returns-in_err-arm_all-clause-few
returns-in_err-arm_all-clause-few g c =
    run_few _ _ _ _ _ _ c.settle_all-killing.ensures.count c.arm_all.ensures.rises

pub returns-in_err-acted-clause-moves : goal.returns-in_err-acted-clause-moves
returns-in_err-acted-clause-moves g c =
    run_moves c.args.root.now c.args.held.now c.arm_all.new.held c.watch_all.new.held _ _ _ _ c.settle_all-killing.ensures.told c.arm_all.ensures.moves c.watch_all.ensures.moves

pub returns-in_err-acted-clause-ready : goal.returns-in_err-acted-clause-ready
returns-in_err-acted-clause-ready g c =
    run_ready c.args.root.now c.args.held.now c.arm_all.new.held c.watch_all.new.held _ _ _ _ c.settle_all-killing.ensures.told c.arm_all.ensures.moves c.watch_all.ensures.moves c.arm_all.ensures.ready c.watch_all.ensures.ready

pub returns-in_err-acted-clause-failed : goal.returns-in_err-acted-clause-failed
returns-in_err-acted-clause-failed g c =
    failed_then c.args.held.now c.arm_all.new.held c.watch_all.new.held c.arm_all.ensures.moves.same_length c.arm_all.ensures.failed c.watch_all.ensures.failed

pub returns-in_err-acted-clause-only : goal.returns-in_err-acted-clause-only
returns-in_err-acted-clause-only g c =
    run_only (seen c.args.cache.now).view c.args.moment c.watch_all.new.held _ _ _ (c.arm_all.ensures.watches ∙ c.settle_all-killing.ensures.watches) c.watch_all.ensures.only

pub returns-in_err-acted-clause-once : goal.returns-in_err-acted-clause-once
returns-in_err-acted-clause-once g c =
    run_once (seen c.args.cache.now).view c.args.moment c.watch_all.new.held _ _ _ (c.arm_all.ensures.watches ∙ c.settle_all-killing.ensures.watches) c.watch_all.ensures.only

pub returns-in_err-acted-clause-few : goal.returns-in_err-acted-clause-few
returns-in_err-acted-clause-few g c =
    run_few _ c.args.held.now c.watch_all.new.held _ _ _ c.settle_all-killing.ensures.count (rises_then _ _ _ _ _ _ c.arm_all.ensures.rises c.watch_all.ensures.rises)

pub returns-clause-moves : goal.returns-clause-moves
returns-clause-moves g c =
    run_moves c.args.root.now c.args.held.now c.arm_all.new.held c.watch_all.new.held _ _ _ _ c.settle_all-killing.ensures.told c.arm_all.ensures.moves c.watch_all.ensures.moves

pub returns-clause-ready : goal.returns-clause-ready
returns-clause-ready g c =
    run_ready c.args.root.now c.args.held.now c.arm_all.new.held c.watch_all.new.held _ _ _ _ c.settle_all-killing.ensures.told c.arm_all.ensures.moves c.watch_all.ensures.moves c.arm_all.ensures.ready c.watch_all.ensures.ready

pub returns-clause-failed : goal.returns-clause-failed
returns-clause-failed g c =
    failed_then c.args.held.now c.arm_all.new.held c.watch_all.new.held c.arm_all.ensures.moves.same_length c.arm_all.ensures.failed c.watch_all.ensures.failed

pub returns-clause-only : goal.returns-clause-only
returns-clause-only g c =
    run_only (seen c.args.cache.now).view c.args.moment c.watch_all.new.held _ _ _ (c.arm_all.ensures.watches ∙ c.settle_all-killing.ensures.watches) c.watch_all.ensures.only

pub returns-clause-once : goal.returns-clause-once
returns-clause-once g c =
    run_once (seen c.args.cache.now).view c.args.moment c.watch_all.new.held _ _ _ (c.arm_all.ensures.watches ∙ c.settle_all-killing.ensures.watches) c.watch_all.ensures.only

pub returns-clause-few : goal.returns-clause-few
returns-clause-few g c =
    run_few _ c.args.held.now c.watch_all.new.held _ _ _ c.settle_all-killing.ensures.count (rises_then _ _ _ _ _ _ c.arm_all.ensures.rises c.watch_all.ensures.rises)

pub returns-clause-done : goal.returns-clause-done
returns-clause-done g c =
    run_done c.args.root.now c.args.held.now c.arm_all.new.held c.watch_all.new.held _ _ _ _ c.settle_all-killing.ensures.told c.arm_all.ensures.moves c.watch_all.ensures.moves (seen c.args.cache.now).view c.args.moment c.in_ok-arm_all.ensures.done c.watch_all.ensures.done

pub returns-clause-watched : goal.returns-clause-watched
returns-clause-watched g c =
    run_watched (seen c.args.cache.now).view c.args.moment c.watch_all.new.held _ _ _ (c.arm_all.ensures.watches ∙ c.settle_all-killing.ensures.watches) c.in_ok-acted.ensures.watched

pub returns-clause-played : goal.returns-clause-played
returns-clause-played g c =
    run_played (g.H.Host.plays c.args.host.now) (g.H.Host.plays c.arm_all.new.host) (g.H.Host.killed c.watch_all.new.host) (g.H.Host.killed c.arm_all.new.host) (c.arm_all.ensures.plays ∙ c.settle_all-killing.ensures.plays) (sym c.watch_all.ensures.killed)
    (seen c.args.cache.now).view c.args.moment c.watch_all.new.held _ _ _ _ c.settle_all-killing.ensures.told (goes_adds _ _ _ c.arm_all.ensures.moves.adds) c.in_ok-acted.ensures.played

use Rattle.std.proofs.Common.{◌-◌, List, length, sym, ◌∙◌, ap, subst}
use Rattle.std.specs.Prelude.{OnOk}
use Rattle.tk_cache.specs.Views.{seen}
use Rattle.tk_steps.specs.declared.held.HeldPod.{HeldPod}
use Rattle.tk_held.specs.Placed.{ArePlaced, StayReady}
use Rattle.tk_held.specs.Played.{ArePlayed}
use Rattle.tk_held.specs.Pods.{AreApart, AreDone, KeepsAll, MovesAll, RoseBy, StayFailed, count_failed}
use Rattle.tk_held.specs.Settling.{AreKilled, SparesOthers}
use Rattle.tk_held.specs.Watched.{AreWatched, WatchesOnly}
use Rattle.tk_held.proofs.Runs.{written, carried}
use Rattle.tk_held.proofs.running.run_pods.Goals as goal

pub run_all-requires-clause-keeps : goal.run_all-requires-clause-keeps
run_all-requires-clause-keeps g c =
    subst (KeepsAll (g.H.Host.told c.args.host.now)) (sym c.deref_mut.ensures.value) c.requires.keeps

pub run_all-requires-clause-apart : goal.run_all-requires-clause-apart
run_all-requires-clause-apart g c =
    subst AreApart (sym c.deref_mut.ensures.value) c.requires.apart

pub returns-clause-moves : goal.returns-clause-moves
returns-clause-moves g c =
    carried (λ (a b : List HeldPod). MovesAll c.args.root.now a b (g.H.Host.told c.args.host.now) (g.H.Host.told c.run_all.new.host))
    _ _ _ _ c.deref_mut.ensures.value (written c.args.held.now.len c.args.held.now.items c.run_all.new.held (sym c.deref_mut.ensures.len ∙ ap length c.deref_mut.ensures.value) (c.run_all.ensures.moves.same_length ∙ ap length c.deref_mut.ensures.value)) c.run_all.ensures.moves

pub returns-clause-ready : goal.returns-clause-ready
returns-clause-ready g c =
    carried (λ (a b : List HeldPod). ArePlaced c.args.root.now a → StayReady c.args.root.now a b (g.H.Host.told c.args.host.now) (g.H.Host.told c.run_all.new.host))
    _ _ _ _ c.deref_mut.ensures.value (written c.args.held.now.len c.args.held.now.items c.run_all.new.held (sym c.deref_mut.ensures.len ∙ ap length c.deref_mut.ensures.value) (c.run_all.ensures.moves.same_length ∙ ap length c.deref_mut.ensures.value)) c.run_all.ensures.ready

pub returns-clause-failed : goal.returns-clause-failed
returns-clause-failed g c =
    carried (λ (a b : List HeldPod). StayFailed a b)
    _ _ _ _ c.deref_mut.ensures.value (written c.args.held.now.len c.args.held.now.items c.run_all.new.held (sym c.deref_mut.ensures.len ∙ ap length c.deref_mut.ensures.value) (c.run_all.ensures.moves.same_length ∙ ap length c.deref_mut.ensures.value)) c.run_all.ensures.failed

pub returns-clause-done : goal.returns-clause-done
returns-clause-done g c =
    carried (λ (a b : List HeldPod). OnOk c.run_all.result (AreDone (seen c.args.cache.now).view c.args.moment b))
    _ _ _ _ c.deref_mut.ensures.value (written c.args.held.now.len c.args.held.now.items c.run_all.new.held (sym c.deref_mut.ensures.len ∙ ap length c.deref_mut.ensures.value) (c.run_all.ensures.moves.same_length ∙ ap length c.deref_mut.ensures.value)) c.run_all.ensures.done

pub returns-clause-watched : goal.returns-clause-watched
returns-clause-watched g c =
    carried (λ (a b : List HeldPod). OnOk c.run_all.result (AreWatched (seen c.args.cache.now).view c.args.moment b (g.H.Host.watches c.args.host.now) (g.H.Host.watches c.run_all.new.host)))
    _ _ _ _ c.deref_mut.ensures.value (written c.args.held.now.len c.args.held.now.items c.run_all.new.held (sym c.deref_mut.ensures.len ∙ ap length c.deref_mut.ensures.value) (c.run_all.ensures.moves.same_length ∙ ap length c.deref_mut.ensures.value)) c.run_all.ensures.watched

pub returns-clause-played : goal.returns-clause-played
returns-clause-played g c =
    carried (λ (a b : List HeldPod). OnOk c.run_all.result (ArePlayed (seen c.args.cache.now).view c.args.moment b (g.H.Host.plays c.args.host.now) (g.H.Host.killed c.run_all.new.host) (g.H.Host.told c.args.host.now) (g.H.Host.told c.run_all.new.host)))
    _ _ _ _ c.deref_mut.ensures.value (written c.args.held.now.len c.args.held.now.items c.run_all.new.held (sym c.deref_mut.ensures.len ∙ ap length c.deref_mut.ensures.value) (c.run_all.ensures.moves.same_length ∙ ap length c.deref_mut.ensures.value)) c.run_all.ensures.played

pub returns-clause-only : goal.returns-clause-only
returns-clause-only g c =
    carried (λ (a b : List HeldPod). WatchesOnly (seen c.args.cache.now).view c.args.moment b (g.H.Host.watches c.args.host.now) (g.H.Host.watches c.run_all.new.host))
    _ _ _ _ c.deref_mut.ensures.value (written c.args.held.now.len c.args.held.now.items c.run_all.new.held (sym c.deref_mut.ensures.len ∙ ap length c.deref_mut.ensures.value) (c.run_all.ensures.moves.same_length ∙ ap length c.deref_mut.ensures.value)) c.run_all.ensures.only

pub returns-clause-killed : goal.returns-clause-killed
returns-clause-killed g c =
    carried (λ (a b : List HeldPod). AreKilled (seen c.args.cache.now).view c.args.moment (g.H.Host.killed c.run_all.new.host) a)
    _ _ _ _ c.deref_mut.ensures.value (written c.args.held.now.len c.args.held.now.items c.run_all.new.held (sym c.deref_mut.ensures.len ∙ ap length c.deref_mut.ensures.value) (c.run_all.ensures.moves.same_length ∙ ap length c.deref_mut.ensures.value)) c.run_all.ensures.killed

pub returns-clause-spares : goal.returns-clause-spares
returns-clause-spares g c =
    carried (λ (a b : List HeldPod). SparesOthers (seen c.args.cache.now).view c.args.moment a (g.H.Host.killed c.args.host.now) (g.H.Host.killed c.run_all.new.host))
    _ _ _ _ c.deref_mut.ensures.value (written c.args.held.now.len c.args.held.now.items c.run_all.new.held (sym c.deref_mut.ensures.len ∙ ap length c.deref_mut.ensures.value) (c.run_all.ensures.moves.same_length ∙ ap length c.deref_mut.ensures.value)) c.run_all.ensures.spares

pub returns-clause-few : goal.returns-clause-few
returns-clause-few g c =
    carried (λ (a b : List HeldPod). RoseBy (count_failed b - count_failed a) (g.H.Host.faults c.args.host.now) (g.H.Host.faults c.run_all.new.host))
    _ _ _ _ c.deref_mut.ensures.value (written c.args.held.now.len c.args.held.now.items c.run_all.new.held (sym c.deref_mut.ensures.len ∙ ap length c.deref_mut.ensures.value) (c.run_all.ensures.moves.same_length ∙ ap length c.deref_mut.ensures.value)) c.run_all.ensures.few

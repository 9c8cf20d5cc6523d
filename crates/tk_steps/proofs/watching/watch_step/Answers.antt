use Rattle.std.proofs.Common.{ap, set, sym, subst, Bool, refl}
use Rattle.tk_steps.specs.declared.held.HeldStep.{HeldStep}
use Rattle.tk_steps.specs.Moves.{Acts}
use Rattle.tk_steps.proofs.Moved.{held_at, is_armed, watch_moves, watch_acts}
use Rattle.std.proofs.Common.{◌∙◌}
use Rattle.tk_steps.specs.Watched.{children_of}
use Rattle.tk_steps.proofs.Chain.{step_watched}
use Rattle.tk_steps.proofs.Once.{child_at, children_set, seen_child, hit, miss}
use Rattle.tk_steps.proofs.watching.watch_step.Goals as goal

pub watch-requires : goal.watch-requires
watch-requires g c = is_armed _ c.args.pod.now c.args.place c.index-step.result.now c.requires.holds (held_at c.args.pod.now c.args.place c.index-step.result.now c.requires.within c.index-step.ensures)

pub returns-clause-moves : goal.returns-clause-moves
returns-clause-moves g c =
    let at = held_at c.args.pod.now c.args.place c.index-step.result.now c.requires.within c.index-step.ensures in
    watch_moves c.args.root.now _ c.args.pod.now _ c.args.place c.index-step.result.now c.requires.holds at refl refl refl _ c.in_ok-watch.watch c.in_ok-watch.ensures.told (ap (λ (s : HeldStep). set c.args.pod.now.steps.items c.args.place s) c.seen.ensures)

pub returns-clause-actions : goal.returns-clause-actions
returns-clause-actions g c =
    let at = held_at c.args.pod.now c.args.place c.index-step.result.now c.requires.within c.index-step.ensures in
    subst (λ (b : Bool). Acts b (g.H.Host.told c.args.host.now) (g.H.Host.told c.watch.new.self)) (sym c.acts.ensures) (watch_acts c.args.root.now _ c.args.pod.now c.args.pod.now c.args.place c.index-step.result.now c.requires.holds at refl refl refl _ c.in_ok-watch.watch c.in_ok-watch.ensures.told)

pub returns-clause-children : goal.returns-clause-children
returns-clause-children g c =
    let at = held_at c.args.pod.now c.args.place c.index-step.result.now c.requires.within c.index-step.ensures in
    children_set c.args.pod.now.steps.items c.args.place c.index-step.result.now c.seen.result at (ap (λ (s : HeldStep). s.child) c.seen.ensures ∙ seen_child c.in_ok-watch.watch c.index-step.result.now)

pub returns-clause-watched : goal.returns-clause-watched
returns-clause-watched g c =
    let at = held_at c.args.pod.now c.args.place c.index-step.result.now c.requires.within c.index-step.ensures in
    let own = child_at c.args.pod.now.steps.items c.args.place c.index-step.result.now at in
    hit (children_of c.args.pod.now) c.args.place c.index-step.result.now.child own (g.H.Host.watches c.args.host.now) (g.H.Host.watches c.watch.new.self) c.in_ok-watch.ensures.watches

pub returns-clause-only : goal.returns-clause-only
returns-clause-only g c =
    let at = held_at c.args.pod.now c.args.place c.index-step.result.now c.requires.within c.index-step.ensures in
    let own = child_at c.args.pod.now.steps.items c.args.place c.index-step.result.now at in
    miss (children_of c.args.pod.now) c.args.place c.index-step.result.now.child own (g.H.Host.watches c.args.host.now) (g.H.Host.watches c.watch.new.self) c.in_ok-watch.ensures.watches

pub returns-clause-turn : goal.returns-clause-turn
returns-clause-turn g c =
    let at = held_at c.args.pod.now c.args.place c.index-step.result.now c.requires.within c.index-step.ensures in
    step_watched (g.H.Host.plays c.args.host.now) (g.H.Host.killed c.args.host.now) c.args.pod.now c.args.place c.index-step.result.now (g.H.Host.told c.args.host.now) (g.H.Host.told c.watch.new.self) c.requires.holds at c.in_ok-watch.watch c.in_ok-watch.ensures.told c.in_ok-watch.ensures.played

use Rattle.std.proofs.Common.{◌≡◌, ◌<◌, ℕ, List, length, Some, None, sym, ◌∙◌, ap, subst, slice_get}
use Rattle.tk_cache.specs.Views.{seen}
use Rattle.tk_steps.specs.declared.held.HeldPod.{HeldPod}
use Rattle.tk_kubelet.specs.Choice.{claimed_before, held_named}
use Rattle.tk_kubelet.specs.Seat.{host_at, seat_at}
use Rattle.tk_kubelet.proofs.Chosen.{ends_this, found_pod, has_name, not_absent, sees_lost}
use Rattle.tk_kubelet.proofs.Earlier.{lost_result}
use Rattle.tk_kubelet.proofs.Turned.{lost_gives, lost_missed}
use Rattle.tk_kubelet.proofs.ending.end_pod.Goals as goal

pub end_lost-requires-clause-lost : goal.end_lost-requires-clause-lost
end_lost-requires-clause-lost g c =
    (sees_lost c.args.me.number c.args.me.life c.args.moment (seen c.args.cache.now).view c.args.held.now.items c.args.name.now c.requires.first (sym c.claimed_before.ensures ∙ c.if-claimed_before.true))

pub returns-then-claimed_before-clause-met : goal.returns-then-claimed_before-clause-met
returns-then-claimed_before-clause-met g c =
    lost_result c.args.me c.args.root.now c.args.held.now.items (g.H.Host.killed c.args.host.now) (g.H.Host.told c.args.host.now) (seen c.args.cache.now) c.args.moment c.args.name.now c.args.store.now c.end_lost.new.store c.requires.met c.requires.shows (sees_lost c.args.me.number c.args.me.life c.args.moment (seen c.args.cache.now).view c.args.held.now.items c.args.name.now c.requires.first (sym c.claimed_before.ensures ∙ c.if-claimed_before.true)) c.end_lost.result c.end_lost.ensures.answered c.end_lost.ensures.err

pub returns-then-claimed_before-clause-answer : goal.returns-then-claimed_before-clause-answer
returns-then-claimed_before-clause-answer g c =
    lost_gives (seat_at c.args.me c.args.root.now (seen c.args.cache.now) c.args.moment) c.args.held.now.items (host_at g.H.Host.told g.H.Host.killed g.H.Host.faults g.H.Host.watches g.H.Host.files g.H.Host.plays c.args.host.now) c.requires.met.keeps c.args.name.now c.args.store.now c.end_lost.new.store c.requires.first (sees_lost c.args.me.number c.args.me.life c.args.moment (seen c.args.cache.now).view c.args.held.now.items c.args.name.now c.requires.first (sym c.claimed_before.ensures ∙ c.if-claimed_before.true)) c.end_lost.result c.end_lost.ensures.answered

pub returns-then-claimed_before-clause-memory : goal.returns-then-claimed_before-clause-memory
returns-then-claimed_before-clause-memory g c =
    lost_missed (seat_at c.args.me c.args.root.now (seen c.args.cache.now) c.args.moment) c.args.held.now.items (host_at g.H.Host.told g.H.Host.killed g.H.Host.faults g.H.Host.watches g.H.Host.files g.H.Host.plays c.args.host.now) c.requires.met.keeps c.args.name.now c.args.store.now c.end_lost.new.store c.end_lost.result c.end_lost.ensures.err

pub end_held-requires-clause-within : goal.end_held-requires-clause-within
end_held-requires-clause-within g c =
    subst (λ (ps : List HeldPod). c.in-Some.place < length ps) c.as_slice.ensures.value c.in-Some.ensures.within

pub end_held-requires-clause-first : goal.end_held-requires-clause-first
end_held-requires-clause-first g c pod at =
    let named = has_name c.args.held.now.items c.args.name.now pod (found_pod c.args.held.now.items c.as_slice.result.now c.args.name.now c.in-Some.place pod c.as_slice.ensures.value c.in-Some.ensures.first at) in c.requires.first ∙ ap (λ (n : List ℕ). Some n) (sym named)

pub end_held-requires-clause-own : goal.end_held-requires-clause-own
end_held-requires-clause-own g c pod at =
    let named = has_name c.args.held.now.items c.args.name.now pod (found_pod c.args.held.now.items c.as_slice.result.now c.args.name.now c.in-Some.place pod c.as_slice.ensures.value c.in-Some.ensures.first at) in ap (λ (n : List ℕ). claimed_before c.args.me.life ((seen c.args.cache.now).view.pod n)) named ∙ (sym c.claimed_before.ensures ∙ c.if-claimed_before.false)

pub end_held-requires-clause-over : goal.end_held-requires-clause-over
end_held-requires-clause-over g c pod at =
    ends_this c.args.me.number c.args.me.life c.args.moment (seen c.args.cache.now).view c.args.held.now.items c.args.name.now c.requires.first (sym c.claimed_before.ensures ∙ c.if-claimed_before.false) pod (found_pod c.args.held.now.items c.as_slice.result.now c.args.name.now c.in-Some.place pod c.as_slice.ensures.value c.in-Some.ensures.first at)

pub unreachable-requires : goal.unreachable-requires
unreachable-requires g c =
    not_absent c.args.me.number c.args.me.life c.args.moment (seen c.args.cache.now).view c.args.held.now.items c.args.name.now c.requires.first (sym c.claimed_before.ensures ∙ c.if-claimed_before.false) (subst (λ (ps : List HeldPod). held_named ps c.args.name.now ≡ None) c.as_slice.ensures.value c.in-None.ensures.first)

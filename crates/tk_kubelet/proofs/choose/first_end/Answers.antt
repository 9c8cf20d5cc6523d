use Rattle.std.proofs.Common.{◌≡◌, ℕ, List, Some, None, sym, ◌∙◌, ap, arith}
use Rattle.tk_cache.specs.Views.{seen}
use Rattle.tk_pod_cache.specs.Marks.{held_in}
use Rattle.tk_kubelet.specs.Choice.{ends_of_held, ends_pod, held_named}
use Rattle.tk_kubelet.proofs.Found.{find_here, find_later}
use Rattle.tk_kubelet.proofs.Skipped.{find_end, find_next, idle_ends}
use Rattle.tk_kubelet.proofs.choose.first_end.Goals as goal

pub returns-then-ends_pod : goal.returns-then-ends_pod
returns-then-ends_pod c =
    sym (find_here (ends_pod c.args.me.number c.args.me.life (seen c.args.cache.now).view c.args.moment c.args.held.now) (seen c.args.cache.now).view.pods c.in-Some.place c.pod_name-name.result.now c.pod_name-name.ensures (sym c.ends_pod.ensures ∙ c.if-ends_pod.true))
    ∙ (sym (find_next (held_in (seen c.args.cache.now).view) (ends_pod c.args.me.number c.args.me.life (seen c.args.cache.now).view c.args.moment c.args.held.now) (seen c.args.cache.now).view.pods c.args.marks.now.held c.requires.marked.held
    (λ name. idle_ends c.args.me.number c.args.me.life (ends_of_held (seen c.args.cache.now).view c.args.moment (held_named c.args.held.now name)) ((seen c.args.cache.now).view.pod name)) c.loop-place.at c.pod_count-end.result c.in-Some.place c.in-Some.ensures)
    ∙ c.loop-place.invariant)

pub loop-place-preserved : goal.loop-place-preserved
loop-place-preserved c =
    sym (find_later (ends_pod c.args.me.number c.args.me.life (seen c.args.cache.now).view c.args.moment c.args.held.now) (seen c.args.cache.now).view.pods c.in-Some.place c.pod_name-name.result.now c.pod_name-name.ensures (sym c.ends_pod.ensures ∙ c.if-ends_pod.false))
    ∙ (sym (find_next (held_in (seen c.args.cache.now).view) (ends_pod c.args.me.number c.args.me.life (seen c.args.cache.now).view c.args.moment c.args.held.now) (seen c.args.cache.now).view.pods c.args.marks.now.held c.requires.marked.held
    (λ name. idle_ends c.args.me.number c.args.me.life (ends_of_held (seen c.args.cache.now).view c.args.moment (held_named c.args.held.now name)) ((seen c.args.cache.now).view.pod name)) c.loop-place.at c.pod_count-end.result c.in-Some.place c.in-Some.ensures)
    ∙ c.loop-place.invariant)

pub returns : goal.returns
returns c =
    sym (find_end (held_in (seen c.args.cache.now).view) (ends_pod c.args.me.number c.args.me.life (seen c.args.cache.now).view c.args.moment c.args.held.now) (seen c.args.cache.now).view.pods c.args.marks.now.held c.requires.marked.held
    (λ name. idle_ends c.args.me.number c.args.me.life (ends_of_held (seen c.args.cache.now).view c.args.moment (held_named c.args.held.now name)) ((seen c.args.cache.now).view.pod name)) c.loop-place.at c.pod_count-end.result c.pod_count-end.ensures c.in_default.ensures)
    ∙ c.loop-place.invariant

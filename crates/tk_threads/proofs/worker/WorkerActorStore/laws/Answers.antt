use Rattle.std.proofs.Common.{◌≡◌, ℕ, false, eqb, subst, sym, ◌∙◌, ap}
use Rattle.tk_journal.specs.declared.entry.Entry.{Entry}
use Rattle.tk_store.specs.Notes.{kubelet_owner, owner_of}
use Rattle.tk_rounds.specs.declared.bench.Node.{Node}
use Rattle.tk_rounds.specs.Bench.{IsReadyNode, NodeFollows}
use Rattle.tk_rounds.specs.Members.{of_kubelet}
use Rattle.tk_threads.specs.Timely.{Over}
use Rattle.tk_threads.proofs.Noting.{over_more, over_with}
use Rattle.tk_threads.proofs.Owners.{not_of_kubelet}
use Rattle.tk_threads.proofs.worker.WorkerActorStore.laws.Goals as goal

others : (owner n : ℕ) → owner ≡ kubelet_owner n → (e : Entry) → eqb (owner_of e.actor) owner ≡ false → of_kubelet n e ≡ false
others owner n is e other = not_of_kubelet n e.actor (sym (ap (eqb (owner_of e.actor)) is) ∙ other)

pub returns-clause-keep : goal.returns-clause-keep
returns-clause-keep g c m journal rest sound none ready =
    let n = m.node.kubelet.number in
    (ready.0, over_more (of_kubelet n) m.owner (others m.owner n ready.0) (λ history. IsReadyNode g.H.Host.told g.H.Host.killed history m.node) (c.laws.ensures.keep m.node) journal rest sound none ready.1)

pub returns-clause-follow : goal.returns-clause-follow
returns-clause-follow g c start m journal rest sound none ready is =
    let n = m.node.kubelet.number in
    over_with (of_kubelet n) m.owner (others m.owner n ready.0) (λ history. IsReadyNode g.H.Host.told g.H.Host.killed history m.node) (NodeFollows g.G.Gate.answers g.K.Clock.readings g.K.Clock.last g.H.Host.told g.H.Host.faults start.node m.node)
    (c.laws.ensures.keep m.node) (c.laws.ensures.follow start.node m.node) journal rest sound none ready.1 is

pub returns-clause-keep_asked : goal.returns-clause-keep_asked
returns-clause-keep_asked g c = returns-clause-keep g c

pub returns-clause-follow_asked : goal.returns-clause-follow_asked
returns-clause-follow_asked g c start m journal rest sound none ready is =
    let b = is.before in
    let same : m.node.kubelet.number ≡ b.kubelet.number = ap (λ (x : Node _ _ _). x.kubelet.number) is.rest in
    let moved = subst (λ (x : Node _ _ _). Over (λ history. IsReadyNode g.H.Host.told g.H.Host.killed history x) journal) is.rest ready.1 in
    record {
      before = b;
      rest = is.rest;
      gave = is.gave;
      stood = over_with (of_kubelet b.kubelet.number) m.owner (others m.owner b.kubelet.number (ready.0 ∙ ap kubelet_owner same)) (λ history. IsReadyNode g.H.Host.told g.H.Host.killed history b) (NodeFollows g.G.Gate.answers g.K.Clock.readings g.K.Clock.last g.H.Host.told g.H.Host.faults start.node b)
          (c.laws.ensures.keep b) (c.laws.ensures.follow start.node b) journal rest sound none (moved.0, moved.1, record { shows = moved.2.shows; met = moved.2.met }) is.stood;
    }

-- A kubelet that begins its next life with nothing.
use Rattle.std.proofs.Common.{◌≡◌, ◌≤◌, ◌<◌, ℕ, suc, List, [], ◌∷◌, map, Some, true, false, refl, sym, ◌∙◌, ap, subst, arith, inl, inr}
use Rattle.std.specs.Prelude.{Bool, codes, nat_lt, slice_get, slice_set}
use Rattle.std.proofs.lemmas.Bool.{lt-ltb, le-ltb}
use Rattle.std.proofs.lemmas.Option.{same_Some}
use Rattle.tk_types.specs.declared.scenario.Event.TheVariants as events
use Rattle.tk_types.specs.declared.scenario.Viewer.TheVariants as viewers
use Rattle.tk_edge.specs.declared.event.Event.{Event as HostEvent}
use Rattle.tk_edge.specs.HostLog.{flags}
use Rattle.tk_edge.specs.InOrder.{IsKept}
use Rattle.tk_journal.specs.declared.entry.Entry.{Entry}
use Rattle.tk_journal.specs.declared.entry.Fronts.{Fronts}
use Rattle.tk_store.specs.Writes.{Stored}
use Rattle.tk_cache.specs.Fronts.{Shows}
use Rattle.tk_cache.specs.Views.{Kept, seen}
use Rattle.tk_steps.specs.Paths.{layout_of}
use Rattle.tk_held.specs.Conditions.{AreArmedSettled, AreMet, claim_of, pods_of}
use Rattle.tk_held.specs.Laws.{HasNoClaim}
use Rattle.tk_script.specs.declared.pod_script.PodScript.{PodScript}
use Rattle.tk_script.specs.ScriptHost.{Playing, plays_of}
use Rattle.tk_kubelet.specs.Holding.{Holding, IsMet, holding_of}
use Rattle.tk_machine.specs.State.{KubeletState, no_fronts}
use Rattle.tk_machine.specs.Machine.{AreClaimsOf, restarted_kubelet}
use Rattle.tk_play.specs.Own.{AreOwn, IsOwn}
use Rattle.tk_world.specs.declared.node.Node.{Node}
use Rattle.tk_world.specs.Goes.{Goes}
use Rattle.tk_world.specs.Nodes.{IsNextLife, IsNode, IsRestarted, scripts_in, state_of}
use Rattle.tk_world.specs.Whole.{Stands, fronts_of, whole_of}
use Rattle.tk_cache.proofs.Showing.{shows_none}
use Rattle.tk_world.proofs.Moved.{controller_set, map_get, map_moved, node_set, state}

-- what shows an empty history has its fronts at the start

none_at : (fronts : Fronts) → fronts.runs ≤ 0 → fronts.task_runs ≤ 0 → fronts.pods ≤ 0 → fronts ≡ no_fronts
none_at fronts r t p = parts fronts.runs fronts.task_runs fronts.pods (omega (arith, r)) (omega (arith, t)) (omega (arith, p))
  where
    parts : (a b c : ℕ) → a ≡ 0 → b ≡ 0 → c ≡ 0 → record { runs = a; task_runs = b; pods = c } ≡ no_fronts
    parts a b c is_a is_b is_c = rw (is_a, is_b, is_c) refl

pub unseen_fronts : (cache : Kept) → Shows (seen cache) [] → cache.fronts ≡ no_fronts
unseen_fronts cache shows = none_at cache.fronts shows.within.runs shows.within.task_runs shows.within.pods

-- the conditions of a turn hold for a kubelet that holds nothing, where no pod is claimed in its life
pub empty_met : (number life : ℕ) (root : List ℕ) (history : List Entry) (killed : ℕ → Bool) (told : List HostEvent) → HasNoClaim number life history
    → IsKept (layout_of root) killed (pods_of number history) told → AreArmedSettled killed (pods_of number history) told → AreMet number life root [] history killed told
empty_met number life root history killed told none kept settled = record {
  claimed = record {
    mine = λ place pod at. cc;
    all = λ name state is mine unended. absurd (none name state is mine);
    apart = λ i j a b at_i at_j same. cc;
    none_lost = λ name state ended is mine is_ended. absurd (none name state is mine);
  };
  keeps = λ place pod at. cc;
  ready = λ have place pod at. cc;
  kept = kept;
  settled = settled;
}

-- no claim is of a life that no kubelet reached
next_unclaimed : (kubelets : List KubeletState) (i life : ℕ) (k : KubeletState) (history : List Entry) → slice_get kubelets i ≡ Some k → k.life ≤ life → AreClaimsOf kubelets history → HasNoClaim i (suc life) history
next_unclaimed kubelets i life k history at le claims name pod there claimed =
    let reached = claims name pod (claim_of i (suc life)) there claimed in
    let same : reached.it ≡ k = same_Some reached.it k (sym reached.is ∙ at) in
    let lives : reached.it.life ≡ k.life = ap (λ (x : KubeletState). x.life) same in
    let more : suc life ≤ reached.it.life = reached.has in
    omega (arith, more, lives, le)

module _ (store : Stored) (clock : ℕ) (controllers : List Kept) (nodes : List Node) (pods : List PodScript) (watch : Kept)
    (stands : Stands (scripts_in pods) store.history clock controllers nodes watch) where
  -- a controller has seen nothing
  pub controller_restarts : (i : ℕ) (old new : Kept) → slice_get controllers i ≡ Some old → Shows (seen new) []
      → Goes (events.Restart (viewers.Controller i) ∷ []) (whole_of store clock controllers nodes pods watch) (whole_of store clock (slice_set controllers i new) nodes pods watch)
  controller_restarts i old new at shows =
      controller_set store clock controllers nodes pods watch stands (events.Restart (viewers.Controller i)) i new (shows_none (seen new) store.history shows)
      (ap (λ (cs : List Fronts). state store.history clock cs (map state_of nodes)) (map_moved fronts_of controllers i old new (λ fronts. no_fronts) at (unseen_fronts new shows)))

  module _ (i : ℕ) (old new : Node) (at : slice_get nodes i ≡ Some old) where
    next_state : IsNextLife i old new → state_of new ≡ restarted_kubelet (state_of old)
    next_state next =
        let was = stands.stand i old at in
        let less : nat_lt old.kubelet.life 4294967295 ≡ true = lt-ltb old.kubelet.life 4294967295 (subst (λ (n : ℕ). n < 4294967295) (sym was.life) next.more) in
        let fronts : new.cache.fronts ≡ no_fronts = unseen_fronts new.cache next.unseen in
        let life : new.kubelet.life ≡ suc old.kubelet.life = ap (λ (k : Holding). k.life) next.kubelet ∙ ap suc (sym was.life) in
        rw less (parts new.cache.fronts new.kubelet.life new.host fronts life next.host)
      where
        parts : (f : Fronts) (l : ℕ) (h : Playing) → f ≡ no_fronts → l ≡ suc old.kubelet.life → h ≡ old.host
            → record { fronts = f; life = l; told = h.log.told; killed = flags h.log.killed } ≡ record (state_of old) { fronts = no_fronts; life = suc old.kubelet.life }
        parts f l h is_f is_l is_h = rw (is_f, is_l, is_h) refl

    same_state : 4294967295 ≤ old.life → new ≡ old → state_of new ≡ restarted_kubelet (state_of old)
    same_state most same =
        let was = stands.stand i old at in
        let less : nat_lt old.kubelet.life 4294967295 ≡ false = le-ltb old.kubelet.life 4294967295 (subst (λ (n : ℕ). 4294967295 ≤ n) (sym was.life) most) in
        ap state_of same ∙ (rw less refl)

    next_stands : IsNextLife i old new → IsNode (scripts_in pods) store.history i new
    next_stands next = record {
      number = ap (λ (k : Holding). k.number) next.kubelet;
      life = ap (λ (k : Holding). k.life) next.kubelet ∙ sym next.life;
      root = ap (λ (k : Holding). k.root) next.kubelet;
      shows = shows_none (seen new.cache) store.history next.unseen;
      met = subst (λ (h : Playing). IsMet new.kubelet store.history (flags h.log.killed) h.log.told) (sym next.host)
          (subst (λ (k : Holding). IsMet k store.history (flags old.host.log.killed) old.host.log.told) (sym next.kubelet) met);
      own = subst (λ (h : Playing). IsOwn new.kubelet (flags h.log.killed) h.log.told) (sym next.host)
          (subst (λ (k : Holding). IsOwn k (flags old.host.log.killed) old.host.log.told) (sym next.kubelet) own);
      plays = ap (λ (h : Playing). plays_of h) next.host ∙ was.plays;
    }
      where
        was : IsNode (scripts_in pods) store.history i old
        was = stands.stand i old at

        none : HasNoClaim i (suc old.life) store.history
        none = next_unclaimed (map state_of nodes) i old.life (state_of old) store.history (map_get state_of nodes i old at) (subst (λ (n : ℕ). old.kubelet.life ≤ n) was.life (omega arith)) stands.sound.claims

        met : IsMet (holding_of i (suc old.life) (codes "/work") []) store.history (flags old.host.log.killed) old.host.log.told
        met = empty_met i (suc old.life) (codes "/work") store.history (flags old.host.log.killed) old.host.log.told none
            (subst (λ (r : List ℕ). IsKept (layout_of r) (flags old.host.log.killed) (pods_of i store.history) old.host.log.told) was.root
            (subst (λ (n : ℕ). IsKept (layout_of old.kubelet.root) (flags old.host.log.killed) (pods_of n store.history) old.host.log.told) was.number was.met.kept))
            (subst (λ (n : ℕ). AreArmedSettled (flags old.host.log.killed) (pods_of n store.history) old.host.log.told) was.number was.met.settled)

        own : IsOwn (holding_of i (suc old.life) (codes "/work") []) (flags old.host.log.killed) old.host.log.told
        own = record {
          whole = λ place pod is. cc;
          own = subst (λ (r : List ℕ). AreOwn r old.host.log.told) was.root was.own.own;
          armed = was.own.armed;
        }

    again : IsRestarted i old new → (state_of new ≡ restarted_kubelet (state_of old)) × IsNode (scripts_in pods) store.history i new
    again (inl next) = (next_state next, next_stands next)
    again (inr last) = (same_state last.0 last.1, subst (IsNode (scripts_in pods) store.history i) (sym last.1) (stands.stand i old at))

    -- a kubelet comes back in its next life
    pub kubelet_restarts : IsRestarted i old new
        → Goes (events.Restart (viewers.Kubelet i) ∷ []) (whole_of store clock controllers nodes pods watch) (whole_of store clock controllers (slice_set nodes i new) pods watch)
    kubelet_restarts is =
        node_set store clock controllers nodes pods watch stands (events.Restart (viewers.Kubelet i)) i new (again is).1
        (ap (λ (ks : List KubeletState). state store.history clock (map fronts_of controllers) ks) (map_moved state_of nodes i old new restarted_kubelet at (again is).0))

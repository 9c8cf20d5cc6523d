-- What stands in a world at its start.
use Rattle.std.proofs.Common.{◌≡◌, ◌<◌, ◌^◌, ◌+◌, ℕ, List, [], ◌∷◌, ◌++◌, length, map, Some, false, refl, sym, ◌∙◌, ap, subst, inl, inr}
use Rattle.std.specs.Prelude.{Bool, codes, replicate}
use Rattle.std.proofs.lemmas.List.{length-map, length-replicate, map-append, replicate-append-replicate}
use Rattle.tk_edge.specs.declared.event.Event.{Event as HostEvent}
use Rattle.tk_edge.specs.HostLog.{flags}
use Rattle.tk_journal.specs.declared.entry.Entry.{Entry}
use Rattle.tk_journal.specs.declared.entry.Fronts.{Fronts}
use Rattle.tk_journal.specs.Folders.{HaveRoot}
use Rattle.tk_journal.specs.Legal.{IsLegal}
use Rattle.tk_cache.specs.Fronts.{Shows}
use Rattle.tk_cache.specs.Views.{Kept, seen}
use Rattle.tk_held.specs.Laws.{AreAdmits}
use Rattle.tk_script.specs.declared.pod_script.PodScript.{PodScript}
use Rattle.tk_script.specs.ScriptHost.{Scripts, play_of, plays_with}
use Rattle.tk_kubelet.specs.Holding.{Holding, IsMet}
use Rattle.tk_machine.specs.State.{KubeletState, new_kubelet, no_fronts, start}
use Rattle.tk_machine.specs.Machine.{IsSound}
use Rattle.tk_play.specs.Own.{IsOwn}
use Rattle.tk_play.specs.Scripts.{script_of}
use Rattle.tk_steps.proofs.Gets.{get_more}
use Rattle.tk_world.specs.declared.node.Node.{Node}
use Rattle.tk_world.specs.Nodes.{IsNewNode, IsNode, scripts_in, state_of}
use Rattle.tk_world.specs.Whole.{AreNewCaches, AreNewNodes, Stands, fronts_of, world_of}
use Rattle.tk_held.proofs.Nothing.{nothing_is_met}
use Rattle.tk_cache.proofs.Showing.{shows_none}
use Rattle.tk_machine.proofs.Start.{start_is_sound}
use Rattle.tk_world.proofs.Moved.{state}
use Rattle.tk_world.proofs.Restarted.{unseen_fronts}

-- nothing was killed
none_killed : (killed : ℕ → Bool) → ((child : ℕ) → killed child ≡ false) → killed ≡ (λ child. false)
none_killed killed none = λ i child. none child i

pub new_state : (pods : List PodScript) (number : ℕ) (node : Node) → IsNewNode pods number node → state_of node ≡ new_kubelet
new_state pods number node is =
    parts node.cache.fronts node.kubelet.life node.host.log.told (flags node.host.log.killed) (unseen_fronts node.cache is.unseen) (ap (λ (k : Holding). k.life) is.kubelet) is.told (none_killed (flags node.host.log.killed) is.killed)
  where
    parts : (f : Fronts) (l : ℕ) (t : List HostEvent) (k : ℕ → Bool) → f ≡ no_fronts → l ≡ 1 → t ≡ [] → k ≡ (λ child. false) → record { fronts = f; life = l; told = t; killed = k } ≡ new_kubelet
    parts f l t k is_f is_l is_t is_k = rw (is_f, is_l, is_t, is_k) refl

-- a host that fails in no call plays its scripts
pub new_plays : (failing : List ℕ) (own : Scripts) (root : List ℕ) (given pods : List PodScript) → failing ≡ [] → own ≡ record { root = root; pods = given } → root ≡ codes "/work" → given ≡ pods
    → plays_with failing own ≡ Some (play_of (scripts_in pods))
new_plays failing own root given pods no_call is_own is_root is_given = rw (no_call, is_own, is_root, is_given) refl

module _ (history : List Entry) (pods : List PodScript) (controllers kubelets : ℕ) (caches : List Kept) (nodes : List Node) (watch : Kept)
    (legal : IsLegal history) (admits : AreAdmits history) (rooted : HaveRoot (codes "/work") history)
    (new_caches : AreNewCaches controllers caches) (new_nodes : AreNewNodes pods kubelets nodes) (unseen : Shows (seen watch) [])
    (few_controllers : controllers < 2 ^ 32) (few_kubelets : kubelets < 2 ^ 32) where
  pub begins : world_of history 0 caches nodes ≡ start controllers kubelets history
  begins = ap (λ (fs : List Fronts). state history 0 fs (map state_of nodes)) new_caches.same ∙ ap (λ (ks : List KubeletState). state history 0 (replicate controllers no_fronts) ks) new_nodes.same

  new_stands : (i : ℕ) (node : Node) → IsNewNode pods i node → IsNode (scripts_in pods) history i node
  new_stands i node is = record {
    number = ap (λ (k : Holding). k.number) is.kubelet;
    life = ap (λ (k : Holding). k.life) is.kubelet ∙ sym is.life;
    root = ap (λ (k : Holding). k.root) is.kubelet;
    shows = shows_none (seen node.cache) history is.unseen;
    met = subst (λ (t : List HostEvent). IsMet node.kubelet history (flags node.host.log.killed) t) (sym is.told)
        (subst (λ (k : Holding). IsMet k history (flags node.host.log.killed) []) (sym is.kubelet)
        (nothing_is_met.any i 1 (codes "/work") history (flags node.host.log.killed) (nothing_is_met.admitted i 1 history admits)));
    own = subst (λ (t : List HostEvent). IsOwn node.kubelet (flags node.host.log.killed) t) (sym is.told)
        (subst (λ (k : Holding). IsOwn k (flags node.host.log.killed) []) (sym is.kubelet)
        (record { whole = λ place pod at. cc; own = tt; armed = λ child dead. let alive = is.killed child in cc }));
    plays = is.plays;
  }

  counted : {X Y : Type 0} (f : X → Y) (xs : List X) (n : ℕ) (y : Y) → map f xs ≡ replicate n y → length xs ≡ n
  counted f xs n y is = sym (length-map xs f) ∙ ap length is ∙ length-replicate n y

  pub start_stands : Stands (scripts_in pods) history 0 caches nodes watch
  start_stands = record {
    few_controllers = subst (λ (n : ℕ). n < 2 ^ 32) (sym (counted fronts_of caches controllers no_fronts new_caches.same)) few_controllers;
    few_nodes = subst (λ (n : ℕ). n < 2 ^ 32) (sym (counted state_of nodes kubelets new_kubelet new_nodes.same)) few_kubelets;
    root = refl;
    rooted = rooted;
    sound = subst (IsSound (script_of (scripts_in pods))) (sym begins) (start_is_sound (script_of (scripts_in pods)) controllers kubelets history legal admits);
    shown = λ i cache at. shows_none (seen cache) history (new_caches.unseen i cache at);
    watched = shows_none (seen watch) history unseen;
    stand = λ i node at. new_stands i node (new_nodes.each i node at);
  }

-- one more at the end

replicate_more : {X : Type 0} (n : ℕ) (x : X) → replicate n x ++ x ∷ [] ≡ replicate (n + 1) x
replicate_more n x = replicate-append-replicate n 1 x

map_more : {X Y : Type 0} (f : X → Y) (xs : List X) (x : X) (n : ℕ) (y : Y) → map f xs ≡ replicate n y → f x ≡ y → map f (xs ++ x ∷ []) ≡ replicate (n + 1) y
map_more {Y = Y} f xs x n y all is = map-append f xs (x ∷ []) ∙ (ap (λ (ys : List Y). ys ++ f x ∷ []) all ∙ (ap (λ (z : Y). replicate n y ++ z ∷ []) is ∙ replicate_more n y))

pub caches_more : (n : ℕ) (caches : List Kept) (cache : Kept) → AreNewCaches n caches → Shows (seen cache) [] → AreNewCaches (n + 1) (caches ++ cache ∷ [])
caches_more n caches cache all unseen = record {
  same = map_more fronts_of caches cache n no_fronts all.same (unseen_fronts cache unseen);
  unseen = λ i other at. elim (get_more caches cache other i at) [
    | inl before ↦ all.unseen i other before
    | inr last ↦ subst (λ (k : Kept). Shows (seen k) []) (sym last.1) unseen
  ];
}

pub nodes_more : (pods : List PodScript) (n : ℕ) (nodes : List Node) (node : Node) → AreNewNodes pods n nodes → IsNewNode pods n node → AreNewNodes pods (n + 1) (nodes ++ node ∷ [])
nodes_more pods n nodes node all is = record {
  same = map_more state_of nodes node n new_kubelet all.same (new_state pods n node is);
  each = λ i other at. elim (get_more nodes node other i at) [
    | inl before ↦ all.each i other before
    | inr last ↦ subst (IsNewNode pods i) (sym last.1) (subst (λ (m : ℕ). IsNewNode pods m node) (sym (last.0 ∙ count)) is)
  ];
}
  where
    count : length nodes ≡ n
    count = sym (length-map nodes state_of) ∙ ap length all.same ∙ length-replicate n new_kubelet

-- What moves of caches and restarts come to.
use Rattle.std.proofs.Common.{◌≡◌, ℕ, List, [], ◌∷◌, map, Option, Some, refl, sym, ◌∙◌, ap, subst, inl, inr}
use Rattle.std.specs.Prelude.{◌<◌, ◌^◌, slice_get, slice_set}
use Rattle.std.specs.Option.{option_map}
use Rattle.std.proofs.lemmas.Option.{slice_get-map}
use Rattle.std.proofs.lemmas.List.{map-set, length-set}
use Rattle.tk_types.specs.declared.scenario.Event.{Event}
use Rattle.tk_types.specs.declared.scenario.Viewer.{Viewer}
use Rattle.tk_types.specs.declared.scenario.Viewer.TheVariants as viewers
use Rattle.tk_journal.specs.declared.entry.Entry.{Entry}
use Rattle.tk_journal.specs.declared.entry.Fronts.{Fronts}
use Rattle.tk_store.specs.Writes.{Stored}
use Rattle.tk_cache.specs.Fronts.{Shows}
use Rattle.tk_cache.specs.Views.{Kept, seen}
use Rattle.tk_script.specs.declared.pod_script.PodScript.{PodScript}
use Rattle.tk_machine.specs.Hosts.{Script}
use Rattle.tk_machine.specs.State.{KubeletState, World}
use Rattle.tk_machine.specs.Machine.{Step, Steps, move_fronts, move_kubelet, moved_at}
use Rattle.tk_play.specs.Scripts.{script_of}
use Rattle.tk_world.specs.declared.moves.Move.{Move}
use Rattle.tk_world.specs.declared.moves.Move.TheVariants as moves
use Rattle.tk_world.specs.declared.node.Node.{Node}
use Rattle.tk_world.specs.Goes.{Goes, Stays}
use Rattle.tk_world.specs.Moves.{moved, moves_by}
use Rattle.tk_world.specs.Nodes.{IsNode, scripts_in, state_of}
use Rattle.tk_world.specs.Whole.{Stands, fronts_of, whole_of, world_of}
use Rattle.tk_steps.proofs.Gets.{get_set}
use Rattle.tk_machine.proofs.Soundness.{sound_step}

-- lists

pub map_get : {X Y : Type 0} (f : X → Y) (xs : List X) (i : ℕ) (x : X) → slice_get xs i ≡ Some x → slice_get (map f xs) i ≡ Some (f x)
map_get f xs i x is = slice_get-map f xs i ∙ ap (option_map f) is

-- one element is moved
pub map_moved : {X Y : Type 0} (f : X → Y) (xs : List X) (i : ℕ) (old new : X) (move : Y → Y) → slice_get xs i ≡ Some old → f new ≡ move (f old)
    → map f (slice_set xs i new) ≡ moved_at (map f xs) i move (slice_get (map f xs) i)
map_moved {Y = Y} f xs i old new move at is =
    map-set f xs i new ∙ (ap (slice_set (map f xs) i) is ∙ ap (λ (o : Option Y). moved_at (map f xs) i move o) (sym (map_get f xs i old at)))

-- states of the machine

abbrev pub state : List Entry → ℕ → List Fronts → List KubeletState → World
state history clock controllers kubelets = record { history = history; clock = clock; controllers = controllers; kubelets = kubelets }

pub one_step : (script : Script) (w : World) (event : Event) (after : World) → Step script w event after → Steps script w (event ∷ []) after
one_step script w event after step = (after, step, refl)

pub move_step : (script : Script) (w after : World) (viewer : Viewer) (how : Move) → after ≡ move_fronts w viewer (moved how w.history) → Step script w (moves_by viewer how) after
move_step script w after viewer (moves.Deliver kind n) is = is
move_step script w after viewer moves.DeliverAll is = is
move_step script w after viewer (moves.Relist kind position) is = is

module _ (store : Stored) (clock : ℕ) (controllers : List Kept) (nodes : List Node) (pods : List PodScript) (watch : Kept)
    (stands : Stands (scripts_in pods) store.history clock controllers nodes watch) where
  -- a controller's cache, in any event that moves it
  pub controller_set : (event : Event) (i : ℕ) (new : Kept) → Shows (seen new) store.history
      → Step (script_of (scripts_in pods)) (world_of store.history clock controllers nodes) event (world_of store.history clock (slice_set controllers i new) nodes)
      → Goes (event ∷ []) (whole_of store clock controllers nodes pods watch) (whole_of store clock (slice_set controllers i new) nodes pods watch)
  controller_set event i new shows step = record {
    steps = one_step (script_of (scripts_in pods)) (world_of store.history clock controllers nodes) event (world_of store.history clock (slice_set controllers i new) nodes) step;
    stays = record {
      pods = refl;
      controllers = length-set controllers i new;
      nodes = refl;
      stands = record {
        few_controllers = subst (λ (n : ℕ). n < 2 ^ 32) (sym (length-set controllers i new)) stands.few_controllers;
        few_nodes = stands.few_nodes;
        root = stands.root;
        rooted = stands.rooted;
        sound = sound_step (script_of (scripts_in pods)) (world_of store.history clock controllers nodes) event (world_of store.history clock (slice_set controllers i new) nodes) stands.sound step;
        shown = λ j cache at. elim (get_set controllers new cache i j at) [
          | inl own ↦ subst (λ (k : Kept). Shows (seen k) store.history) (sym own.1) shows
          | inr other ↦ stands.shown j cache other.1
        ];
        watched = stands.watched;
        stand = stands.stand;
      };
    };
  }

  -- a node
  pub node_set : (event : Event) (i : ℕ) (new : Node) → IsNode (scripts_in pods) store.history i new
      → Step (script_of (scripts_in pods)) (world_of store.history clock controllers nodes) event (world_of store.history clock controllers (slice_set nodes i new))
      → Goes (event ∷ []) (whole_of store clock controllers nodes pods watch) (whole_of store clock controllers (slice_set nodes i new) pods watch)
  node_set event i new is step = record {
    steps = one_step (script_of (scripts_in pods)) (world_of store.history clock controllers nodes) event (world_of store.history clock controllers (slice_set nodes i new)) step;
    stays = record {
      pods = refl;
      controllers = refl;
      nodes = length-set nodes i new;
      stands = record {
        few_controllers = stands.few_controllers;
        few_nodes = subst (λ (n : ℕ). n < 2 ^ 32) (sym (length-set nodes i new)) stands.few_nodes;
        root = stands.root;
        rooted = stands.rooted;
        sound = sound_step (script_of (scripts_in pods)) (world_of store.history clock controllers nodes) event (world_of store.history clock controllers (slice_set nodes i new)) stands.sound step;
        shown = stands.shown;
        watched = stands.watched;
        stand = λ j node at. elim (get_set nodes new node i j at) [
          | inl own ↦ subst (λ (n : ℕ). IsNode (scripts_in pods) store.history n node) (sym own.0) (subst (IsNode (scripts_in pods) store.history i) (sym own.1) is)
          | inr other ↦ stands.stand j node other.1
        ];
      };
    };
  }

  -- the cache that takes no part
  pub watch_set : (new : Kept) → Shows (seen new) store.history → Stays (whole_of store clock controllers nodes pods watch) (whole_of store clock controllers nodes pods new)
  watch_set new shows = record {
    pods = refl;
    controllers = refl;
    nodes = refl;
    stands = record {
      few_controllers = stands.few_controllers;
      few_nodes = stands.few_nodes;
      root = stands.root;
      rooted = stands.rooted;
      sound = stands.sound;
      shown = stands.shown;
      watched = shows;
      stand = stands.stand;
    };
  }

  -- a controller's cache is moved
  pub controller_moves : (how : Move) (i : ℕ) (old new : Kept) → slice_get controllers i ≡ Some old → new.fronts ≡ moved how store.history old.fronts → Shows (seen new) store.history
      → Goes (moves_by (viewers.Controller i) how ∷ []) (whole_of store clock controllers nodes pods watch) (whole_of store clock (slice_set controllers i new) nodes pods watch)
  controller_moves how i old new at fronts shows =
      controller_set (moves_by (viewers.Controller i) how) i new shows
      (move_step (script_of (scripts_in pods)) (world_of store.history clock controllers nodes) (world_of store.history clock (slice_set controllers i new) nodes) (viewers.Controller i) how
      (ap (λ (cs : List Fronts). state store.history clock cs (map state_of nodes)) (map_moved fronts_of controllers i old new (moved how store.history) at fronts)))

  -- so is a node's

  pub node_moves : (how : Move) (i : ℕ) (old : Node) (new : Kept) → slice_get nodes i ≡ Some old → new.fronts ≡ moved how store.history old.cache.fronts → Shows (seen new) store.history
      → Goes (moves_by (viewers.Kubelet i) how ∷ []) (whole_of store clock controllers nodes pods watch) (whole_of store clock controllers (slice_set nodes i (record old { cache = new })) pods watch)
  node_moves how i old new at fronts shows =
      let was = stands.stand i old at in
      node_set (moves_by (viewers.Kubelet i) how) i (record old { cache = new })
      (record { number = was.number; life = was.life; root = was.root; shows = shows; met = was.met; own = was.own; plays = was.plays })
      (move_step (script_of (scripts_in pods)) (world_of store.history clock controllers nodes) (world_of store.history clock controllers (slice_set nodes i (record old { cache = new }))) (viewers.Kubelet i) how
      (ap (λ (ks : List KubeletState). state store.history clock (map fronts_of controllers) ks)
      (map_moved state_of nodes i old (record old { cache = new }) (move_kubelet (moved how store.history)) at (ap (λ (f : Fronts). record (state_of old) { fronts = f }) fronts))))

-- What workers' turns, asks and the clock come to.
use Rattle.std.proofs.Common.{◌≡◌, ◌≢◌, ℕ, List, [], ◌∷◌, Some, refl, inr}
use Rattle.std.specs.Prelude.{◌≤◌, slice_get}
use Rattle.tk_types.specs.declared.object.Asked.{Asked}
use Rattle.tk_types.specs.declared.scenario.Event.{Event}
use Rattle.tk_types.specs.declared.scenario.Event.TheVariants as events
use Rattle.tk_types.specs.declared.scenario.Taker.TheVariants as takers
use Rattle.tk_journal.specs.declared.entry.Actor.{Actor}
use Rattle.tk_journal.specs.declared.entry.Actor.TheVariants as actors
use Rattle.tk_store.specs.Writes.{Stored}
use Rattle.tk_store.specs.declared.turn.Turn.{Turn}
use Rattle.tk_store.specs.declared.turn.Turn.TheVariants as turns
use Rattle.tk_cache.specs.Views.{Kept, seen}
use Rattle.tk_choice.specs.Took.{TookFirst}
use Rattle.tk_script.specs.declared.pod_script.PodScript.{PodScript}
use Rattle.tk_machine.specs.Machine.{AskTurn, ControllerTurns, Step, WorkerTurn}
use Rattle.tk_play.specs.Scripts.{script_of}
use Rattle.tk_world.specs.declared.node.Node.{Node}
use Rattle.tk_world.specs.Goes.{Goes}
use Rattle.tk_world.specs.Nodes.{scripts_in}
use Rattle.tk_world.specs.Whole.{Stands, fronts_of, whole_of, world_of}
use Rattle.tk_machine.proofs.Soundness.{sound_step}
use Rattle.tk_machine.proofs.Taking.{workers_take}
use Rattle.tk_world.proofs.Grows.{AddsBy, IsNotBy, ask_adds, stands_more, worker_adds}
use Rattle.tk_world.proofs.Moved.{map_get, one_step}

abbrev pub IsWorker : Actor → Type 0
IsWorker (actors.Runs n) = Unit {0}
IsWorker (actors.Tasks n) = Unit {0}
IsWorker actors.User = Unit {0}
IsWorker _ = ⊥

not_admission : (actor : Actor) → IsWorker actor → actor ≢ actors.Admission
not_admission (actors.Runs n) is = λ same. cc
not_admission (actors.Tasks n) is = λ same. cc
not_admission actors.User is = λ same. cc
not_admission _ is = absurd is

not_kubelet : (actor : Actor) → IsWorker actor → (number : ℕ) → IsNotBy number actor
not_kubelet (actors.Runs n) is number life = λ same. cc
not_kubelet (actors.Tasks n) is number life = λ same. cc
not_kubelet actors.User is number life = λ same. cc
not_kubelet _ is number life = absurd is

module _ (store now : Stored) (clock : ℕ) (controllers : List Kept) (nodes : List Node) (pods : List PodScript) (watch : Kept)
    (stands : Stands (scripts_in pods) store.history clock controllers nodes watch) where
  -- a step that adds an entry of a worker or of the user, or none
  grows : (event : Event) (actor : Actor) → IsWorker actor → AddsBy actor store.history now.history
      → Step (script_of (scripts_in pods)) (world_of store.history clock controllers nodes) event (world_of now.history clock controllers nodes)
      → Goes (event ∷ []) (whole_of store clock controllers nodes pods watch) (whole_of now clock controllers nodes pods watch)
  grows event actor is adds step = record {
    steps = one_step (script_of (scripts_in pods)) (world_of store.history clock controllers nodes) event (world_of now.history clock controllers nodes) step;
    stays = record {
      pods = refl;
      controllers = refl;
      nodes = refl;
      stands = stands_more (scripts_in pods) store.history now.history clock controllers nodes nodes watch actor (not_admission actor is) adds stands
          (sound_step (script_of (scripts_in pods)) (world_of store.history clock controllers nodes) event (world_of now.history clock controllers nodes) stands.sound step) refl
          (λ j node at. inr (not_kubelet actor is j, at));
    };
  }

  -- a worker's turn that found room
  took : (actor : Actor) (i : ℕ) (cache : Kept) (turn : Turn) → slice_get controllers i ≡ Some cache → turn ≢ turns.Memory
      → TookFirst (seen cache) actor clock store turn now → WorkerTurn store.history actor cache.fronts clock now.history
  took actor i cache turn at room first = workers_take (seen cache) actor clock store now turn stands.sound.legal (stands.shown i cache at) room first

  takes : (actor : Actor) (i : ℕ) (cache : Kept) (turn : Turn) → slice_get controllers i ≡ Some cache → turn ≢ turns.Memory
      → TookFirst (seen cache) actor clock store turn now
      → ControllerTurns actor i (world_of store.history clock controllers nodes) (world_of now.history clock controllers nodes)
  takes actor i cache turn at room first = record {
    fronts = cache.fronts;
    at = map_get fronts_of controllers i cache at;
    history = now.history;
    turn = took actor i cache turn at room first;
    leaves = refl;
  }

  adds_one : (actor : Actor) (i : ℕ) (cache : Kept) (turn : Turn) → slice_get controllers i ≡ Some cache → turn ≢ turns.Memory
      → TookFirst (seen cache) actor clock store turn now → AddsBy actor store.history now.history
  adds_one actor i cache turn at room first = worker_adds store.history actor cache.fronts clock now.history (took actor i cache turn at room first)

  pub runs_worker_goes : (i : ℕ) (cache : Kept) (turn : Turn) → slice_get controllers i ≡ Some cache → turn ≢ turns.Memory
      → TookFirst (seen cache) (actors.Runs i) clock store turn now
      → Goes (events.Turn (takers.Runs i) ∷ []) (whole_of store clock controllers nodes pods watch) (whole_of now clock controllers nodes pods watch)
  runs_worker_goes i cache turn at room first = grows (events.Turn (takers.Runs i)) (actors.Runs i) tt (adds_one (actors.Runs i) i cache turn at room first) (takes (actors.Runs i) i cache turn at room first)

  pub tasks_worker_goes : (i : ℕ) (cache : Kept) (turn : Turn) → slice_get controllers i ≡ Some cache → turn ≢ turns.Memory
      → TookFirst (seen cache) (actors.Tasks i) clock store turn now
      → Goes (events.Turn (takers.Tasks i) ∷ []) (whole_of store clock controllers nodes pods watch) (whole_of now clock controllers nodes pods watch)
  tasks_worker_goes i cache turn at room first = grows (events.Turn (takers.Tasks i)) (actors.Tasks i) tt (adds_one (actors.Tasks i) i cache turn at room first) (takes (actors.Tasks i) i cache turn at room first)

  -- an ask
  pub ask_goes : (name : List ℕ) (status : Asked) → AskTurn store.history clock name status now.history
      → Goes (events.Ask name status ∷ []) (whole_of store clock controllers nodes pods watch) (whole_of now clock controllers nodes pods watch)
  ask_goes name status turn = grows (events.Ask name status) actors.User tt (ask_adds store.history clock name status now.history turn) (now.history, turn, refl)

  -- the clock
  pub clock_goes : (reading : ℕ) → clock ≤ reading
      → Goes (events.Clock reading ∷ []) (whole_of store clock controllers nodes pods watch) (whole_of store reading controllers nodes pods watch)
  clock_goes reading later = record {
    steps = one_step (script_of (scripts_in pods)) (world_of store.history clock controllers nodes) (events.Clock reading) (world_of store.history reading controllers nodes) (later, refl);
    stays = record {
      pods = refl;
      controllers = refl;
      nodes = refl;
      stands = record {
        few_controllers = stands.few_controllers;
        few_nodes = stands.few_nodes;
        root = stands.root;
        rooted = stands.rooted;
        sound = sound_step (script_of (scripts_in pods)) (world_of store.history clock controllers nodes) (events.Clock reading) (world_of store.history reading controllers nodes) stands.sound (later, refl);
        shown = stands.shown;
        watched = stands.watched;
        stand = stands.stand;
      };
    };
  }

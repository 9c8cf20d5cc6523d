-- A kubelet's turn over its host is the machine's, and its node stands again.
use Rattle.std.proofs.Common.{◌≡◌, ℕ, List, [], ◌∷◌, Option, Some, map, refl, sym, ◌∙◌, ap, subst, inl, inr}
use Rattle.std.specs.Prelude.{slice_get, slice_set}
use Rattle.std.proofs.lemmas.Option.{same_Some}
use Rattle.std.proofs.lemmas.List.{map-set, length-set}
use Rattle.tk_types.specs.declared.scenario.Event.TheVariants as events
use Rattle.tk_types.specs.declared.scenario.Taker.TheVariants as takers
use Rattle.tk_edge.specs.declared.event.Event.{Event as HostEvent}
use Rattle.tk_edge.specs.Files.{broken}
use Rattle.tk_edge.specs.declared.event.Event.TheVariants as tells
use Rattle.tk_edge.specs.HostLog.{flags}
use Rattle.tk_edge.specs.Plays.{Play}
use Rattle.tk_journal.specs.declared.entry.Actor.{Actor}
use Rattle.tk_journal.specs.declared.entry.Actor.TheVariants as actors
use Rattle.tk_journal.specs.Legal.{IsLegal}
use Rattle.tk_store.specs.Writes.{Stored}
use Rattle.tk_cache.specs.Fronts.{Shows}
use Rattle.tk_cache.specs.Views.{Kept, seen}
use Rattle.tk_script.specs.declared.pod_script.PodScript.{PodScript}
use Rattle.tk_script.specs.ScriptHost.{EndAsScripted, RefuseAsScripted, RefusesScripted, Scripts, play_of, plays_of, plays_with, script_files}
use Rattle.tk_kubelet.specs.declared.kubelet.KubeletTurn.{KubeletTurn as Answer}
use Rattle.tk_kubelet.specs.Holding.{IsMet, IsSameKubelet}
use Rattle.tk_kubelet.specs.Seat.{seat_of}
use Rattle.tk_kubelet.specs.Turn.{TurnGives}
use Rattle.tk_machine.specs.State.{KubeletState}
use Rattle.tk_machine.specs.Machine.{KubeletTurn, KubeletTurns}
use Rattle.tk_play.specs.Own.{IsOwn}
use Rattle.tk_play.specs.Scripts.{script_of}
use Rattle.tk_play.specs.Turn.{PlaysTurn}
use Rattle.tk_world.specs.declared.node.Node.{Node}
use Rattle.tk_world.specs.Goes.{Goes}
use Rattle.tk_world.specs.Nodes.{IsNode, NodePlays, PlaysOn, hosts_between, scripts_in, state_of}
use Rattle.tk_world.specs.Whole.{Stands, fronts_of, whole_of, world_of}
use Rattle.tk_steps.proofs.Gets.{get_set}
use Rattle.tk_machine.proofs.Soundness.{sound_step}
use Rattle.tk_play.proofs.Turn.{turn_is_played}
use Rattle.tk_world.proofs.Grows.{AddsBy, kubelet_adds, shows_more, stands_more}
use Rattle.tk_world.proofs.Moved.{map_get, one_step, state}

-- scripts that are played alike give the same exits and files

module _ (one other : Scripts) (same : play_of one ≡ play_of other) where
  ends_alike : (told : List HostEvent) → EndAsScripted one told → EndAsScripted other told
  ends_alike told ends child exit order exited started = ends child exit order exited started ∙ ap (λ (p : Play). p.exit order.pod order.step) same

  files_alike : (told : List HostEvent) → script_files one told ≡ script_files other told
  files_alike told = ap (λ (p : Play). p.files told) same

  refuses_alike : (e : HostEvent) (older : List HostEvent) → RefusesScripted one e older → RefusesScripted other e older
  refuses_alike (tells.Refused child) older has = record {
    it = has.it;
    is = has.is;
    has = record { it = has.has.it; is = sym (ap (λ (f : List ℕ → Option (List ℕ)). f (broken has.it.wait)) (files_alike older)) ∙ has.has.is; has = tt };
  }
  refuses_alike _ older has = tt

  all_refuse_alike : (told : List HostEvent) → RefuseAsScripted one told → RefuseAsScripted other told
  all_refuse_alike [] all = tt
  all_refuse_alike (e ∷ older) all = (refuses_alike e older all.0, all_refuse_alike older all.1)

-- what plays has no call that is to fail
plays_none : (failing : List ℕ) (own scripts : Scripts) → plays_with failing own ≡ Some (play_of scripts) → (failing ≡ []) × (play_of own ≡ play_of scripts)
plays_none [] own scripts is = (refl, same_Some (play_of own) (play_of scripts) is)
plays_none (call ∷ calls) own scripts is = cc (is)

module _ (old new : Node) (moment : ℕ) (before after : Stored) (answer : Answer)
    (legal : IsLegal before.history)
    (cache : new.cache ≡ old.cache)
    (life : new.life ≡ old.life)
    (same : IsSameKubelet old.kubelet new.kubelet)
    (met : IsMet new.kubelet after.history (flags new.host.log.killed) new.host.log.told)
    (gives : TurnGives (seat_of old.kubelet (seen old.cache) moment) old.kubelet.held new.kubelet.held (hosts_between old new) before after answer)
    (sure_before : old.host.failing ≡ [] → old.host.faults ≡ 0)
    (sure : new.host.failing ≡ [] → new.host.faults ≡ 0)
    (ends : EndAsScripted new.host.scripts new.host.log.told)
    (refuses : RefuseAsScripted new.host.scripts new.host.log.told) where
  pub node_plays : NodePlays moment before.history after.history old new
  node_plays scripts number root rooted stands = record { turn = turn; stands = again }
    where
      plays_now : plays_of new.host ≡ Some (play_of scripts)
      plays_now = gives.readied.plays ∙ stands.plays

      alike : (new.host.failing ≡ []) × (play_of new.host.scripts ≡ play_of scripts)
      alike = plays_none new.host.failing new.host.scripts scripts plays_now

      played : PlaysTurn scripts old.kubelet new.kubelet (seen old.cache) moment (hosts_between old new) before after answer
      played = record {
        legal = legal;
        rooted = rooted;
        own_root = stands.root;
        host_root = root;
        shows = stands.shows;
        met = stands.met;
        met_now = met;
        same = same;
        plays = stands.plays;
        no_fault = sure_before (plays_none old.host.failing old.host.scripts scripts stands.plays).0;
        no_fault_now = sure alike.0;
        files = ap Some (files_alike new.host.scripts scripts alike.1 new.host.log.told);
        ends = ends_alike new.host.scripts scripts alike.1 new.host.log.told ends;
        refuses = all_refuse_alike new.host.scripts scripts alike.1 new.host.log.told refuses;
        gives = gives;
      }

      law : KubeletTurn (script_of scripts) old.kubelet.number (state_of old) moment before.history after.history (record (state_of new) { fronts = old.cache.fronts })
          × IsOwn new.kubelet (flags new.host.log.killed) new.host.log.told
      law = turn_is_played scripts old.kubelet new.kubelet (seen old.cache) moment (hosts_between old new) before after answer played stands.own

      turn : KubeletTurn (script_of scripts) number (state_of old) moment before.history after.history (state_of new)
      turn = subst (λ (n : ℕ). KubeletTurn (script_of scripts) n (state_of old) moment before.history after.history (state_of new)) stands.number
          (subst (λ (c : Kept). KubeletTurn (script_of scripts) old.kubelet.number (state_of old) moment before.history after.history (record (state_of new) { fronts = c.fronts })) (sym cache) law.0)

      adds : AddsBy (actors.Kubelet number old.kubelet.life) before.history after.history
      adds = kubelet_adds (script_of scripts) number (state_of old) (state_of new) moment before.history after.history turn

      again : IsNode scripts after.history number new
      again = record {
        number = same.number ∙ stands.number;
        life = same.life ∙ stands.life ∙ sym life;
        root = same.root ∙ stands.root;
        shows = subst (λ (c : Kept). Shows (seen c) after.history) (sym cache) (shows_more (seen old.cache) (actors.Kubelet number old.kubelet.life) before.history after.history adds stands.shows);
        met = met;
        own = law.1;
        plays = plays_now;
      }

-- so is that of a node of the world
module _ (store now : Stored) (clock : ℕ) (controllers : List Kept) (nodes : List Node) (pods : List PodScript) (watch : Kept)
    (stands : Stands (scripts_in pods) store.history clock controllers nodes watch) where
  pub kubelet_goes : (i : ℕ) (old new : Node) → slice_get nodes i ≡ Some old → NodePlays clock store.history now.history old new
      → Goes (events.Turn (takers.Kubelet i) ∷ []) (whole_of store clock controllers nodes pods watch) (whole_of now clock controllers (slice_set nodes i new) pods watch)
  kubelet_goes i old new at plays = record {
    steps = one_step (script_of (scripts_in pods)) (world_of store.history clock controllers nodes) (events.Turn (takers.Kubelet i)) (world_of now.history clock controllers (slice_set nodes i new)) turns;
    stays = record {
      pods = refl;
      controllers = refl;
      nodes = length-set nodes i new;
      stands = stands_more (scripts_in pods) store.history now.history clock controllers nodes (slice_set nodes i new) watch (actors.Kubelet i old.kubelet.life) (λ same. cc)
          (kubelet_adds (script_of (scripts_in pods)) i (state_of old) (state_of new) clock store.history now.history goes.turn) stands
          (sound_step (script_of (scripts_in pods)) (world_of store.history clock controllers nodes) (events.Turn (takers.Kubelet i)) (world_of now.history clock controllers (slice_set nodes i new)) stands.sound turns)
          (length-set nodes i new)
          (λ j node is. elim (get_set nodes new node i j is) [
            | inl own ↦ inl (subst (λ (n : ℕ). IsNode (scripts_in pods) now.history n node) (sym own.0) (subst (IsNode (scripts_in pods) now.history i) (sym own.1) goes.stands))
            | inr other ↦ inr (λ life same. other.0 (sym (ap number_of same)), other.1)
          ]);
    };
  }
    where
      number_of : Actor → ℕ
      number_of (actors.Kubelet number life) = number
      number_of _ = 0

      goes : PlaysOn (scripts_in pods) i clock store.history now.history old new
      goes = plays (scripts_in pods) i stands.root stands.rooted (stands.stand i old at)

      turns : KubeletTurns (script_of (scripts_in pods)) i (world_of store.history clock controllers nodes) (world_of now.history clock controllers (slice_set nodes i new))
      turns = record {
        k = state_of old;
        at = map_get state_of nodes i old at;
        history = now.history;
        now = state_of new;
        turn = goes.turn;
        leaves = ap (λ (ks : List KubeletState). state now.history clock (map fronts_of controllers) ks) (map-set state_of nodes i new);
      }

-- The controllers of a bench and its nodes, in seats for a round and out of them.
use Rattle.std.proofs.Common.{◌≡◌, ℕ, ◌<◌, ◌≤◌, List, [], ◌++◌, length, map, arith, refl, sym, ap, ◌∙◌, subst}
use Rattle.std.specs.Prelude.{All, Bool, Option, ◌⊎◌, slice_get}
use Rattle.std.proofs.lemmas.Option.{same_Some}
use Rattle.std.proofs.lemmas.List.{length-map}
use Rattle.std.proofs.lemmas.List.Elements.{All-nil}
use Rattle.tk_edge.specs.declared.event.Event.{Event}
use Rattle.tk_edge.specs.declared.gate.GateTurn.{GateTurn}
use Rattle.tk_edge.specs.declared.gate.GateTurn.TheVariants.{Pause}
use Rattle.tk_turn.specs.Claims.{Claim, Distinct, Note, whole}
use Rattle.tk_passes.specs.declared.actor.Member.{Member}
use Rattle.tk_passes.specs.Standing.{Each, Grows, IsAmong, StandsBehind, numbers}
use Rattle.tk_journal.specs.declared.entry.Entry.{Entry}
use Rattle.tk_store.specs.Notes.{controller_owner, kubelet_owner, notes_of}
use Rattle.tk_rounds.specs.declared.bench.Controller.{Controller}
use Rattle.tk_rounds.specs.declared.bench.Node.{Node}
use Rattle.tk_rounds.specs.Bench.{AllFollow, AllReady, ControllerFollows, IsReadyController, IsReadyNode, NodeFollows, controller_number, node_number}
use Rattle.tk_rounds.specs.Growth.{GrowsBy, OfOne}
use Rattle.tk_rounds.specs.Members.{of_controller, of_kubelet}
use Rattle.tk_threads.specs.declared.leader.Leader.{Leader}
use Rattle.tk_threads.specs.declared.worker.Worker.{Worker}
use Rattle.tk_threads.specs.Seating.{AreNumbered, controller_in, leader_of, node_in, worker_of}
use Rattle.tk_threads.specs.Seats.{LeaderFollows, LeaderReady, WorkerFollows, WorkerReady}
use Rattle.tk_threads.specs.Timely.{IsTimely}
use Rattle.tk_threads.proofs.Rounded.{among_seats, back_follow, back_ready, count_left, distinct_append, distinct_seats, grows_entries, ready_seats}

controllers_differ : (i j : ℕ) → controller_owner i ≡ controller_owner j → i ≡ j
controllers_differ i j is = omega (arith, is)

kubelets_differ : (i j : ℕ) → kubelet_owner i ≡ kubelet_owner j → i ≡ j
kubelets_differ i j is = omega (arith, is)

kinds_differ : (i j : ℕ) → controller_owner i ≡ kubelet_owner j → ⊥
kinds_differ i j is = omega (arith, is)

pub are_numbered : {M : Type 0} (number : M → ℕ) (ready : List Entry → M → Type 0) (history : List Entry) (xs ys : List M) → ys ≡ xs → AllReady number ready history xs → AreNumbered number ys
are_numbered {M} number ready history xs ys same are i m at = (are i m (ap (λ (l : List M). slice_get l i) (sym same) ∙ at)).0

-- where nothing was done

pub same_grows : (Such : Entry → Type 0) (history after : List Entry) → after ≡ history → GrowsBy Such history after
same_grows Such history after is = record { new = []; grown = is; such = All-nil Such }

pub same_follow : {M : Type 0} (follows : M → M → List Entry → Type 0) (members : List M) (history : List Entry) → AllFollow follows members members history history
same_follow follows members history i start a b at_a at_b is = subst (λ z. follows start z history) (same_Some a b (sym at_a ∙ at_b)) is

-- what the first pass has seen

pub seen_of_whole : (claim : Claim) (seen : List Note) → claim ≡ whole seen → claim.seen ≡ seen
seen_of_whole claim seen is = ap (λ (c : Claim). c.seen) is

-- controllers

module _ {K G : Type 0} where
  abbrev leader_at : Controller K G → Leader K G
  leader_at c = record { controller = c; owner = controller_owner c.number; given = Pause }

  module _ (answers : G → Option (List GateTurn)) (readings : K → Option (List ℕ)) (last : K → ℕ) (history : List Entry) (before : List Note) (began : before ≡ notes_of history)
      (xs : List (Controller K G)) (ms : List (Member (Leader K G))) (seats : ms ≡ map leader_of xs) (are : AllReady controller_number IsReadyController history xs) where
    pub leaders_ready : All (λ (w : Member (Leader K G)). LeaderReady before w.actor) ms
    leaders_ready =
        let are_ready = ready_seats leader_at (λ (l : Leader K G). l.controller) controller_number (λ (l : Leader K G). l.owner) controller_owner IsTimely IsReadyController (ControllerFollows answers readings last) (λ m. refl) (λ m. refl) controllers_differ history xs are in
        subst (λ (l : List (Member (Leader K G))). All (λ (w : Member (Leader K G)). LeaderReady before w.actor) l) (sym seats) (subst (λ (n : List Note). All (λ (w : Member (Leader K G)). LeaderReady n w.actor) (map leader_of xs)) (sym began) are_ready)

    pub leaders_distinct : Distinct (numbers (λ (l : Leader K G). l.owner) ms)
    leaders_distinct =
        let apart = distinct_seats leader_at (λ (l : Leader K G). l.controller) controller_number (λ (l : Leader K G). l.owner) controller_owner IsTimely IsReadyController (ControllerFollows answers readings last) (λ m. refl) (λ m. refl) controllers_differ history xs are in
        subst (λ (l : List (Member (Leader K G))). Distinct (numbers (λ (l : Leader K G). l.owner) l)) (sym seats) apart

    pub among_leaders : (x : ℕ) → IsAmong (numbers (λ (l : Leader K G). l.owner) ms) x → (i : ℕ) × (i < length xs) × (x ≡ controller_owner i)
    among_leaders x is =
        among_seats leader_at (λ (l : Leader K G). l.controller) controller_number (λ (l : Leader K G). l.owner) controller_owner IsTimely IsReadyController (ControllerFollows answers readings last) (λ m. refl) (λ m. refl) controllers_differ history xs are x
        (subst (λ (l : List (Member (Leader K G))). IsAmong (numbers (λ (l : Leader K G). l.owner) l) x) seats is)

    module _ (after : List Entry) (seen : List Note) (ended : seen ≡ notes_of after) (ws : List (Member (Leader K G))) (zs : List (Controller K G)) (out : zs ≡ map controller_in ws)
        (each : Each (StandsBehind (λ (l : Leader K G). l.owner) IsTimely LeaderReady (LeaderFollows answers readings last) before seen) ms ws) where
      leaders_each : Each (StandsBehind (λ (l : Leader K G). l.owner) IsTimely LeaderReady (LeaderFollows answers readings last) (notes_of history) seen) (map leader_of xs) ws
      leaders_each = subst (λ (z : List (Member (Leader K G))). Each (StandsBehind (λ (l : Leader K G). l.owner) IsTimely LeaderReady (LeaderFollows answers readings last) (notes_of history) seen) z ws) seats (subst (λ (n : List Note). Each (StandsBehind (λ (l : Leader K G). l.owner) IsTimely LeaderReady (LeaderFollows answers readings last) n seen) ms ws) began each)

      pub leaders_count : length zs ≡ length xs
      leaders_count =
          ap length out ∙ count_left leader_at (λ (l : Leader K G). l.controller) controller_number (λ (l : Leader K G). l.owner) controller_owner IsTimely IsReadyController (ControllerFollows answers readings last) (λ m. refl) (λ m. refl) controllers_differ history xs are after seen ended ws leaders_each

      pub leaders_back : AllReady controller_number IsReadyController after zs
      leaders_back =
          subst (AllReady controller_number IsReadyController after) (sym out)
          (back_ready leader_at (λ (l : Leader K G). l.controller) controller_number (λ (l : Leader K G). l.owner) controller_owner IsTimely IsReadyController (ControllerFollows answers readings last) (λ m. refl) (λ m. refl) controllers_differ history xs are after seen ended ws leaders_each)

      pub leaders_follow : AllFollow (ControllerFollows answers readings last) xs zs history after
      leaders_follow =
          subst (λ (l : List (Controller K G)). AllFollow (ControllerFollows answers readings last) xs l history after) (sym out)
          (back_follow leader_at (λ (l : Leader K G). l.controller) controller_number (λ (l : Leader K G). l.owner) controller_owner IsTimely IsReadyController (ControllerFollows answers readings last) (λ m. refl) (λ m. refl) controllers_differ history xs are after seen ended ws leaders_each)

-- nodes

module _ {K H G : Type 0} where
  abbrev worker_at : Node K H G → Worker K H G
  worker_at n = record { node = n; owner = kubelet_owner n.kubelet.number; given = Pause }

  module _ (answers : G → Option (List GateTurn)) (readings : K → Option (List ℕ)) (last : K → ℕ) (told : H → List Event) (killed : H → ℕ → Bool) (faults : H → ℕ) (history : List Entry) (before : List Note) (began : before ≡ notes_of history)
      (xs : List (Node K H G)) (ms : List (Member (Worker K H G))) (seats : ms ≡ map worker_of xs) (are : AllReady node_number (IsReadyNode told killed) history xs) where
    pub workers_ready : All (λ (w : Member (Worker K H G)). WorkerReady told killed before w.actor) ms
    workers_ready =
        let are_ready = ready_seats worker_at (λ (w : Worker K H G). w.node) node_number (λ (w : Worker K H G). w.owner) kubelet_owner IsTimely (IsReadyNode told killed) (NodeFollows answers readings last told faults) (λ m. refl) (λ m. refl) kubelets_differ history xs are in
        subst (λ (l : List (Member (Worker K H G))). All (λ (w : Member (Worker K H G)). WorkerReady told killed before w.actor) l) (sym seats) (subst (λ (n : List Note). All (λ (w : Member (Worker K H G)). WorkerReady told killed n w.actor) (map worker_of xs)) (sym began) are_ready)

    pub workers_distinct : Distinct (numbers (λ (w : Worker K H G). w.owner) ms)
    workers_distinct =
        let apart = distinct_seats worker_at (λ (w : Worker K H G). w.node) node_number (λ (w : Worker K H G). w.owner) kubelet_owner IsTimely (IsReadyNode told killed) (NodeFollows answers readings last told faults) (λ m. refl) (λ m. refl) kubelets_differ history xs are in
        subst (λ (l : List (Member (Worker K H G))). Distinct (numbers (λ (w : Worker K H G). w.owner) l)) (sym seats) apart

    pub among_workers : (x : ℕ) → IsAmong (numbers (λ (w : Worker K H G). w.owner) ms) x → (i : ℕ) × (i < length xs) × (x ≡ kubelet_owner i)
    among_workers x is =
        among_seats worker_at (λ (w : Worker K H G). w.node) node_number (λ (w : Worker K H G). w.owner) kubelet_owner IsTimely (IsReadyNode told killed) (NodeFollows answers readings last told faults) (λ m. refl) (λ m. refl) kubelets_differ history xs are x
        (subst (λ (l : List (Member (Worker K H G))). IsAmong (numbers (λ (w : Worker K H G). w.owner) l) x) seats is)

    module _ (after : List Entry) (seen : List Note) (ended : seen ≡ notes_of after) (ws : List (Member (Worker K H G))) (zs : List (Node K H G)) (out : zs ≡ map node_in ws)
        (each : Each (StandsBehind (λ (w : Worker K H G). w.owner) IsTimely (WorkerReady told killed) (WorkerFollows answers readings last told faults) before seen) ms ws) where
      workers_each : Each (StandsBehind (λ (w : Worker K H G). w.owner) IsTimely (WorkerReady told killed) (WorkerFollows answers readings last told faults) (notes_of history) seen) (map worker_of xs) ws
      workers_each = subst (λ (z : List (Member (Worker K H G))). Each (StandsBehind (λ (w : Worker K H G). w.owner) IsTimely (WorkerReady told killed) (WorkerFollows answers readings last told faults) (notes_of history) seen) z ws) seats (subst (λ (n : List Note). Each (StandsBehind (λ (w : Worker K H G). w.owner) IsTimely (WorkerReady told killed) (WorkerFollows answers readings last told faults) n seen) ms ws) began each)

      pub workers_count : length zs ≡ length xs
      workers_count =
          ap length out ∙ count_left worker_at (λ (w : Worker K H G). w.node) node_number (λ (w : Worker K H G). w.owner) kubelet_owner IsTimely (IsReadyNode told killed) (NodeFollows answers readings last told faults) (λ m. refl) (λ m. refl) kubelets_differ history xs are after seen ended ws workers_each

      pub workers_back : AllReady node_number (IsReadyNode told killed) after zs
      workers_back =
          subst (AllReady node_number (IsReadyNode told killed) after) (sym out)
          (back_ready worker_at (λ (w : Worker K H G). w.node) node_number (λ (w : Worker K H G). w.owner) kubelet_owner IsTimely (IsReadyNode told killed) (NodeFollows answers readings last told faults) (λ m. refl) (λ m. refl) kubelets_differ history xs are after seen ended ws workers_each)

      pub workers_follow : AllFollow (NodeFollows answers readings last told faults) xs zs history after
      workers_follow =
          subst (λ (l : List (Node K H G)). AllFollow (NodeFollows answers readings last told faults) xs l history after) (sym out)
          (back_follow worker_at (λ (w : Worker K H G). w.node) node_number (λ (w : Worker K H G). w.owner) kubelet_owner IsTimely (IsReadyNode told killed) (NodeFollows answers readings last told faults) (λ m. refl) (λ m. refl) kubelets_differ history xs are after seen ended ws workers_each)

-- both

pub seats_apart : {K H G : Type 0} (n m : ℕ) (ms : List (Member (Leader K G))) (ns : List (Member (Worker K H G))) → Distinct (numbers (λ (l : Leader K G). l.owner) ms) → Distinct (numbers (λ (w : Worker K H G). w.owner) ns)
    → ((x : ℕ) → IsAmong (numbers (λ (l : Leader K G). l.owner) ms) x → (i : ℕ) × (i < n) × (x ≡ controller_owner i)) → ((x : ℕ) → IsAmong (numbers (λ (w : Worker K H G). w.owner) ns) x → (i : ℕ) × (i < m) × (x ≡ kubelet_owner i))
    → Distinct (numbers (λ (l : Leader K G). l.owner) ms ++ numbers (λ (w : Worker K H G). w.owner) ns)
seats_apart {K} {H} {G} n m ms ns d e in_ms in_ns =
    distinct_append (numbers (λ (l : Leader K G). l.owner) ms) (numbers (λ (w : Worker K H G). w.owner) ns) d e
    (λ x one other.
    let i = in_ms x one in
    let j = in_ns x other in
    kinds_differ i.0 j.0 (sym i.2 ∙ j.2))

pub seats_grow : {K H G : Type 0} (n m : ℕ) (ms : List (Member (Leader K G))) (ns : List (Member (Worker K H G))) (history after : List Entry) (before seen : List Note) → before ≡ notes_of history → seen ≡ notes_of after
    → ((x : ℕ) → IsAmong (numbers (λ (l : Leader K G). l.owner) ms) x → (i : ℕ) × (i < n) × (x ≡ controller_owner i)) → ((x : ℕ) → IsAmong (numbers (λ (w : Worker K H G). w.owner) ns) x → (i : ℕ) × (i < m) × (x ≡ kubelet_owner i))
    → Grows IsTimely IsTimely (numbers (λ (l : Leader K G). l.owner) ms) (numbers (λ (w : Worker K H G). w.owner) ns) before seen → GrowsBy (λ e. OfOne of_controller n e ⊎ OfOne of_kubelet m e) history after
seats_grow {K} {H} {G} n m ms ns history after before seen began ended in_ms in_ns g =
    let ls = numbers (λ (l : Leader K G). l.owner) ms in
    let rs = numbers (λ (w : Worker K H G). w.owner) ns in
    grows_entries n m ls rs history after in_ms in_ns (subst (λ (z : List Note). Grows IsTimely IsTimely ls rs (notes_of history) z) ended (subst (λ (z : List Note). Grows IsTimely IsTimely ls rs z seen) began g))

pub room_for : {M W : Type 0} (f : M → W) (xs : List M) (ms ws : List W) (n : ℕ) → ms ≡ map f xs → length ws ≡ length ms → length xs ≤ n → length ws ≤ n
room_for f xs ms ws n seats same room = let k : length ms ≡ length xs = ap length seats ∙ length-map xs f in omega (arith, same, k, room)

-- What rounds of a bench that began come to.
use Rattle.std.proofs.Common.{◌≡◌, ◌≢◌, ◌≤◌, ◌<◌, ℕ, List, [], ◌∷◌, ◌++◌, length, Option, Some, true, false, sym, ◌∙◌, ap, subst, arith, inl, inr, nat_eq, get_or}
use Rattle.std.specs.Prelude.{All, Bool, slice_get}
use Rattle.std.proofs.lemmas.Bool.{cases_Bool}
use Rattle.std.proofs.lemmas.List.Elements.{All-nil, All-cons, All-head, All-tail, All-append}
use Rattle.std.proofs.lemmas.Option.{same_Some, slice_get-get_or}
use Rattle.tk_edge.specs.declared.event.Event.{Event}
use Rattle.tk_edge.specs.declared.event.Event.TheVariants as events
use Rattle.tk_edge.specs.declared.gate.GateTurn.{GateTurn}
use Rattle.tk_edge.specs.declared.order.Order.{Order}
use Rattle.tk_edge.specs.History.{order_of}
use Rattle.tk_edge.specs.InOrder.{AreStartsDue, Claimed, IsInOrder, Pods}
use Rattle.tk_edge.specs.Readings.{last_moment}
use Rattle.tk_journal.specs.declared.admitted.Admitted.{Admitted}
use Rattle.tk_journal.specs.declared.entry.Entry.{Entry}
use Rattle.tk_journal.specs.declared.object.Claim.{Claim}
use Rattle.tk_journal.specs.declared.object.PodState.{PodState}
use Rattle.tk_journal.specs.History.{pod_of, view_at}
use Rattle.tk_journal.specs.Laws.{LegalIsRight}
use Rattle.tk_journal.specs.Legal.{IsLegal, is_admit}
use Rattle.tk_journal.proofs.Attempts.{get_below}
use Rattle.tk_held.specs.Conditions.{claimed_pod, pods_of}
use Rattle.tk_held.specs.Laws.{AreAdmits}
use Rattle.tk_manifest.specs.declared.kinds.KindSet.TheVariants.{Four}
use Rattle.tk_manifest.specs.Input.{objects_of}
use Rattle.tk_admit.specs.Taken.{taken}
use Rattle.tk_simulate.specs.Runs.{AdmitsNoMore, AreOnClock}
use Rattle.tk_simulate.proofs.Given.{admits_onto, timely_onto}
use Rattle.tk_rounds.specs.declared.bench.Bench.{Bench}
use Rattle.tk_rounds.specs.declared.bench.Controller.{Controller}
use Rattle.tk_rounds.specs.declared.bench.Node.{Node}
use Rattle.tk_rounds.specs.Bench.{ControllerFollows, IsReadyController, IsReadyNode, NodeFollows}
use Rattle.tk_rounds.specs.Chosen.{AreChosen}
use Rattle.tk_rounds.specs.Follows.{FollowsSince, told_by}
use Rattle.tk_rounds.specs.Growth.{GrowsBy}
use Rattle.tk_rounds.specs.Outcomes.{AreForClaimed, HasOutcomes}
use Rattle.tk_rounds.specs.Members.{AreOfLife, of_controller, of_kubelet}
use Rattle.tk_run.specs.declared.asks.AskWord.{AskWord}
use Rattle.tk_run.specs.Asks.{AreOfWords, UserFollows, clock_told}
use Rattle.tk_run.specs.Begun.{AreBegun, IsNewBench, controller_begun, node_begun}
use Rattle.tk_run.specs.Going.{GoesOn, IsReady, OfMembers}
use Rattle.tk_run.specs.Run.{AreAllOfLife, AreNodesSettled, IsRun, StartsApart, entries_of, given_by}
use Rattle.tk_run.proofs.Lives.{claim_number, claimed_for}
use Rattle.tk_run.proofs.Members.{admits_none, not_admission}
use Rattle.tk_run.proofs.Starting.{all_of_admission, controller_ready, controller_starts, node_ready, node_starts}

-- members admit nothing

abbrev AdmitsNothing : Entry → Type 0
AdmitsNothing e = is_admit e.act ≡ false

abbrev IsOnClock : Entry → Type 0
IsOnClock e = e.moment ≤ last_moment

module _ (controllers nodes : ℕ) where
  none_admits : (new history : List Entry) → IsLegal (new ++ history) → All (OfMembers controllers nodes) new → All AdmitsNothing new
  none_admits [] history legal such = All-nil AdmitsNothing
  none_admits (e ∷ older) history legal such =
      All-cons AdmitsNothing e older
      (admits_none (view_at e.fronts (older ++ history)) e.actor e.moment e.act (not_admission controllers nodes e (All-head (OfMembers controllers nodes) e older such)) legal.1.justified)
      (none_admits older history legal.0 (All-tail (OfMembers controllers nodes) e older such))

  on_clock : (e : Entry) → OfMembers controllers nodes e → IsOnClock e
  on_clock e (inl own) = own.2.1
  on_clock e (inr (inl own)) = own.2.1
  on_clock e (inr (inr user)) = user.1

  all_on_clock : (new : List Entry) → All (OfMembers controllers nodes) new → All IsOnClock new
  all_on_clock [] such = All-nil IsOnClock
  all_on_clock (e ∷ older) such = All-cons IsOnClock e older (on_clock e (All-head (OfMembers controllers nodes) e older such)) (all_on_clock older (All-tail (OfMembers controllers nodes) e older such))

  pub admits_no_more : (before after : List Entry) → IsLegal after → GrowsBy (OfMembers controllers nodes) before after → AdmitsNoMore before after
  admits_no_more before after legal grows = (grows.new, grows.grown, none_admits grows.new before (subst IsLegal grows.grown legal) grows.such)

  pub timely : (before after : List Entry) → GrowsBy (OfMembers controllers nodes) before after → AreOnClock before → AreOnClock after
  timely before after grows was = subst AreOnClock (sym grows.grown) (All-append IsOnClock grows.new before (all_on_clock grows.new grows.such) was)

-- what is admitted of an input

pub given_admits : (root : List ℕ) (words : List AskWord) (bytes : List ℕ) → AreAdmits (entries_of (given_by root words bytes))
given_admits root words bytes = admits_onto root (taken (objects_of Four bytes)) [] (All-nil (λ (e : Entry). is_admit e.act ≡ true))

pub given_timely : (root : List ℕ) (words : List AskWord) (bytes : List ℕ) → AreOnClock (entries_of (given_by root words bytes))
given_timely root words bytes = timely_onto root (taken (objects_of Four bytes)) [] (All-nil IsOnClock)

-- no two hosts start steps of one pod

-- the pod of a started order is claimed
started_claimed : (pods : Pods) (told : List Event) → AreStartsDue pods told → (child : ℕ) (order : Order) → order_of child told ≡ Some order → (claimed : Claimed) × (pods order.pod ≡ Some claimed)
started_claimed pods [] due child order is = cc
started_claimed pods (events.Started other now ∷ older) due child order is = elim (cases_Bool (nat_eq child other)) [
  | inl hit ↦ (
      let same : now ≡ order = same_Some now order (rw hit at is) in
      subst (λ (o : Order). (claimed : Claimed) × (pods o.pod ≡ Some claimed)) same (due.0.claimed, due.0.is_claimed))
  | inr miss ↦ started_claimed pods older due.2 child order (rw miss at is)
]
started_claimed pods (events.Armed other arming ∷ older) due child order is = started_claimed pods older due child order is
started_claimed pods (events.Refused other ∷ older) due child order is = started_claimed pods older due child order is
started_claimed pods (events.Exited other exit ∷ older) due child order is = started_claimed pods older due child order is
started_claimed pods (events.Put path bytes answered ∷ older) due child order is = started_claimed pods older due child order is
started_claimed pods (events.Cleared folder answered ∷ older) due child order is = started_claimed pods older due child order is
started_claimed pods (events.Fetched path bytes ∷ older) due child order is = started_claimed pods older due child order is

one_number : (i j : ℕ) (pod : Option PodState) (a b : Claimed) → claimed_pod i pod ≡ Some a → claimed_pod j pod ≡ Some b → i ≡ j
one_number i j pod a b at_i at_j =
    let one = claimed_for i pod a at_i in
    let two = claimed_for j pod b at_j in
    let same : one.0 ≡ two.0 = same_Some one.0 two.0 (sym one.1 ∙ two.1) in
    let first = claim_number i one.0.claim one.2 in
    let second = claim_number j two.0.claim two.2 in
    let claims : first.0 ≡ second.0 = same_Some first.0 second.0 (sym first.1 ∙ (ap (λ (p : PodState). p.claim) same ∙ second.1)) in
    sym first.2 ∙ (ap (λ (c : Claim). c.number) claims ∙ second.2)

pub apart : (history : List Entry) (i j : ℕ) (one other : List Event) → i ≢ j → AreStartsDue (pods_of i history) one → AreStartsDue (pods_of j history) other → StartsApart one other
apart history i j one other differ due_one due_other c d x y at_c at_d same =
    let first = started_claimed (pods_of i history) one due_one c x at_c in
    let second = started_claimed (pods_of j history) other due_other d y at_d in
    differ (one_number i j (pod_of history x.pod) first.0 second.0 first.1 (subst (λ (name : List ℕ). pods_of j history name ≡ Some second.0) (sym same) second.1))

-- a bench that began, and what it comes to

module _ {K H G : Type 0} (answers : G → Option (List GateTurn)) (readings : K → Option (List ℕ)) (last : K → ℕ) (told : H → List Event) (killed : H → ℕ → Bool) (faults : H → ℕ) (root : List ℕ) (old begun : Bench K H G)
    (new_bench : IsNewBench told old)
    (counts : (length begun.controllers.items ≡ length old.controllers.items) × (length begun.kubelets.items ≡ length old.kubelets.items))
    (controllers : AreBegun controller_begun (length old.controllers.items) old.controllers.items begun.controllers.items)
    (nodes : AreBegun (node_begun root) (length old.kubelets.items) old.kubelets.items begun.kubelets.items)
    (first : List Entry) (legal_first : IsLegal first) (admits : AreAdmits first) where
  -- the member that began at a place
  record WasController (i : ℕ) (c : Controller K G) : Type 0 where
    was : Controller K G
    at : slice_get old.controllers.items i ≡ Some was
    is : c ≡ controller_begun i was

  record WasNode (i : ℕ) (n : Node K H G) : Type 0 where
    was : Node K H G
    at : slice_get old.kubelets.items i ≡ Some was
    is : n ≡ node_begun root i was

  was_controller : (i : ℕ) (c : Controller K G) → slice_get begun.controllers.items i ≡ Some c → WasController i c
  was_controller i c at =
      let inside = get_below begun.controllers.items i c at in
      let same = counts.0 in
      let below : i < length old.controllers.items = omega (arith, inside, same) in
      let there = slice_get-get_or old.controllers.items i c below in
      record { was = get_or old.controllers.items i c; at = there; is = controllers i (get_or old.controllers.items i c) c below there at }

  was_node : (i : ℕ) (n : Node K H G) → slice_get begun.kubelets.items i ≡ Some n → WasNode i n
  was_node i n at =
      let inside = get_below begun.kubelets.items i n at in
      let same = counts.1 in
      let below : i < length old.kubelets.items = omega (arith, inside, same) in
      let there = slice_get-get_or old.kubelets.items i n below in
      record { was = get_or old.kubelets.items i n; at = there; is = nodes i (get_or old.kubelets.items i n) n below there at }

  pub is_ready : IsReady told killed first begun
  is_ready = record {
    few =
        let some = new_bench.some_controllers.1 in
        let more = new_bench.some_nodes.1 in
        let one = counts.0 in
        let two = counts.1 in
        (omega (arith, some, one), omega (arith, more, two));
    controllers = λ i c at.
        let was = was_controller i c at in
        (ap (λ (m : Controller K G). m.number) was.is, subst (IsReadyController first) (sym was.is) (controller_ready answers readings last i was.was first (new_bench.controllers i was.was was.at)));
    nodes = λ i n at.
        let was = was_node i n at in
        (ap (λ (m : Node K H G). m.kubelet.number) was.is, subst (IsReadyNode told killed first) (sym was.is) (node_ready answers readings last told killed root i was.was first (new_bench.nodes i was.was was.at) admits));
  }

  module _ (now : Bench K H G) (history : List Entry) (legal : IsLegal history) (ready : IsReady told killed history now) (goes : GoesOn answers readings last told faults begun now first history) where
    -- what a member that stands at a place was
    record CameController (i : ℕ) (c : Controller K G) : Type 0 where
      was : Controller K G
      at : slice_get old.controllers.items i ≡ Some was
      follows : FollowsSince (of_controller i) (told_by answers readings last was.gate was.clock) (told_by answers readings last c.gate c.clock) c.cache.fronts history
      chosen : AreChosen i history

    came_controller : (i : ℕ) (c : Controller K G) → slice_get now.controllers.items i ≡ Some c → CameController i c
    came_controller i c at =
        let inside = get_below now.controllers.items i c at in
        let same = goes.counts.0 in
        let below : i < length begun.controllers.items = omega (arith, inside, same) in
        let there = slice_get-get_or begun.controllers.items i c below in
        let m = get_or begun.controllers.items i c in
        let was = was_controller i m there in
        let start = controller_starts answers readings last i was.was first (new_bench.controllers i was.was was.at) (all_of_admission first legal_first admits) in
        let came = goes.controllers i (controller_begun i was.was) m c there at (subst (λ (x : Controller K G). ControllerFollows answers readings last (controller_begun i was.was) x first) (sym was.is) start) in
        record {
          was = was.was;
          at = was.at;
          follows = subst (λ (n : ℕ). FollowsSince (of_controller n) (told_by answers readings last was.was.gate was.was.clock) (told_by answers readings last c.gate c.clock) c.cache.fronts history) (ready.controllers i c at).0 came.since;
          chosen = subst (λ (n : ℕ). AreChosen n history) (ready.controllers i c at).0 came.chosen;
        }

    record CameNode (i : ℕ) (n : Node K H G) : Type 0 where
      was : Node K H G
      at : slice_get old.kubelets.items i ≡ Some was
      follows : NodeFollows answers readings last told faults (node_begun root i was) n history

    came_node : (i : ℕ) (n : Node K H G) → slice_get now.kubelets.items i ≡ Some n → CameNode i n
    came_node i n at =
        let inside = get_below now.kubelets.items i n at in
        let same = goes.counts.1 in
        let below : i < length begun.kubelets.items = omega (arith, inside, same) in
        let there = slice_get-get_or begun.kubelets.items i n below in
        let m = get_or begun.kubelets.items i n in
        let was = was_node i m there in
        let start = node_starts answers readings last told killed faults root i was.was first (new_bench.nodes i was.was was.at) admits (all_of_admission first legal_first admits) in
        record {
          was = was.was;
          at = was.at;
          follows = goes.nodes i (node_begun root i was.was) m n there at (subst (λ (x : Node K H G). NodeFollows answers readings last told faults (node_begun root i was.was) x first) (sym was.is) start);
        }

    pub all_of_life : AreAllOfLife history now.kubelets.items
    all_of_life i n at = (came_node i n at).follows.life

    own_starts : (i : ℕ) (n : Node K H G) → slice_get now.kubelets.items i ≡ Some n → IsInOrder (killed n.host) (pods_of i history) (told n.host)
    own_starts i n at =
        let is = ready.nodes i n at in
        subst (λ (number : ℕ). IsInOrder (killed n.host) (pods_of number history) (told n.host)) is.0 is.1.met.kept.in_order

    pub is_run : LegalIsRight → (words : List AskWord) (given : Admitted) → entries_of given ≡ first → AreOnClock first → AreOfWords (last old.user) words history → UserFollows (clock_told readings last old.user) (clock_told readings last now.user) history → AreNodesSettled told killed now → IsRun answers readings last told killed faults root words given old now history
    is_run right words given same clock asks user settled = record {
      legal = legal;
      right = right history legal;
      admits = subst (λ (h : List Entry). AdmitsNoMore h history) (sym same) (admits_no_more (length begun.controllers.items) (length begun.kubelets.items) first history legal goes.grows);
      counts = (goes.counts.0 ∙ counts.0, goes.counts.1 ∙ counts.1);
      members = subst (λ (h : List Entry). GrowsBy (OfMembers (length old.controllers.items) (length old.kubelets.items)) h history) (sym same)
          (subst (λ (n : ℕ). GrowsBy (OfMembers n (length old.kubelets.items)) first history) counts.0 (subst (λ (n : ℕ). GrowsBy (OfMembers (length begun.controllers.items) n) first history) counts.1 goes.grows));
      lives = λ i n at.
          let came = came_node i n at in
          subst (λ (number : ℕ). AreOfLife number 1 history) (ready.nodes i n at).0 (subst (λ (life : ℕ). AreOfLife n.kubelet.number life history) came.follows.same.life came.follows.life);
      controllers = λ i a b at_a at_b.
          let came = came_controller i b at_b in
          subst (λ (x : Controller K G). FollowsSince (of_controller i) (told_by answers readings last x.gate x.clock) (told_by answers readings last b.gate b.clock) b.cache.fronts history) (same_Some came.was a (sym came.at ∙ at_a)) came.follows;
      chosen = λ i c at. (came_controller i c at).chosen;
      nodes = λ i a b at_a at_b.
          let came = came_node i b at_b in
          let follows = subst (λ (number : ℕ). FollowsSince (of_kubelet number) (told_by answers readings last came.was.gate came.was.clock) (told_by answers readings last b.gate b.clock) b.cache.fronts history) (ready.nodes i b at_b).0 came.follows.since in
          subst (λ (x : Node K H G). FollowsSince (of_kubelet i) (told_by answers readings last x.gate x.clock) (told_by answers readings last b.gate b.clock) b.cache.fronts history) (same_Some came.was a (sym came.at ∙ at_a)) follows;
      starts = own_starts;
      once = λ i j m n differ at_m at_n. apart history i j (told m.host) (told n.host) differ (own_starts i m at_m).due (own_starts j n at_n).due;
      outcomes = λ i a b at_a at_b.
          let came = came_node i b at_b in
          let follows = subst (λ (r : List ℕ). HasOutcomes b.kubelet.number b.kubelet.life r b.kubelet.held (faults came.was.host) (faults b.host) (told b.host) history) came.follows.same.root came.follows.outcomes in
          let lived = subst (λ (l : ℕ). HasOutcomes b.kubelet.number l root b.kubelet.held (faults came.was.host) (faults b.host) (told b.host) history) came.follows.same.life follows in
          let placed = subst (λ (n : ℕ). HasOutcomes n 1 root b.kubelet.held (faults came.was.host) (faults b.host) (told b.host) history) (ready.nodes i b at_b).0 lived in
          subst (λ (x : Node K H G). HasOutcomes i 1 root b.kubelet.held (faults x.host) (faults b.host) (told b.host) history) (same_Some came.was a (sym came.at ∙ at_a)) placed;
      deeds = λ i n at.
          let came = came_node i n at in
          let follows = subst (λ (r : List ℕ). AreForClaimed n.kubelet.number r history (told n.host)) came.follows.same.root came.follows.deeds in
          subst (λ (m : ℕ). AreForClaimed m root history (told n.host)) (ready.nodes i n at).0 follows;
      asks = asks;
      user = user;
      settled = settled;
      timely = timely (length begun.controllers.items) (length begun.kubelets.items) first history goes.grows clock;
    }

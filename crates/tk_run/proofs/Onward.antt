-- Rounds one behind the other, and members that begin in order.
use Rattle.std.proofs.Common.{◌≡◌, ◌≢◌, ◌<◌, ◌≤◌, ◌+◌, ℕ, suc, List, length, refl, sym, ◌∙◌, ap, subst, arith, get_or, nat_eq, zero, [], ◌∷◌, Some, inl, inr}
use Rattle.std.specs.Prelude.{Bool, Option, slice_get, slice_set}
use Rattle.std.proofs.lemmas.Bool.{cases_Bool, eqb-false, eqb-true}
use Rattle.std.proofs.lemmas.Option.{same_Some, slice_get-get_or}
use Rattle.tk_edge.specs.declared.event.Event.{Event}
use Rattle.tk_edge.specs.declared.gate.GateTurn.{GateTurn}
use Rattle.tk_journal.specs.declared.entry.Entry.{Entry}
use Rattle.tk_journal.specs.Legal.{IsLegal}
use Rattle.tk_journal.proofs.Attempts.{get_below}
use Rattle.tk_rounds.specs.declared.bench.Bench.{Bench}
use Rattle.tk_rounds.specs.declared.bench.Controller.{Controller}
use Rattle.tk_rounds.specs.Bench.{AllFollow, AllReady, ControllerFollows, IsReadyController, IsReadyNode, NodeFollows, controller_number, node_number}
use Rattle.tk_rounds.specs.Growth.{GrowsBy}
use Rattle.tk_rounds.proofs.Growing.{grows_none, grows_on}
use Rattle.tk_rounds.proofs.Parts.{set_cases}
use Rattle.tk_run.specs.Asks.{UserFollows, clock_told}
use Rattle.tk_run.specs.Begun.{AreBegun}
use Rattle.tk_run.specs.Going.{GoesOn, IsReady, OfMembers}
use Rattle.tk_run.proofs.Members.{OfTurns, members_grow, user_turns}

module _ {M : Type 0} (follows : M → M → List Entry → Type 0) where
  follow_none : (members : List M) (history : List Entry) → AllFollow follows members members history history
  follow_none members history i start a b at_a at_b is = subst (λ (m : M). follows start m history) (same_Some a b (sym at_a ∙ at_b)) is

get_set_other : {X : Type 0} (xs : List X) (i j : ℕ) (y : X) → (j ≢ i) → slice_get (slice_set xs i y) j ≡ slice_get xs j
get_set_other [] i j y differ = refl
get_set_other (x ∷ xs) zero zero y differ = absurd (differ refl)
get_set_other (x ∷ xs) zero (suc j) y differ = refl
get_set_other (x ∷ xs) (suc i) zero y differ = refl
get_set_other (x ∷ xs) (suc i) (suc j) y differ = get_set_other xs i j y (λ same. differ (ap suc same))

-- nothing happened yet, and rounds behind rounds

module _ {K H G : Type 0} (answers : G → Option (List GateTurn)) (readings : K → Option (List ℕ)) (last : K → ℕ) (told : H → List Event) (faults : H → ℕ) where
  pub goes_none : (bench : Bench K H G) (history : List Entry) → GoesOn answers readings last told faults bench bench history history
  goes_none bench history = record {
    counts = (refl, refl);
    grows = grows_none (OfMembers (length bench.controllers.items) (length bench.kubelets.items)) history;
    controllers = λ i start a b at_a at_b is. follow_none (ControllerFollows answers readings last) bench.controllers.items history i start a b at_a at_b is;
    nodes = λ i start a b at_a at_b is. follow_none (NodeFollows answers readings last told faults) bench.kubelets.items history i start a b at_a at_b is;
    user = λ since is. is;
  }

  -- what rounds left, and one more
  pub goes_on : (old between new : Bench K H G) (first history after : List Entry) → GoesOn answers readings last told faults old between first history → GoesOn answers readings last told faults between new history after → GoesOn answers readings last told faults old new first after
  goes_on old between new first history after one two = record {
    counts = (two.counts.0 ∙ one.counts.0, two.counts.1 ∙ one.counts.1);
    grows = grows_on (OfMembers (length old.controllers.items) (length old.kubelets.items)) first history after one.grows
        (subst (λ (n : ℕ). GrowsBy (OfMembers n (length old.kubelets.items)) history after) one.counts.0 (subst (λ (n : ℕ). GrowsBy (OfMembers (length between.controllers.items) n) history after) one.counts.1 two.grows));
    controllers = λ i start a b at_a at_b is.
        let below : i < length between.controllers.items = (let inside = get_below new.controllers.items i b at_b in let same = two.counts.0 in omega (arith, inside, same)) in
        let there = slice_get-get_or between.controllers.items i b below in
        two.controllers i start (get_or between.controllers.items i b) b there at_b (one.controllers i start a (get_or between.controllers.items i b) at_a there is);
    nodes = λ i start a b at_a at_b is.
        let below : i < length between.kubelets.items = (let inside = get_below new.kubelets.items i b at_b in let same = two.counts.1 in omega (arith, inside, same)) in
        let there = slice_get-get_or between.kubelets.items i b below in
        two.nodes i start (get_or between.kubelets.items i b) b there at_b (one.nodes i start a (get_or between.kubelets.items i b) at_a there is);
    user = λ since is. two.user since (one.user since is);
  }

  -- a round
  pub round_goes : (old new : Bench K H G) (history after : List Entry) → IsLegal after
      → (length new.controllers.items ≡ length old.controllers.items) × (length new.kubelets.items ≡ length old.kubelets.items) → GrowsBy (OfTurns (length old.controllers.items) (length old.kubelets.items)) history after
      → AllFollow (ControllerFollows answers readings last) old.controllers.items new.controllers.items history after → AllFollow (NodeFollows answers readings last told faults) old.kubelets.items new.kubelets.items history after
      → new.user ≡ old.user → GoesOn answers readings last told faults old new history after
  round_goes old new history after legal counts grows controllers nodes user = record {
    counts = counts;
    grows = members_grow (length old.controllers.items) (length old.kubelets.items) history after grows;
    controllers = controllers;
    nodes = nodes;
    user = λ since is.
        subst (λ (k : K). UserFollows since (clock_told readings last k) after) (sym user)
        (user_turns since (clock_told readings last old.user) (length old.controllers.items) (length old.kubelets.items) history after legal grows is);
  }

  -- the user's clock rested
  pub rested_goes : (old new : Bench K H G) (user : K) (history after : List Entry) → readings user ≡ readings new.user → last user ≡ last new.user → GoesOn answers readings last told faults old new history after → GoesOn answers readings last told faults old (record new { user = user }) history after
  rested_goes old new user history after same_readings same_last goes = record {
    counts = goes.counts;
    grows = goes.grows;
    controllers = goes.controllers;
    nodes = goes.nodes;
    user = λ since is. rw (same_readings, same_last) (goes.user since is);
  }

  -- only nodes changed
  pub goes_killed : (start old new : Bench K H G) (first history : List Entry) → new.controllers.items ≡ old.controllers.items → new.user ≡ old.user → length new.kubelets.items ≡ length old.kubelets.items → AllFollow (NodeFollows answers readings last told faults) old.kubelets.items new.kubelets.items history history → GoesOn answers readings last told faults start old first history → GoesOn answers readings last told faults start new first history
  goes_killed start old new first history controllers user count follow was =
      goes_on start old new first history history was (record {
        counts = (ap length controllers, count);
        grows = grows_none (OfMembers (length old.controllers.items) (length old.kubelets.items)) history;
        controllers = λ i s a b at_a at_b is. follow_none (ControllerFollows answers readings last) old.controllers.items history i s a b at_a (subst (λ (cs : List (Controller K G)). slice_get cs i ≡ Some b) controllers at_b) is;
        nodes = follow;
        user = λ since is. subst (λ (k : K). UserFollows since (clock_told readings last k) history) (sym user) is;
      })

  pub ready_killed : (killed : H → ℕ → Bool) (old new : Bench K H G) (history : List Entry) → new.controllers.items ≡ old.controllers.items → length new.kubelets.items ≡ length old.kubelets.items → AllReady node_number (IsReadyNode told killed) history new.kubelets.items → IsReady told killed history old → IsReady told killed history new
  ready_killed killed old new history controllers count nodes was = record {
    few = (let few = was.few.0 in let same = ap length controllers in omega (arith, few, same), let few = was.few.1 in omega (arith, few, count));
    controllers = subst (AllReady controller_number IsReadyController history) (sym controllers) was.controllers;
    nodes = nodes;
  }

pub rested_ready : {K H G : Type 0} → (told : H → List Event) (killed : H → ℕ → Bool) (bench : Bench K H G) (user : K) (history : List Entry) → IsReady told killed history bench → IsReady told killed history (record bench { user = user })
rested_ready told killed bench user history ready = record { few = ready.few; controllers = ready.controllers; nodes = ready.nodes }

-- members that begin

module _ {M : Type 0} (begun : ℕ → M → M) where
  -- one more has begun
  pub begun_at : (old now : List M) (i : ℕ) (x y : M) → slice_get now i ≡ Some x → y ≡ begun i x → ((j : ℕ) → i ≤ j → slice_get now j ≡ slice_get old j) → AreBegun begun i old now → AreBegun begun (i + 1) old (slice_set now i y)
  begun_at old now i x y at is later were j a b below at_a at_b = elim (set_cases now i j y b at_b) [
    | inl hit ↦ (
        let same : a ≡ x = same_Some a x (sym at_a ∙ (ap (slice_get old) hit.0 ∙ (sym (later i (omega arith)) ∙ at))) in
        hit.1 ∙ (is ∙ (ap (begun i) (sym same) ∙ ap (λ (n : ℕ). begun n a) (sym hit.0))))
    | inr miss ↦ were j a b (let differ = miss.0 in below_other i j below differ) at_a miss.1
  ]
    where
      below_other : (i j : ℕ) → j < i + 1 → (j ≢ i) → j < i
      below_other i j below differ = elim (cases_Bool (nat_eq j i)) [
        | inl hit ↦ absurd (differ (eqb-true j i hit))
        | inr miss ↦ omega (arith, below, eqb-false j i miss)
      ]

  pub later_at : (old now : List M) (i : ℕ) (y : M) → ((j : ℕ) → i ≤ j → slice_get now j ≡ slice_get old j) → (j : ℕ) → i + 1 ≤ j → slice_get (slice_set now i y) j ≡ slice_get old j
  later_at old now i y later j le = get_set_other now i j y (λ same. omega (arith, same, le)) ∙ later j (omega (arith, le))

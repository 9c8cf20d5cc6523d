-- What stands of a kubelet's ended pods, behind what is done on its host for the pods that it holds.
use Rattle.std.proofs.Common.{◌≡◌, ◌≢◌, ◌≤◌, ◌+◌, ◌-◌, ℕ, zero, suc, List, [], ◌∷◌, ◌++◌, length, Option, Some, None, true, refl, sym, ◌∙◌, ap, subst, arith, append_assoc, Contains, inl, inr}
use Rattle.std.specs.Prelude.{Bool, slice_get}
use Rattle.std.proofs.lemmas.Bool.{eq-eqb}
use Rattle.std.proofs.lemmas.Option.{same_Some}
use Rattle.tk_types.specs.declared.run.Outcome.{Outcome}
use Rattle.tk_types.specs.declared.run.Outcome.TheVariants as outcomes
use Rattle.tk_edge.specs.declared.event.Event.{Event}
use Rattle.tk_edge.specs.History.{GoesOn}
use Rattle.tk_journal.specs.declared.entry.Entry.{Entry}
use Rattle.tk_journal.specs.declared.object.Claim.{Claim}
use Rattle.tk_journal.specs.declared.object.EndedPod.{EndedPod}
use Rattle.tk_journal.specs.declared.object.Plan.{Plan}
use Rattle.tk_journal.specs.declared.object.PodState.{PodState}
use Rattle.tk_journal.specs.History.{pod_of}
use Rattle.tk_journal.specs.PodRows.{claims_for}
use Rattle.tk_steps.specs.declared.held.HeldPod.{HeldPod}
use Rattle.tk_steps.specs.Held.{HoldsPod}
use Rattle.tk_steps.specs.May.{Adds, EachSince, May}
use Rattle.tk_steps.proofs.Holds.{holds_other}
use Rattle.tk_held.specs.Conditions.{AreMet, claim_of}
use Rattle.tk_held.specs.Pods.{MayAny, MovesAll, RoseBy, count_failed}
use Rattle.tk_rounds.specs.Outcomes.{AreForClaimed, EndsBy, HasOutcomes, IsEndedBy, MayClaimed}

-- more failed pods

contains_more : {X : Type 0} (x y : X) (xs : List X) → Contains xs y → Contains (x ∷ xs) y
contains_more x y xs (k, below, is) = (suc k, omega (arith, below), is)

pub contains_first : {X : Type 0} (x : X) (xs : List X) → Contains (x ∷ xs) x
contains_first x xs = (zero, omega arith, refl)

by_more : (root : List ℕ) (told : List Event) (name : List ℕ) (failed : List (List ℕ)) (pod : HeldPod) (outcome : Outcome) → EndsBy root told failed pod outcome → EndsBy root told (name ∷ failed) pod outcome
by_more root told name failed pod (outcomes.Failed None results) (inl is) = inl (contains_more name pod.name failed is.0, is.1)
by_more root told name failed pod (outcomes.Failed None results) (inr walked) = inr walked
by_more root told name failed pod (outcomes.Failed (Some exit) results) by = by
by_more root told name failed pod (outcomes.Succeeded results) by = by
by_more root told name failed pod outcomes.Cancelled by = by
by_more root told name failed pod outcomes.TimedOut by = by
by_more root told name failed pod outcomes.Lost by = by

pub ended_more : (root : List ℕ) (told : List Event) (one : List ℕ) (failed : List (List ℕ)) (name : List ℕ) (plan : Plan) (ended : EndedPod) → IsEndedBy root told failed name plan ended → IsEndedBy root told (one ∷ failed) name plan ended
ended_more root told one failed name plan ended is = record {
  pod = is.pod;
  named = is.named;
  planned = is.planned;
  then = is.then;
  since = is.since;
  held = is.held;
  stays = is.stays;
  exits = is.exits;
  by = by_more root is.then one failed is.pod ended.outcome is.by;
}

-- more is told, of other pods

abbrev pub IsNone : List HeldPod → List ℕ → Type 0
IsNone held name = (place : ℕ) (pod : HeldPod) → slice_get held place ≡ Some pod → pod.name ≢ name

module _ (root : List ℕ) (held : List HeldPod) where
  holds_since : (pod : HeldPod) → IsNone held pod.name → (since told : List Event) → EachSince (MayAny root held) since told → HoldsPod told pod → HoldsPod (since ++ told) pod
  holds_since pod none [] told each holds = holds
  holds_since pod none (e ∷ since) told each holds =
      holds_other root each.0.pod.name each.0.pod.plan pod (none each.0.place each.0.pod each.0.at) e (since ++ told) each.0.may (holds_since pod none since told each.1 holds)

  further : (then told now since : List Event) → now ≡ since ++ told → GoesOn then told → GoesOn then now
  further then told now since is goes = record { since = since ++ goes.since; is = is ∙ (ap (λ (h : List Event). since ++ h) goes.is ∙ sym (append_assoc since goes.since then)) }

  ended_told : (told now : List Event) (failed : List (List ℕ)) (name : List ℕ) (plan : Plan) (ended : EndedPod) → IsNone held name → Adds (MayAny root held) told now → IsEndedBy root told failed name plan ended → IsEndedBy root now failed name plan ended
  ended_told told now failed name plan ended none adds is = record {
    pod = is.pod;
    named = is.named;
    planned = is.planned;
    then = is.then;
    since = further is.then told now adds.since adds.is is.since;
    held = is.held;
    stays = subst (λ (h : List Event). HoldsPod h is.pod) (sym adds.is)
        (holds_since is.pod (λ place pod at same. none place pod at (same ∙ is.named)) adds.since told adds.each is.stays);
    exits = is.exits;
    by = is.by;
  }

rose_then : (a b c f g h : ℕ) → c ≤ a + b → RoseBy a f g → RoseBy b g h → RoseBy c f h
rose_then a b c f g h few first second = omega (arith, few, first, second)

pub rose_less : (a b f g : ℕ) → b ≤ a → RoseBy a f g → RoseBy b f g
rose_less a b f g less rose = omega (arith, less, rose)

pub rose_later : (a f g h : ℕ) → g ≤ h → RoseBy a f g → RoseBy a f h
rose_later a f g h later rose = omega (arith, later, rose)

-- what is held is claimed, and hasn't ended
module _ (number life : ℕ) (root : List ℕ) (held : List HeldPod) (history : List Entry) (killed : ℕ → Bool) (told : List Event) (met : AreMet number life root held history killed told) where
  pub ended_unheld : (name : List ℕ) (state : PodState) (ended : EndedPod) → pod_of history name ≡ Some state → state.ended ≡ Some ended → IsNone held name
  ended_unheld name state ended is over place pod at same =
      let mine = met.claimed.mine place pod at in
      let one : mine.it ≡ state = same_Some mine.it state (sym mine.is ∙ (ap (pod_of history) same ∙ is)) in
      let none : state.ended ≡ None = ap (λ (s : PodState). s.ended) (sym one) ∙ mine.has.unended in
      cc (none, over)

  -- the calls of a turn for the held pods
  pub outcomes_moved : (ready : List HeldPod) (now : List Event) (start f g : ℕ) → MovesAll root held ready told now → RoseBy (count_failed ready - count_failed held) f g → HasOutcomes number life root held start f told history → HasOutcomes number life root ready start g now history
  outcomes_moved ready now start f g moves rose was = record {
    failed = was.failed;
    few = rose_then (length was.failed + count_failed held) (count_failed ready - count_failed held) (length was.failed + count_failed ready) start f g (omega arith) was.few rose;
    each = λ name state ended is mine over.
        ended_told root held told now was.failed name state.plan ended (ended_unheld name state ended is over) moves.adds (was.each name state ended is mine over);
  }

  -- each thing done is for a claimed pod
  claimed_one : (e : Event) (older : List Event) → MayAny root held e older → MayClaimed number root history e older
  claimed_one e older any =
      let mine = met.claimed.mine any.place any.pod any.at in
      record {
        name = any.pod.name;
        state = mine.it;
        is = mine.is;
        claimed = own number life mine.it.claim mine.has.claimed;
        may = subst (λ (plan : Plan). May root any.pod.name plan e older) (sym mine.has.plan) any.may;
      }
    where
      own : (number life : ℕ) (claim : Option Claim) → claim ≡ Some (claim_of number life) → claims_for number claim ≡ true
      own number life claim is = ap (claims_for number) is ∙ eq-eqb number number refl

  claimed_since : (since : List Event) → EachSince (MayAny root held) since told → AreForClaimed number root history told → AreForClaimed number root history (since ++ told)
  claimed_since [] each was = was
  claimed_since (e ∷ since) each was = (claimed_one e (since ++ told) each.0, claimed_since since each.1 was)

  pub claimed_moved : (ready : List HeldPod) (now : List Event) → MovesAll root held ready told now → AreForClaimed number root history told → AreForClaimed number root history now
  claimed_moved ready now moves was = subst (AreForClaimed number root history) (sym moves.adds.is) (claimed_since moves.adds.since moves.adds.each was)

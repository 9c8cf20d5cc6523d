-- The outcome of a held pod that ends.
use Rattle.std.proofs.Common.{◌≡◌, ℕ, ◌≤◌, ◌+◌, ◌-◌, ◌^◌, List, [], Option, Some, None, Ok, Err, Bool, true, false, refl, sym, ◌∙◌, ap, subst, inl, inr, arith}
use Rattle.std.specs.Prelude.{◌⊎◌, ◌||◌, is_some, is_none, min, max, if◌then◌else◌, Result, IfOk, IfSome, OnErr}
use Rattle.std.proofs.lemmas.Option.{same_Some}
use Rattle.tk_types.specs.declared.run.Outcome.{Outcome}
use Rattle.tk_types.specs.declared.run.Outcome.TheVariants as outcomes
use Rattle.tk_edge.specs.declared.event.Event.{Event}
use Rattle.tk_edge.specs.Causes.{raised}
use Rattle.tk_edge.specs.Files.{Files}
use Rattle.tk_journal.specs.History.{View}
use Rattle.tk_steps.specs.declared.held.HeldPod.{HeldPod}
use Rattle.tk_steps.specs.Kills.{IsLiving, CountsKills, Rose, AreKilled as AreStepsKilled}
use Rattle.tk_steps.specs.Moves.{Moves, counted}
use Rattle.tk_steps.specs.Ready.{ReadyIsSo}
use Rattle.tk_held.specs.declared.judging.Settled.{Settled}
use Rattle.tk_held.specs.Pods.{RoseBy, one_if}
use Rattle.tk_held.specs.Settled.{settled_in}
use Rattle.tk_held.specs.Settling.{StayKilled}
use Rattle.tk_outcome.specs.Exits.{is_walked}
use Rattle.tk_outcome.specs.Fetches.{with_failed}
use Rattle.tk_outcome.specs.Walked.{EndsWalked}
use Rattle.tk_kubelet.specs.Choice.{ends_held}
use Rattle.tk_kubelet.specs.Ends.{EndsSo, EndsUnsettled, IsConcluded, settled_outcome, without_exit}
use Rattle.tk_kubelet.specs.Seat.{HostState, Hosts}
use Rattle.tk_kubelet.specs.Turn.{ConcludesOne}

-- nothing was done for the pod
pub same_pod : (pod : HeldPod) → IsConcluded pod pod
same_pod pod = record { is = refl; failed = λ failed. failed }

pub none_rose : (failed : Bool) (x : ℕ) → RoseBy (one_if failed - one_if failed) x x
none_rose failed x = let none : one_if failed - one_if failed ≡ 0 = omega arith in rw none (omega arith)

-- the count rose by one where a call failed
pub counted_rose : (failed was : Bool) (x y : ℕ) → was ≡ false → y ≡ counted failed x → RoseBy (one_if failed - one_if was) x y
counted_rose true was x y whole is = let none : one_if was ≡ 0 = ap one_if whole in rw none (omega (arith, is))
counted_rose false was x y whole is = let none : one_if was ≡ 0 = ap one_if whole in rw none (omega (arith, is))

-- a pod that is neither marked nor late, and for which no call failed, ends by its walk
pub ends_walked : (view : View) (moment : ℕ) (pod : HeldPod) → ends_held view moment pod ≡ true → settled_in view moment pod.name ≡ None → pod.failed ≡ false → is_walked pod ≡ true
ends_walked view moment pod over none whole = rw (none, whole) at over

module _ (view : View) (moment : ℕ) (root : List ℕ) (told : List Event) (files : Option Files) (pod now : HeldPod) (same : now ≡ with_failed now.failed pod) (none : settled_in view moment pod.name ≡ None) where
  none_now : settled_in view moment now.name ≡ None
  none_now = ap (settled_in view moment) (ap (λ (p : HeldPod). p.name) same) ∙ none

  pub by_walk : (outcome : Outcome) → now.failed ≡ false → EndsWalked root told files now outcome → EndsSo view moment root told files now outcome
  by_walk (outcomes.Succeeded results) whole walked = record { not_settled = none_now; ends = inr (whole, walked) }
  by_walk (outcomes.Failed exit results) whole walked = record { not_settled = none_now; ends = inr (whole, walked) }
  by_walk outcomes.Cancelled whole walked = absurd walked
  by_walk outcomes.TimedOut whole walked = absurd walked
  by_walk outcomes.Lost whole walked = absurd walked

  pub by_fault : (outcome : Outcome) → now.failed ≡ true → outcome ≡ without_exit → EndsSo view moment root told files now outcome
  by_fault outcome failed is = subst (EndsSo view moment root told files now) (sym is) record { not_settled = none_now; ends = inl (failed, refl) }

-- where no call had failed, one that fails is kept
pub concluded_of : (pod now : HeldPod) → now ≡ with_failed now.failed pod → pod.failed ≡ false → IsConcluded pod now
concluded_of pod now same whole = record { is = same; failed = λ failed. let bad : true ≡ false = sym failed ∙ whole in cc (bad) }

-- kills, and then what gives the outcome

later_kills : (any : Bool) (x y : ℕ) → CountsKills any x y → x ≤ y
later_kills true x y counts = counts.1
later_kills false x y counts = omega (arith, counts)

later_rose : (many x y z : ℕ) → x ≤ y → RoseBy many y z → RoseBy many x z
later_rose many x y z later rose = omega (arith, later, rose)

pub one_of : (root : List ℕ) (pod now : HeldPod) (before between after : HostState) → between.told ≡ before.told → between.watches ≡ before.watches → between.play ≡ before.play
    → AreStepsKilled between.killed pod.steps.items → StayKilled before.killed between.killed → ((child : ℕ) → between.killed child ≡ true → (before.killed child ≡ true) ⊎ IsLiving pod.steps.items child)
    → (any : Bool) → CountsKills any before.faults between.faults → IsConcluded pod now → Moves root pod now between.told after.told → (ReadyIsSo root pod between.told → ReadyIsSo root now after.told)
    → after.killed ≡ between.killed → after.watches ≡ between.watches → after.play ≡ between.play → RoseBy (one_if now.failed - one_if pod.failed) between.faults after.faults
    → ConcludesOne root pod now record { before = before; now = after }
one_of root pod now before between after told watches plays killed still only any counts same moves stays same_killed same_watches same_plays rose = record {
  same = same;
  moves = subst (λ (h : List Event). Moves root pod now h after.told) told moves;
  stays = λ is_ready. stays (subst (ReadyIsSo root pod) (sym told) is_ready);
  killed = λ place step at none. ap (λ (k : ℕ → Bool). k step.child) same_killed ∙ killed place step at none;
  still = λ child was. ap (λ (k : ℕ → Bool). k child) same_killed ∙ still child was;
  only = λ child dead. only child (sym (ap (λ (k : ℕ → Bool). k child) same_killed) ∙ dead);
  unwatched = same_watches ∙ watches;
  plays = same_plays ∙ plays;
  count = later_rose (one_if now.failed - one_if pod.failed) before.faults between.faults after.faults (later_kills any before.faults between.faults counts) rose;
}

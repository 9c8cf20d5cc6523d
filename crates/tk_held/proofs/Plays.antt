-- Watches of all held pods, one pod after the other.
use Rattle.std.proofs.Common.{◌≡◌, ℕ, ◌<◌, ◌+◌, Bool, true, false, List, [], ◌++◌, Option, Some, None, Ok, Err, refl, sym, ◌∙◌, ap, subst, inl, inr, arith, set, slice_get}
use Rattle.std.specs.Prelude.{Result, OnOk}
use Rattle.std.proofs.lemmas.Bool.{cases_lt}
use Rattle.std.proofs.lemmas.List.{append_assoc}
use Rattle.std.proofs.lemmas.Option.{same_Some}
use Rattle.tk_edge.specs.declared.event.Event.{Event}
use Rattle.tk_edge.specs.History.{GoesOn}
use Rattle.tk_edge.specs.Plays.{Play}
use Rattle.tk_journal.specs.History.{View}
use Rattle.tk_steps.specs.declared.held.HeldPod.{HeldPod}
use Rattle.tk_steps.specs.May.{Adds}
use Rattle.tk_steps.specs.Played.{WatchesFrom}
use Rattle.tk_steps.specs.Watched.{children_of}
use Rattle.tk_steps.proofs.Gets.{set_here}
use Rattle.tk_held.specs.Played.{IsWatchedThrough, IsPlayedAt, ArePlayed}
use Rattle.tk_held.specs.Pods.{SameBut}
use Rattle.tk_held.specs.Settled.{settled_in}
use Rattle.tk_held.specs.Settling.{is_left_out}
use Rattle.tk_held.proofs.Left.{or_left}

-- histories that go on

goes_none : (told : List Event) → GoesOn told told
goes_none told = record { since = []; is = refl }

goes_then : (a b c : List Event) → GoesOn a b → GoesOn b c → GoesOn a c
goes_then a b c first second = record {
  since = second.since ++ first.since;
  is = second.is ∙ (ap (λ (h : List Event). second.since ++ h) first.is ∙ sym (append_assoc second.since first.since a));
}

pub goes_adds : (P : Event → List Event → Type 0) (old new : List Event) → Adds P old new → GoesOn old new
goes_adds P old new adds = record { since = adds.since; is = adds.is }

-- a pod that was watched through

module _ (play : Option Play) (killed : ℕ → Bool) (pod : HeldPod) (start old new : List Event) where
  through_later : IsWatchedThrough play killed pod start old → GoesOn old new → IsWatchedThrough play killed pod start new
  through_later through on = record {
    before = through.before;
    after = through.after;
    from_old = through.from_old;
    watches = through.watches;
    to_new = goes_then through.after old new through.to_new on;
  }

  through_sooner : GoesOn start old → IsWatchedThrough play killed pod old new → IsWatchedThrough play killed pod start new
  through_sooner on through = record {
    before = through.before;
    after = through.after;
    from_old = goes_then start old through.before on through.from_old;
    watches = through.watches;
    to_new = through.to_new;
  }

-- the pod at one place

-- a pod that is left out is settled or failed
pub left_played : (view : View) (moment : ℕ) (pod : HeldPod) (play : Option Play) (killed : ℕ → Bool) (old new : List Event) → is_left_out view moment pod ≡ true → settled_in view moment pod.name ≡ None → pod.failed ≡ false → IsWatchedThrough play killed pod old new
left_played view moment pod play killed old new left none kept =
    let failed : pod.failed ≡ true = or_left pod.failed (settled_in view moment pod.name) left none in
    let bad : true ≡ false = sym failed ∙ kept in
    cc

module _ (view : View) (moment : ℕ) (held : List HeldPod) (place : ℕ) (a b : HeldPod) (at : slice_get held place ≡ Some a) (name : b.name ≡ a.name) (same : children_of b ≡ children_of a) (play : Option Play) (killed : ℕ → Bool) (old new : List Event) where
  pub played_here : {T E : Type 0} (result : Result T E) → OnOk result (b.failed ≡ false → WatchesFrom play killed a.name 0 (children_of a) old new) → OnOk result (IsPlayedAt view moment (set held place b) place play killed old new)
  played_here (Ok done) turns = λ pod found none kept.
      let is : b ≡ pod = same_Some b pod (sym (set_here held b a place at) ∙ found) in
      let chain : WatchesFrom play killed a.name 0 (children_of a) old new = turns (subst (λ (p : HeldPod). p.failed ≡ false) (sym is) kept) in
      let named : WatchesFrom play killed b.name 0 (children_of a) old new = subst (λ (n : List ℕ). WatchesFrom play killed n 0 (children_of a) old new) (sym name) chain in
      let own : WatchesFrom play killed b.name 0 (children_of b) old new = subst (λ (cs : List ℕ). WatchesFrom play killed b.name 0 cs old new) (sym same) named in
      let through : IsWatchedThrough play killed b old new = record { before = old; after = new; from_old = goes_none old; watches = own; to_new = goes_none new } in
      subst (λ (p : HeldPod). IsWatchedThrough play killed p old new) is through
  played_here (Err e) turns = tt

-- the pods before a place

abbrev pub ArePlayedBelow : View → ℕ → List HeldPod → ℕ → Option Play → (ℕ → Bool) → List Event → List Event → Type 0
ArePlayedBelow view moment held p play killed old new = (i : ℕ) → i < p → IsPlayedAt view moment held i play killed old new

module _ (play now_play : Option Play) (killed now_killed : ℕ → Bool) (same_play : now_play ≡ play) (same_killed : now_killed ≡ killed) where
  through_as : (pod : HeldPod) (old new : List Event) → IsWatchedThrough now_play now_killed pod old new → IsWatchedThrough play killed pod old new
  through_as pod old new through =
      let own : IsWatchedThrough play now_killed pod old new = subst (λ (p : Option Play). IsWatchedThrough p now_killed pod old new) same_play through in
      subst (λ (k : ℕ → Bool). IsWatchedThrough play k pod old new) same_killed own

  pub pods_played : (view : View) (moment : ℕ) (held now_held : List HeldPod) (p : ℕ) (start old new : List Event) → SameBut p held now_held → GoesOn start old → GoesOn old new → ArePlayedBelow view moment held p play killed start old
      → IsPlayedAt view moment now_held p now_play now_killed old new → ArePlayedBelow view moment now_held (p + 1) play killed start new
  pods_played view moment held now_held p start old new others sooner later each here i below pod at none kept = elim (cases_lt i p) [
    | inl less ↦ through_later play killed pod start old new (each i less pod (sym (others i (λ same. absurd (omega (arith, less, same)))) ∙ at) none kept) later
    | inr most ↦
        let is : i ≡ p = omega (arith, below, most) in
        through_sooner play killed pod start old new sooner (through_as pod old new (here pod (subst (λ (n : ℕ). slice_get now_held n ≡ Some pod) is at) none kept))
  ]

  -- nothing is watched before
  pub run_played : (view : View) (moment : ℕ) (held : List HeldPod) (start first old new : List Event) → first ≡ start → GoesOn first old → ArePlayed view moment held now_play now_killed old new → ArePlayed view moment held play killed start new
  run_played view moment held start first old new is on played place pod at none kept =
      through_sooner play killed pod start old new (subst (λ (h : List Event). GoesOn h old) is on) (through_as pod old new (played place pod at none kept))

-- The phases of a turn one after the other.
use Rattle.std.proofs.Common.{◌≡◌, ℕ, zero, suc, ◌≤◌, ◌-◌, List, [], ◌∷◌, ◌++◌, length, take, drop, Bool, true, false, refl, sym, ◌∙◌, ap, subst, inl, inr, arith}
use Rattle.std.proofs.lemmas.List.{append-nil}
use Rattle.tk_edge.specs.declared.event.Event.{Event}
use Rattle.tk_journal.specs.History.{View}
use Rattle.tk_steps.specs.declared.held.HeldPod.{HeldPod}
use Rattle.tk_steps.specs.Kills.{CountsKills}
use Rattle.tk_held.specs.Placed.{ArePlaced, StayReady}
use Rattle.tk_held.specs.Pods.{MovesAll, AreDone, StaysDone, Rises, RoseBy, count_failed}
use Rattle.tk_held.specs.Settled.{settled_in}
use Rattle.tk_held.specs.Watched.{AreWatched, WatchesOnly, WatchesMost}
use Rattle.tk_held.proofs.Every.{all_then}
use Rattle.tk_held.proofs.Stays.{stay_then, placed_all}

-- nothing is told by kills

module _ (root : List ℕ) (old new : List HeldPod) (start x y : List Event) (is : x ≡ start) where
  pub first_moves : MovesAll root old new x y → MovesAll root old new start y
  first_moves moves = subst (λ (h : List Event). MovesAll root old new h y) is moves

  pub first_ready : (ArePlaced root old → StayReady root old new x y) → ArePlaced root old → StayReady root old new start y
  first_ready stay placed = subst (λ (h : List Event). StayReady root old new h y) is (stay placed)

-- armed, and then watched

module _ (root : List ℕ) (old armed watched : List HeldPod) (start x y z : List Event) (is : x ≡ start) (first : MovesAll root old armed x y) (second : MovesAll root armed watched y z) where
  pub run_moves : MovesAll root old watched start z
  run_moves = all_then root old armed watched start y z (first_moves root old armed start x y is first) second

  pub run_ready : (ArePlaced root old → StayReady root old armed x y) → (ArePlaced root armed → StayReady root armed watched y z) → ArePlaced root old → StayReady root old watched start z
  run_ready stay more placed = stay_then root old armed watched start y z first.same_length (first_ready root old armed start x y is stay placed) (more (placed_all root old armed x y first placed))

  pub run_done : (view : View) (moment : ℕ) → AreDone view moment armed → StaysDone armed watched → AreDone view moment watched
  run_done view moment done stays place pod at none =
      let was = second.same place pod at in
      stays place was.was pod was.at at (done place was.was was.at (ap (settled_in view moment) (sym was.name) ∙ none))

-- nothing is watched before

module _ (view : View) (moment : ℕ) (held : List HeldPod) (start x now : ℕ → ℕ) (is : x ≡ start) where
  pub run_watched : AreWatched view moment held x now → AreWatched view moment held start now
  run_watched watched = subst (λ (f : ℕ → ℕ). AreWatched view moment held f now) is watched

  pub run_only : WatchesOnly view moment held x now → WatchesOnly view moment held start now
  run_only only = subst (λ (f : ℕ → ℕ). WatchesOnly view moment held f now) is only

  pub run_once : WatchesOnly view moment held x now → WatchesMost start now
  run_once only child = elim (run_only only child) [ inl same ↦ inl same | inr seen ↦ inr seen.2 ]

pub none_once : (start now : ℕ → ℕ) → now ≡ start → WatchesMost start now
none_once start now is child = inl (ap (λ (f : ℕ → ℕ). f child) is)

pub none_only : (view : View) (moment : ℕ) (held : List HeldPod) (start now : ℕ → ℕ) → now ≡ start → WatchesOnly view moment held start now
none_only view moment held start now is child = inl (ap (λ (f : ℕ → ℕ). f child) is)

-- the count of faults rose with the kills, and then with the pods that failed
pub run_few : (killing : Bool) (old new : List HeldPod) (f g h : ℕ) → CountsKills killing f g → Rises old new g h → RoseBy (count_failed new - count_failed old) f h
run_few true old new f g h kills rises = let later = kills.1 in let count = rises.count in omega (arith, later, count)
run_few false old new f g h kills rises = let count = rises.count in omega (arith, kills, count)

-- a vector behind a slice that was written whole

pub written : {X : Type 0} (n : ℕ) (old new : List X) → n ≡ length old → length new ≡ length old → take n (new ++ drop (length new) old) ≡ new
written n old new count same =
    let rest : drop (length new) old ≡ [] = drop_past (length new) old (omega (arith, same)) in
    let whole : n ≡ length new = count ∙ sym same in
    rw (rest, append-nil new, whole, take_whole new) refl
  where
    drop_past : {Y : Type 0} (k : ℕ) (xs : List Y) → length xs ≤ k → drop k xs ≡ []
    drop_past k [] le = drop_none k
      where
        drop_none : {Z : Type 0} (k : ℕ) → drop {A = Z} k [] ≡ []
        drop_none zero = refl
        drop_none (suc k) = refl
    drop_past zero (x ∷ xs) le = absurd (omega (arith, le))
    drop_past (suc k) (x ∷ xs) le = drop_past k xs (omega (arith, le))

    take_whole : {Y : Type 0} (xs : List Y) → take (length xs) xs ≡ xs
    take_whole [] = refl
    take_whole (x ∷ xs) = ap (λ ys. x ∷ ys) (take_whole xs)

-- what holds of a slice before and behind a call holds of the vector
pub carried : (P : List HeldPod → List HeldPod → Type 0) (slot old new whole : List HeldPod) → slot ≡ old → whole ≡ new → P slot new → P old whole
carried P slot old new whole before behind has = subst (P old) (sym behind) (subst (λ (held : List HeldPod). P held new) before has)

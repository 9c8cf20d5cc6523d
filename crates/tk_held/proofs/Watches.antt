-- Counts of watches over all held pods.
use Rattle.std.proofs.Common.{◌≡◌, ℕ, ◌<◌, ◌+◌, List, Some, None, true, false, Ok, Err, refl, sym, ◌∙◌, subst, inl, inr, arith, set, slice_get}
use Rattle.std.specs.Prelude.{◌⊎◌, Result, OnOk}
use Rattle.std.proofs.lemmas.Option.{same_Some}
use Rattle.tk_edge.specs.Causes.{raised}
use Rattle.tk_edge.specs.declared.event.Event.{Event}
use Rattle.tk_journal.specs.History.{View}
use Rattle.tk_steps.specs.declared.held.HeldPod.{HeldPod}
use Rattle.tk_steps.specs.Watched.{children_of, IsChild, IsWatchedPod, WatchesPod}
use Rattle.tk_steps.proofs.Gets.{set_here}
use Rattle.tk_steps.proofs.Once.{only_then, each_then, pods_apart, child_as}
use Rattle.tk_held.specs.Pods.{KeepsAll, AreApart, SameBut}
use Rattle.tk_held.specs.Settled.{settled_in}
use Rattle.tk_held.specs.Settling.{is_left_out}
use Rattle.tk_held.specs.Watched.{IsWatchable, IsWatchedAt, WatchesOnly, WatchesOnlyAt}
use Rattle.tk_held.proofs.Left.{or_left}

watchable_apart : (view : View) (moment : ℕ) (told : List Event) (held : List HeldPod) → KeepsAll told held → AreApart held → (i j child : ℕ) → IsWatchable view moment held i child → IsWatchable view moment held j child → i ≡ j
watchable_apart view moment told held keeps apart i j child a b =
    apart i j a.pod b.pod a.at b.at (pods_apart told a.pod b.pod (keeps i a.pod a.at).holds (keeps j b.pod b.at).holds child a.own b.own)

-- the children of the pods before a place
abbrev pub WatchesBelow : View → ℕ → List HeldPod → ℕ → (ℕ → ℕ) → (ℕ → ℕ) → Type 0
WatchesBelow view moment held p start now =
    (c : ℕ) → (now c ≡ start c) ⊎ ((i : ℕ) × (i < p) × IsWatchable view moment held i c × (now c ≡ raised (start c)))

abbrev pub AreWatchedBelow : View → ℕ → List HeldPod → ℕ → (ℕ → ℕ) → (ℕ → ℕ) → Type 0
AreWatchedBelow view moment held p start now = (i : ℕ) → i < p → IsWatchedAt view moment held i start now

module _ (view : View) (moment : ℕ) (told : List Event) (held now_held : List HeldPod) (keeps : KeepsAll told now_held) (apart : AreApart now_held) (start w now : ℕ → ℕ) (p : ℕ) (others : SameBut p held now_held) (only : WatchesBelow view moment held p start w) (one : WatchesOnlyAt view moment now_held p w now) where
  only_here : WatchesBelow view moment now_held p start w
  only_here c = elim (only c) [
    | inl stays ↦ inl stays
    | inr seen ↦
        let below = seen.1 in
        let own = seen.2 in
        inr (seen.0, below, record { pod = own.pod; at = others seen.0 (λ same. absurd (omega (arith, below, same))) ∙ own.at; not_settled = own.not_settled; own = own.own }, seen.3)
  ]

  pub pods_only : (q : ℕ) → q ≡ p + 1 → WatchesBelow view moment now_held q start now
  pods_only q next c = only_then (IsWatchable view moment now_held) (watchable_apart view moment told now_held keeps apart) start w p only_here now one q next c

  pub pods_only_all : WatchesOnly view moment now_held start now
  pods_only_all c = elim (pods_only (p + 1) refl c) [
    | inl stays ↦ inl stays
    | inr seen ↦ inr (seen.0, seen.2, seen.3)
  ]

  pub pods_each : AreWatchedBelow view moment held p start w → IsWatchedAt view moment now_held p w now → AreWatchedBelow view moment now_held (p + 1) start now
  pods_each each here i below pod at none kept c own =
      each_then (IsWatchable view moment now_held) (watchable_apart view moment told now_held keeps apart) start w p only_here now one c i (omega (arith, below)) (record { pod = pod; at = at; not_settled = none; own = own })
      (λ less. each i less pod (sym (others i (λ same. absurd (omega (arith, less, same)))) ∙ at) none kept c own)
      (λ is. here pod (subst (λ (n : ℕ). slice_get now_held n ≡ Some pod) is at) none kept c own)

pub all_only : (view : View) (moment : ℕ) (held : List HeldPod) (p : ℕ) (start w : ℕ → ℕ) → WatchesBelow view moment held p start w → WatchesOnly view moment held start w
all_only view moment held p start w only c = elim (only c) [
  | inl stays ↦ inl stays
  | inr seen ↦ inr (seen.0, seen.2, seen.3)
]

-- a pod that is left out is settled or failed
pub left_out_at : (view : View) (moment : ℕ) (pod : HeldPod) (before now : ℕ → ℕ) → is_left_out view moment pod ≡ true → settled_in view moment pod.name ≡ None → pod.failed ≡ false → IsWatchedPod pod before now
left_out_at view moment pod before now left none kept =
    let failed : pod.failed ≡ true = or_left pod.failed (settled_in view moment pod.name) left none in
    let bad : true ≡ false = sym failed ∙ kept in
    cc

module _ (view : View) (moment : ℕ) (held : List HeldPod) (place : ℕ) (a b : HeldPod) (at : slice_get held place ≡ Some a) (same : children_of b ≡ children_of a) (before now : ℕ → ℕ) where
  pub watched_here : {T E : Type 0} (result : Result T E) → OnOk result (b.failed ≡ false → IsWatchedPod a before now) → OnOk result (IsWatchedAt view moment (set held place b) place before now)
  watched_here (Ok done) watched = λ pod found none kept child own.
      let is : b ≡ pod = same_Some b pod (sym (set_here held b a place at) ∙ found) in
      watched (subst (λ (p : HeldPod). p.failed ≡ false) (sym is) kept) child (child_as a b same child (subst (λ (p : HeldPod). IsChild p child) (sym is) own))
  watched_here (Err e) watched = tt

  pub only_at : settled_in view moment b.name ≡ None → WatchesPod a before now → WatchesOnlyAt view moment (set held place b) place before now
  only_at none only child = elim (only child) [
    | inl stays ↦ inl stays
    | inr seen ↦ inr (record { pod = b; at = set_here held b a place at; not_settled = none; own = child_as b a (sym same) child seen.0 }, seen.1)
  ]

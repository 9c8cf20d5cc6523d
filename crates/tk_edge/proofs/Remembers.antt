-- What a host in memory owes.
use Rattle.std.proofs.Common.{◌≡◌, ℕ, List, [], ◌∷◌, true, false, refl, sym, ◌∙◌, subst, inl, inr}
use Rattle.std.specs.Prelude.{bytes_eq, Option, Some, None}
use Rattle.std.proofs.lemmas.Bool.{cases_Bool}
use Rattle.std.proofs.lemmas.Slice.Eq.{bytes_eq-Decides}
use Rattle.tk_edge.specs.declared.event.Event.{Event}
use Rattle.tk_edge.specs.declared.event.Event.TheVariants as events
use Rattle.tk_edge.specs.History.{names, IsNew, exit_of, order_of, StillRuns}
use Rattle.tk_edge.specs.Memory.{file_of, is_named, ended_watch}
use Rattle.std.specs.Option.{is_some}
use Rattle.tk_pod.specs.Exits.{passes}
use Rattle.tk_edge.specs.declared.event.Arming.{Arming}
use Rattle.tk_edge.specs.declared.order.Order.{Order}
use Rattle.tk_edge.specs.declared.order.Watch.{Watch}
use Rattle.tk_edge.specs.Calls.{TellsExit, TellsTurn, TellsArmedTurn}

pub unnamed_new : (child : ℕ) (h : List Event) → is_named child h ≡ false → IsNew child h
unnamed_new child [] none = tt
unnamed_new child (e ∷ older) none = elim (cases_Bool (names child e)) [
  | inl hit ↦ (let now = rw hit at none in cc (now))
  | inr miss ↦ (miss, unnamed_new child older (rw miss at none))
]

pub file_other : (path other bytes : List ℕ) (h : List Event) → (path ≡ other → ⊥) → file_of path (events.Put other bytes true ∷ h) ≡ file_of path h
file_other path other bytes h differ = elim (cases_Bool (bytes_eq path other)) [
  | inl hit ↦ absurd (differ ((bytes_eq-Decides path other).0 hit))
  | inr miss ↦ rw miss refl
]

pub file_put : (path bytes : List ℕ) (h : List Event) → file_of path (events.Put path bytes true ∷ h) ≡ Some bytes
file_put path bytes h = rw ((bytes_eq-Decides path path).1 refl) refl

pub first_exit : (child exit : ℕ) (old new : List Event) → is_some (order_of child old) ≡ true → exit_of child old ≡ None → new ≡ events.Exited child exit ∷ old → TellsExit child exit old new
first_exit child exit old new started none is = inl (runs (order_of child old) refl started, is)
  where
    runs : (o : Option Order) → order_of child old ≡ o → is_some o ≡ true → StillRuns child old
    runs None now some = cc (some)
    runs (Some order) now some = record { order = order; started = now; no_exit = none }

pub ended_told : (child exit : ℕ) (old new : List Event) (o : Option Arming) (a : Arming) (watch : Watch) → o ≡ Some a → watch ≡ ended_watch a.keep_going exit → TellsExit child exit old new → TellsArmedTurn child old new o watch
ended_told child exit old new o a watch armed is told =
    let turn : TellsTurn child a old new (ended_watch a.keep_going exit) = elim (cases_Bool (passes a.keep_going exit)) [
      | inl hit ↦ rw hit (hit, told)
      | inr miss ↦ rw miss (miss, told)
    ] in
    let here : TellsTurn child a old new watch = subst (TellsTurn child a old new) (sym is) turn in
    subst (λ (p : Option Arming). TellsArmedTurn child old new p watch) (sym armed) here

pub file_rest : (old h new : List Event) (path other put bytes : List ℕ) → h ≡ old → new ≡ events.Put put bytes true ∷ h → put ≡ path → (other ≡ path → ⊥) → file_of other new ≡ file_of other old
file_rest old h new path other put bytes before told same differ =
    let there : (other ≡ put → ⊥) = λ is. differ (is ∙ same) in
    rw (told, ← before) (file_other other put bytes h there)

pub file_here : (h new : List Event) (path put text bytes : List ℕ) → new ≡ events.Put put text true ∷ h → put ≡ path → text ≡ bytes → file_of path new ≡ Some bytes
file_here h new path put text bytes told same whole =
    let here : file_of put new ≡ Some text = rw told (file_put put text h) in
    subst (λ (p : List ℕ). file_of p new ≡ Some bytes) same (subst (λ (b : List ℕ). file_of put new ≡ Some b) whole here)

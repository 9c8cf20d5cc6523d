-- An event that doesn't name a child says nothing of it, and a number without an event is free.
use Rattle.std.proofs.Common.{◌≡◌, ℕ, List, [], ◌∷◌, Some, None, false, refl, ap, nat_eq, inl, inr}
use Rattle.std.proofs.lemmas.Bool.{cases_Bool, eqb-true}
use Rattle.tk_edge.specs.declared.event.Event.{Event}
use Rattle.tk_edge.specs.declared.event.Event.TheVariants as events
use Rattle.tk_edge.specs.declared.event.Arming.{Arming}
use Rattle.tk_edge.specs.History.{names, IsNew, exit_of, arming_of, is_refused}
use Rattle.tk_edge.proofs.InOrder.{arming_new}

pub arming_unnamed : (child : ℕ) (e : Event) (h : List Event) → names child e ≡ false → arming_of child (e ∷ h) ≡ arming_of child h
arming_unnamed child (events.Armed other arming) h miss = rw miss refl
arming_unnamed child _ h miss = refl

pub exit_unnamed : (child : ℕ) (e : Event) (h : List Event) → names child e ≡ false → exit_of child (e ∷ h) ≡ exit_of child h
exit_unnamed child (events.Exited other exit) h miss = rw miss refl
exit_unnamed child _ h miss = refl

pub refused_unnamed : (child : ℕ) (e : Event) (h : List Event) → names child e ≡ false → is_refused child (e ∷ h) ≡ is_refused child h
refused_unnamed child (events.Refused other) h miss = rw miss refl
refused_unnamed child _ h miss = refl

pub exit_new : (child : ℕ) (h : List Event) → IsNew child h → exit_of child h ≡ None
exit_new child [] new = refl
exit_new child (events.Exited other exit ∷ older) new = rw new.0 (exit_new child older new.1)
exit_new child (_ ∷ older) new = exit_new child older new.1

pub refused_new : (child : ℕ) (h : List Event) → IsNew child h → is_refused child h ≡ false
refused_new child [] new = refl
refused_new child (events.Refused other ∷ older) new = rw new.0 (refused_new child older new.1)
refused_new child (_ ∷ older) new = refused_new child older new.1

-- an armed child isn't a new number
pub armed_not_new : (c child : ℕ) (a : Arming) (h : List Event) → arming_of c h ≡ Some a → IsNew child h → nat_eq c child ≡ false
armed_not_new c child a h armed new = elim (cases_Bool (nat_eq c child)) [
  | inl hit ↦
      let none : arming_of c h ≡ None = rw (eqb-true c child hit) (arming_new child h new) in
      cc
  | inr miss ↦ miss
]

-- two children whose entries differ are two
pub two_children : (c d : ℕ) (a b : Arming) (h : List Event) → arming_of c h ≡ Some a → arming_of d h ≡ Some b → (a ≡ b → ⊥) → nat_eq c d ≡ false
two_children c d a b h is_c is_d differ = elim (cases_Bool (nat_eq c d)) [
  | inl hit ↦
      let there : arming_of c h ≡ arming_of d h = ap (λ (x : ℕ). arming_of x h) (eqb-true c d hit) in
      let same : a ≡ b = cc in
      absurd (differ same)
  | inr miss ↦ miss
]

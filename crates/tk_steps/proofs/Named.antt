-- The history names the children of held steps.
use Rattle.std.proofs.Common.{◌≡◌, ℕ, List, Some, None, true, sym, ◌∙◌, inl, inr}
use Rattle.std.proofs.lemmas.Bool.{cases_Bool}
use Rattle.tk_edge.specs.declared.event.Event.{Event}
use Rattle.tk_edge.specs.declared.event.Arming.{Arming}
use Rattle.tk_edge.specs.History.{arming_of}
use Rattle.tk_edge.specs.Memory.{is_named}
use Rattle.tk_edge.proofs.InOrder.{arming_new}
use Rattle.tk_edge.proofs.Remembers.{unnamed_new}
use Rattle.tk_steps.specs.declared.held.HeldPod.{HeldPod}
use Rattle.tk_steps.specs.Held.{HoldsPod}
use Rattle.tk_steps.specs.Kills.{AreNamed}

armed_named : (child : ℕ) (arming : Arming) (told : List Event) → arming_of child told ≡ Some arming → is_named child told ≡ true
armed_named child arming told armed = elim (cases_Bool (is_named child told)) [
  | inl named ↦ named
  | inr unnamed ↦
      let none : arming_of child told ≡ None = arming_new child told (unnamed_new child told unnamed) in
      let bad : Some arming ≡ None = sym armed ∙ none in
      cc
]

pub held_named : (told : List Event) (pod : HeldPod) → HoldsPod told pod → AreNamed told pod.steps.items
held_named told pod holds place step at = let s = holds.steps place step at in armed_named step.child s.arming told s.armed

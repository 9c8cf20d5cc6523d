-- What a turn keeps holds at the start, and in a kubelet's next life.
use Rattle.std.proofs.Common.{ℕ, List, sym, ◌∙◌, ap, inl, inr}
use Rattle.tk_edge.specs.declared.event.Event.{Event}
use Rattle.tk_edge.specs.History.{Has, arming_of}
use Rattle.tk_held.specs.Pods.{KeepsAll}
use Rattle.tk_held.specs.Settling.{IsHeldChild}
use Rattle.tk_kubelet.specs.Holding.{Holding}
use Rattle.tk_play.specs.Start.{NothingIsOwn, NextLifeIsOwn}

pub nothing_is_own : NothingIsOwn
nothing_is_own = record {
  own = λ number life root. record { whole = λ place pod at. cc (at); own = tt; armed = λ child dead. cc (dead) };
  spared = λ number life history moment child arming pod dead armed there held. cc (dead);
}

held_armed : (kubelet : Holding) (told : List Event) → KeepsAll told kubelet.held → (child : ℕ) → IsHeldChild kubelet.held child → Has (arming_of child told) (λ arming. Unit {0})
held_armed kubelet told keeps child held =
    let step = (keeps held.place held.pod held.at).holds.steps held.living.place held.living.step held.living.at in
    record { it = step.arming; is = ap (λ (c : ℕ). arming_of c told) (sym held.living.is) ∙ step.armed; has = tt }

pub next_life_is_own : NextLifeIsOwn
next_life_is_own kubelet life killed now told keeps kills own = record {
  whole = λ place pod at. cc (at);
  own = own.own;
  armed = λ child dead. elim (kills child dead) [ inl before ↦ own.armed child before | inr held ↦ held_armed kubelet told keeps child held ];
}

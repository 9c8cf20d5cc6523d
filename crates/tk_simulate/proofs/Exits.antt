-- Where each exit that a host found is the script's, so are those that are found for a pod's steps.
use Rattle.std.proofs.Common.{◌≡◌, ℕ, zero, suc, List, [], ◌∷◌, Option, Some, None, refl, sym, ◌∙◌, ap, subst, inl, inr, nat_eq}
use Rattle.std.proofs.lemmas.Bool.{cases_Bool, eqb-true}
use Rattle.std.proofs.lemmas.Option.{same_Some}
use Rattle.tk_edge.specs.declared.order.Order.{Order}
use Rattle.tk_edge.specs.declared.event.Event.{Event as HostEvent}
use Rattle.tk_edge.specs.declared.event.Event.TheVariants as tells
use Rattle.tk_edge.specs.History.{IsTold, exit_of, order_of}
use Rattle.tk_edge.proofs.InOrder.{order_stays}
use Rattle.tk_machine.specs.Hosts.{Script, IsExitOf, IsScripted, exits_from, first_exit, step_exit}
use Rattle.tk_machine.proofs.Exits.{found_exit}
use Rattle.tk_simulate.specs.Ends.{AreExitsOf}

module _ (script : Script) where
  -- a child that ended was started, and its exit is that of its order
  record ScriptedExit (told : List HostEvent) (child exit : ℕ) : Type 0 where
    order : Order
    started : order_of child told ≡ Some order
    is : exit ≡ script.exit order.pod order.step

  scripted_exit : (told : List HostEvent) → IsTold told → IsScripted script told → (child exit : ℕ) → exit_of child told ≡ Some exit → ScriptedExit told child exit
  scripted_exit [] told scripted child exit exited = cc
  scripted_exit (tells.Exited other now ∷ older) told scripted child exit exited = elim (cases_Bool (nat_eq child other)) [
    | inl hit ↦ (
        let same : now ≡ exit = same_Some now exit (rw hit at exited) in
        record {
          order = told.0.order;
          started = ap (λ (c : ℕ). order_of c older) (eqb-true child other hit) ∙ told.0.started;
          is = sym same ∙ subst (IsExitOf script now) told.0.started scripted.0;
        })
    | inr miss ↦ (
        let before = scripted_exit older told.1 scripted.1 child exit (rw miss at exited) in
        record { order = before.order; started = before.started; is = before.is })
  ]
  scripted_exit (e ∷ older) told scripted child exit exited =
      let before = scripted_exit older told.1 scripted child exit exited in
      record { order = before.order; started = order_stays child before.order e older told.0 before.started; is = before.is }

  step_is : (told : List HostEvent) → IsTold told → IsScripted script told → (pod : List ℕ) (step exit : ℕ) → step_exit pod step told told ≡ Some exit → exit ≡ script.exit pod step
  step_is told is_told scripted pod step exit is =
      let found = found_exit told told pod step exit is_told is in
      let by = scripted_exit told is_told scripted found.child exit found.exited in
      let same : by.order ≡ found.order = same_Some by.order found.order (sym by.started ∙ found.started) in
      by.is ∙ (ap (λ (o : Order). script.exit o.pod o.step) same ∙ (ap (λ (p : List ℕ). script.exit p found.order.step) found.same_pod ∙ ap (script.exit pod) found.same_step))

  pub exits_are : (told : List HostEvent) → IsTold told → IsScripted script told → (pod : List ℕ) (step count : ℕ) → AreExitsOf script pod step (exits_from pod told step count)
  exits_are told is_told scripted pod step zero = tt
  exits_are told is_told scripted pod step (suc count) = by_exit (exits_are told is_told scripted pod (suc step) count) (step_exit pod step told told) refl
    where
      by_exit : AreExitsOf script pod (suc step) (exits_from pod told (suc step) count) → (o : Option ℕ) → step_exit pod step told told ≡ o → AreExitsOf script pod step (first_exit o (exits_from pod told (suc step) count))
      by_exit rest None at = tt
      by_exit rest (Some exit) at = (step_is told is_told scripted pod step exit at, rest)

-- Watches of a pod's steps, one after the other.
use Rattle.std.proofs.Common.{◌≡◌, ℕ, zero, suc, ◌<◌, ◌+◌, Bool, List, [], ◌∷◌, length, take, Option, Some, refl, sym, ◌∙◌, subst, arith, get_or, slice_get}
use Rattle.std.proofs.lemmas.List.{length-map, take_all}
use Rattle.std.proofs.lemmas.Option.{same_Some, slice_get-get_or}
use Rattle.tk_edge.specs.declared.event.Arming.{Arming}
use Rattle.tk_edge.specs.declared.event.Event.{Event}
use Rattle.tk_edge.specs.declared.order.Watch.{Watch}
use Rattle.tk_edge.specs.Calls.{TellsArmedTurn}
use Rattle.tk_edge.specs.History.{arming_of}
use Rattle.tk_edge.specs.Plays.{Play, IsPlayed}
use Rattle.tk_steps.specs.declared.held.HeldPod.{HeldPod}
use Rattle.tk_steps.specs.declared.held.HeldStep.{HeldStep}
use Rattle.tk_steps.specs.Held.{HoldsPod}
use Rattle.tk_steps.specs.Played.{WatchesStep, WatchesFrom}
use Rattle.tk_steps.specs.Watched.{children_of}
use Rattle.tk_steps.proofs.Once.{child_at}

-- the watch of an armed step
pub step_watched : (play : Option Play) (killed : ℕ → Bool) (pod : HeldPod) (place : ℕ) (step : HeldStep) (old new : List Event) → HoldsPod old pod → slice_get pod.steps.items place ≡ Some step
    → (watch : Watch) → TellsArmedTurn step.child old new (arming_of step.child old) watch → IsPlayed play (killed step.child) step.child old watch
    → (child : ℕ) → slice_get (children_of pod) place ≡ Some child → WatchesStep play killed pod.name place child old new
step_watched play killed pod place step old new holds at watch told played child found =
    let held = holds.steps place step at in
    let is : step.child ≡ child = same_Some step.child child (sym (child_at pod.steps.items place step at) ∙ found) in
    subst (λ (c : ℕ). WatchesStep play killed pod.name place c old new) is record {
      arming = held.arming;
      armed = held.armed;
      same_pod = held.same_pod;
      same_step = held.same_step;
      watch = watch;
      tells = subst (λ (o : Option Arming). TellsArmedTurn step.child old new o watch) held.armed told;
      played = played;
    }

module _ (play : Option Play) (killed : ℕ → Bool) (pod : List ℕ) where
  -- a chain goes on by one child
  chain_more : (children : List ℕ) (count from step child : ℕ) (old between new : List Event) → WatchesFrom play killed pod from (take count children) old between → slice_get children count ≡ Some child
      → step ≡ from + count → WatchesStep play killed pod step child between new → WatchesFrom play killed pod from (take (suc count) children) old new
  chain_more [] count from step child old between new chain at is watches = cc
  chain_more (c ∷ cs) zero from step child old between new chain at is watches =
      let number : step ≡ from = omega (arith, is) in
      let own : WatchesStep play killed pod step c between new = subst (λ (n : ℕ). WatchesStep play killed pod step n between new) (sym (same_Some c child at)) watches in
      let here : WatchesStep play killed pod from c between new = subst (λ (n : ℕ). WatchesStep play killed pod n c between new) number own in
      (new, subst (λ (h : List Event). WatchesStep play killed pod from c h new) chain here, refl)
  chain_more (c ∷ cs) (suc count) from step child old between new chain at is watches =
      (chain.0, chain.1, chain_more cs count (suc from) step child chain.0 between new chain.2 at (omega (arith, is)) watches)

  -- the same, by the pod as it was before this watch
  pub turns_then : (now_play : Option Play) (now_killed : ℕ → Bool) (now_pod : List ℕ) (children now : List ℕ) (place : ℕ) (old between new : List Event) → now_play ≡ play → now_killed ≡ killed → now_pod ≡ pod → now ≡ children
      → place < length children → WatchesFrom play killed pod 0 (take place children) old between → ((child : ℕ) → slice_get now place ≡ Some child → WatchesStep now_play now_killed now_pod place child between new)
      → WatchesFrom play killed pod 0 (take (place + 1) children) old new
  turns_then now_play now_killed now_pod children now place old between new same_play same_killed same_pod same within chain watches =
      let child : ℕ = get_or children place 0 in
      let at : slice_get children place ≡ Some child = slice_get-get_or children place 0 within in
      let a : WatchesStep now_play now_killed now_pod place child between new = watches child (subst (λ (cs : List ℕ). slice_get cs place ≡ Some child) (sym same) at) in
      let b : WatchesStep play now_killed now_pod place child between new = subst (λ (p : Option Play). WatchesStep p now_killed now_pod place child between new) same_play a in
      let c : WatchesStep play killed now_pod place child between new = subst (λ (k : ℕ → Bool). WatchesStep play k now_pod place child between new) same_killed b in
      let d : WatchesStep play killed pod place child between new = subst (λ (n : List ℕ). WatchesStep play killed n place child between new) same_pod c in
      let next : suc place ≡ place + 1 = omega arith in
      let number : place ≡ 0 + place = omega arith in
      subst (λ (n : ℕ). WatchesFrom play killed pod 0 (take n children) old new) next (chain_more children place 0 place child old between new chain at number d)

  -- a chain over all children
  pub turns_all : (children : List ℕ) (count : ℕ) (old new : List Event) → length children ≡ count → WatchesFrom play killed pod 0 (take count children) old new → WatchesFrom play killed pod 0 children old new
  turns_all children count old new whole chain = subst (λ (cs : List ℕ). WatchesFrom play killed pod 0 cs old new) (take_all count children (omega (arith, whole))) chain

-- a child for each armed step
pub children_length : (pod : HeldPod) → length (children_of pod) ≡ length pod.steps.items
children_length pod = length-map pod.steps.items (λ (step : HeldStep). step.child)

-- Pods that are left out.
use Rattle.std.proofs.Common.{◌≡◌, ℕ, ◌<◌, List, length, Bool, true, false, None, Some, Option, refl, sym, ◌∙◌, subst, inl, arith, slice_get, get_or}
use Rattle.std.specs.Prelude.{◌||◌, is_some}
use Rattle.std.proofs.lemmas.Option.{same_Some, slice_get-get_or}
use Rattle.tk_journal.specs.History.{View}
use Rattle.tk_steps.specs.declared.held.HeldPod.{HeldPod}
use Rattle.tk_steps.specs.Kills.{CountsKills}
use Rattle.tk_held.specs.declared.judging.Settled.{Settled}
use Rattle.tk_held.specs.Pods.{IsDone}
use Rattle.tk_held.specs.Settled.{settled_in}
use Rattle.tk_held.specs.Settling.{is_left_out}

pub or_left : (a : Bool) (o : Option Settled) → (a || is_some o) ≡ true → o ≡ None → a ≡ true
or_left true o left none = refl
or_left false None left none = left
or_left false (Some settled) left none = cc

pub left_failed : (view : View) (moment : ℕ) (pod : HeldPod) → is_left_out view moment pod ≡ true → settled_in view moment pod.name ≡ None → IsDone pod
left_failed view moment pod left none = inl (or_left pod.failed (settled_in view moment pod.name) left none)

or_right : (a b : Bool) → (a || b) ≡ false → a ≡ false
or_right true b none = none
or_right false b none = refl

pub not_left : (view : View) (moment : ℕ) (pod : HeldPod) → is_left_out view moment pod ≡ false → pod.failed ≡ false
not_left view moment pod none = or_right pod.failed (is_some (settled_in view moment pod.name)) none

-- kills one after the other
pub kills_then : (a b : Bool) (x y z : ℕ) → CountsKills a x y → CountsKills b y z → CountsKills (a || b) x z
kills_then true true x y z first second = (omega (arith, first.0, first.1, second.0, second.1), omega (arith, first.1, second.1))
kills_then true false x y z first second = (omega (arith, first.0, second), omega (arith, first.1, second))
kills_then false true x y z first second = (omega (arith, first, second.0), omega (arith, first, second.1))
kills_then false false x y z first second = second ∙ first

or_settled : (a : Bool) (o : Option Settled) → (a || is_some o) ≡ false → o ≡ None
or_settled a None none = refl
or_settled true (Some settled) none = cc
or_settled false (Some settled) none = cc

pub not_settled : (view : View) (moment : ℕ) (pod : HeldPod) → is_left_out view moment pod ≡ false → settled_in view moment pod.name ≡ None
not_settled view moment pod none = or_settled pod.failed (settled_in view moment pod.name) none

-- a pod that isn't left out, as it is read again
module _ (view : View) (moment : ℕ) (held : List HeldPod) (place : ℕ) (d e : HeldPod) (within : place < length held) (kept : is_left_out view moment (get_or held place d) ≡ false) where
  same_read : get_or held place d ≡ get_or held place e
  same_read = same_Some _ _ (sym (slice_get-get_or held place d within) ∙ slice_get-get_or held place e within)

  pub kept_at : (get_or held place e).failed ≡ false
  kept_at = subst (λ (p : HeldPod). p.failed ≡ false) same_read (not_left view moment (get_or held place d) kept)

  pub unsettled_at : settled_in view moment (get_or held place e).name ≡ None
  unsettled_at = subst (λ (p : HeldPod). settled_in view moment p.name ≡ None) same_read (not_settled view moment (get_or held place d) kept)

-- a pod that is left out, as it stands at its place
pub left_at : (view : View) (moment : ℕ) (held : List HeldPod) (place : ℕ) (d pod : HeldPod) → place < length held → is_left_out view moment (get_or held place d) ≡ true → slice_get held place ≡ Some pod → is_left_out view moment pod ≡ true
left_at view moment held place d pod within left at = subst (λ (p : HeldPod). is_left_out view moment p ≡ true) (same_Some _ _ (sym (slice_get-get_or held place d within) ∙ at)) left

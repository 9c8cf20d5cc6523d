-- What a kubelet does for a pod that it holds keeps its host's history in order.
use Rattle.std.proofs.Common.{◌≡◌, ◌≢◌, ℕ, suc, ◌<◌, ◌≤◌, ◌-◌, ◌^◌, List, ◌∷◌, ◌++◌, length, Some, Bool, true, false, refl, sym, ◌∙◌, ap, subst, inl, inr, arith, nat_eq, slice_get}
use Rattle.std.specs.Prelude.{codes, decimal}
use Rattle.std.proofs.lemmas.List.{append_cancel_left, append_cancel_right}
use Rattle.std.proofs.lemmas.Fmt.{decimal_injective}
use Rattle.std.proofs.Math.Dec.{eqb-suc-zero}
use Rattle.std.proofs.lemmas.Option.{same_Some, slice_get_within}
use Rattle.tk_pod.specs.Exits.{continues}
use Rattle.tk_edge.specs.declared.event.Event.{Event}
use Rattle.tk_edge.specs.declared.event.Event.TheVariants as events
use Rattle.tk_edge.specs.declared.event.Arming.{Arming}
use Rattle.tk_edge.specs.declared.order.Order.{Order}
use Rattle.tk_edge.specs.InOrder.{Claimed, Pods, IsLayout, ArmsStep, IsKept}
use Rattle.tk_edge.proofs.InOrder.{kept_quiet, kept_put, kept_arm, kept_start}
use Rattle.tk_journal.specs.declared.object.Plan.{Plan}
use Rattle.tk_space.specs.Space.{below, pod_folder}
use Rattle.tk_steps.specs.Paths.{start_path, post_path, wait_path, script_path, layout_of}
use Rattle.tk_steps.specs.Ready.{space_file}
use Rattle.tk_steps.specs.Held.{IsPlanOf}
use Rattle.tk_steps.specs.May.{May, IsOwnPut, IsOwnArming}
use Rattle.tk_held.proofs.Lasts.{byte_back, post_last, post_before, start_before, script_last, space_last}

-- the layout of the files

pub layout_is : (root : List ℕ) → IsLayout (layout_of root)
layout_is root = record { next = λ pod step. next pod step; apart = apart }
  where
    next : (pod : List ℕ) (step : ℕ) → wait_path root pod (suc step) ≡ post_path root pod step
    next pod step =
        let less : suc step - 1 ≡ step = omega arith in
        let other : nat_eq (suc step) 0 ≡ false = eqb-suc-zero step in
        rw other (ap (post_path root pod) less)

    apart : (pod : List ℕ) (m n : ℕ) → m < 2 ^ 32 → n < 2 ^ 32 → post_path root pod m ≡ post_path root pod n → m ≡ n
    apart pod m n small_m small_n same =
        let folder = below (pod_folder root pod) (codes "run") in
        let whole = append_cancel_right (below folder (decimal m) ++ codes "/") (below folder (decimal n) ++ codes "/") (codes "out") same in
        let front = append_cancel_right (below folder (decimal m)) (below folder (decimal n)) (codes "/") whole in
        let digits = append_cancel_left (folder ++ codes "/") (decimal m) (decimal n) front in
        decimal_injective m n (omega arith) (omega arith) digits

-- what is put before the steps are armed is no post file
pub no_post : (root name : List ℕ) (plan : Plan) → IsPlanOf name plan → (path bytes : List ℕ) → IsOwnPut root name plan path bytes → (pod : List ℕ) (step : ℕ) → post_path root pod step ≢ path
no_post root name plan planned path bytes (inl start) pod step same =
    let here : byte_back (post_path root pod step) 1 ≡ byte_back (start_path root name) 1 = ap (λ (p : List ℕ). byte_back p 1) (same ∙ start.0) in
    absurd (omega (arith, here, post_before root pod step, start_before root name))
no_post root name plan planned path bytes (inr (inl script)) pod step same =
    let here : byte_back (post_path root pod step) 0 ≡ byte_back (script_path root name script.step) 0 = ap (λ (p : List ℕ). byte_back p 0) (same ∙ script.at) in
    let within : script.step < length plan.scripts = slice_get_within plan.scripts script.step bytes script.text in
    let few : length plan.scripts ≤ 32 = planned.scripts in
    absurd (omega (arith, here, post_last root pod step, script_last root name script.step (omega arith)))
no_post root name plan planned path bytes (inr (inr space)) pod step same =
    let here : byte_back (post_path root pod step) 0 ≡ byte_back (space_file root name space.folder) 0 = ap (λ (p : List ℕ). byte_back p 0) (same ∙ space.at) in
    let less = (space_last root name space.folder).1 in
    absurd (omega (arith, here, post_last root pod step, less))

module _ (root name : List ℕ) (plan : Plan) (planned : IsPlanOf name plan) (killed : ℕ → Bool) (pods : Pods) (claimed : Claimed) (is_claimed : pods name ≡ Some claimed) (orders : claimed.orders ≡ plan.orders) (keep : claimed.keep ≡ plan.keep) (live : claimed.is_over ≡ false) where
  arms : (arming : Arming) → IsOwnArming root name plan arming → ArmsStep (layout_of root) pods arming
  arms arming own =
      let within : arming.order.step < length plan.orders = slice_get_within plan.orders arming.order.step arming.order own.own_order in
      let few : length plan.orders ≤ 32 = planned.few in
      record {
        claimed = claimed;
        is_claimed = ap pods own.same_pod ∙ is_claimed;
        own_order = subst (λ (os : List Order). slice_get os arming.order.step ≡ Some arming.order) (sym orders) own.own_order;
        small = omega arith;
        keeps = own.keeps ∙ ap (λ (k : ℕ). continues k arming.order.step) (sym keep);
        waits = own.waits ∙ ap (λ (p : List ℕ). wait_path root p arming.order.step) (sym own.same_pod);
        posts = own.posts ∙ ap (λ (p : List ℕ). post_path root p arming.order.step) (sym own.same_pod);
      }

  pub kept_may : (e : Event) (h : List Event) → May root name plan e h → IsKept (layout_of root) killed pods h → IsKept (layout_of root) killed pods (e ∷ h)
  kept_may (events.Put path bytes true) h may kept = kept_put (layout_of root) (layout_is root) killed pods path bytes h (no_post root name plan planned path bytes may.0) kept
  kept_may (events.Put path bytes false) h may kept = kept_quiet (layout_of root) (layout_is root) killed pods (events.Put path bytes false) h refl tt kept
  kept_may (events.Cleared folder true) h may kept = kept_quiet (layout_of root) (layout_is root) killed pods (events.Cleared folder true) h refl tt kept
  kept_may (events.Cleared folder false) h may kept = kept_quiet (layout_of root) (layout_is root) killed pods (events.Cleared folder false) h refl tt kept
  kept_may (events.Fetched path bytes) h may kept = kept_quiet (layout_of root) (layout_is root) killed pods (events.Fetched path bytes) h refl tt kept
  kept_may (events.Armed child arming) h may kept = kept_arm (layout_of root) (layout_is root) killed pods h kept child arming may.0 (arms arming may.1) (λ c b is pod step. may.2 c b is (pod ∙ may.1.same_pod) step)
  kept_may (events.Started child order) h may kept =
      let next : IsKept (layout_of root) killed pods (events.Started child may.arming.order ∷ h) = kept_start (layout_of root) (layout_is root) killed pods h kept child may.arming may.armed may.waited may.may (λ c at. not_over c (sym (ap pods may.same_pod) ∙ at)) in
      subst (λ (o : Order). IsKept (layout_of root) killed pods (events.Started child o ∷ h)) (sym may.own_order) next
    where
      not_over : (c : Claimed) → pods name ≡ Some c → c.is_over ≡ false
      not_over c at = let same : claimed ≡ c = same_Some claimed c (sym is_claimed ∙ at) in ap (λ (x : Claimed). x.is_over) (sym same) ∙ live
  kept_may (events.Refused child) h may kept = kept_quiet (layout_of root) (layout_is root) killed pods (events.Refused child) h refl record { it = may.0.it; is = may.0.is; has = may.1 } kept
  kept_may (events.Exited child exit) h may kept = kept_quiet (layout_of root) (layout_is root) killed pods (events.Exited child exit) h refl may.1 kept

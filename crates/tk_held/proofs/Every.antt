-- What calls for one pod come to among all held pods.
use Rattle.std.proofs.Common.{◌≡◌, ℕ, zero, suc, ◌<◌, ◌≤◌, ◌+◌, ◌-◌, List, [], ◌∷◌, length, Some, None, Bool, true, false, refl, sym, ◌∙◌, ap, subst, inl, inr, arith, set, slice_get, length-set}
use Rattle.std.proofs.Common.{get_or}
use Rattle.std.proofs.lemmas.Option.{same_Some, slice_get_within, slice_get-get_or}
use Rattle.tk_edge.specs.declared.event.Event.{Event}
use Rattle.std.proofs.Common.{Ok, Err}
use Rattle.std.specs.Prelude.{Result, OnOk, IfOk}
use Rattle.std.proofs.lemmas.Bool.{cases_Bool}
use Rattle.tk_journal.specs.History.{View}
use Rattle.tk_held.specs.Settled.{settled_in}
use Rattle.tk_journal.specs.declared.object.Plan.{Plan}
use Rattle.tk_steps.specs.declared.held.HeldPod.{HeldPod}
use Rattle.tk_steps.specs.Held.{HoldsPod}
use Rattle.tk_steps.specs.May.{May}
use Rattle.tk_steps.specs.Moves.{Moves, Acts, counted}
use Rattle.tk_held.specs.Pods.{KeepsPod, KeepsAll, AreApart, MayAny, MovesAll, one_if, count_failed, raised_by, Rises, StayFailed, IsDone, StaysDone}
use Rattle.tk_steps.proofs.Adds.{adds_none, adds_then, adds_more, adds_keep}
use Rattle.tk_steps.proofs.Gets.{get_set, set_here}
use Rattle.tk_steps.proofs.Holds.{holds_other}
use Rattle.tk_steps.proofs.Moved.{plan_moves}

module _ (root : List ℕ) where
  pub all_none : (held : List HeldPod) (told now : List Event) → now ≡ told → KeepsAll told held → MovesAll root held held told now
  all_none held told now is keeps = record {
    same_length = refl;
    same = λ place pod at. record { was = pod; at = at; name = refl; plan = refl };
    keeps = subst (λ (h : List Event). KeepsAll h held) (sym is) keeps;
    adds = adds_none (MayAny root held) told now is;
  }

  pub all_at : (held new : List HeldPod) (place : ℕ) (a b : HeldPod) (x y : List Event) → KeepsAll x held → AreApart held → slice_get held place ≡ Some a → Moves root a b x y → length b.steps.items ≤ length b.plan.orders → new ≡ set held place b → MovesAll root held new x y
  all_at held new place a b x y keeps apart at moves within is = record {
    same_length = ap length is ∙ length-set held place b;
    same = λ i pod found. elim (get_set held b pod place i (subst (λ (ps : List HeldPod). slice_get ps i ≡ Some pod) is found)) [
      | inl here ↦ record {
        was = a;
        at = subst (λ (n : ℕ). slice_get held n ≡ Some a) (sym here.0) at;
        name = ap (λ (p : HeldPod). p.name) here.1 ∙ moves.same_name;
        plan = ap (λ (p : HeldPod). p.plan) here.1 ∙ moves.same_plan;
      }
      | inr there ↦ record { was = pod; at = there.1; name = refl; plan = refl }
    ];
    keeps = λ i pod found. elim (get_set held b pod place i (subst (λ (ps : List HeldPod). slice_get ps i ≡ Some pod) is found)) [
      | inl here ↦
          let kept : KeepsPod y b = record { planned = plan_moves root a b x y moves (keeps place a at).planned; holds = moves.holds; within = within } in
          subst (KeepsPod y) (sym here.1) kept
      | inr there ↦
          let kept = keeps i pod there.1 in
          let differ : a.name ≡ pod.name → ⊥ = λ same. there.0 (sym (apart place i a pod at there.1 same)) in
          record {
            planned = kept.planned;
            holds = adds_keep (May root a.name a.plan) (λ h. HoldsPod h pod) (λ e h may holds. holds_other root a.name a.plan pod differ e h may holds) x y moves.adds kept.holds;
            within = kept.within;
          }
    ];
    adds = adds_more (May root a.name a.plan) (MayAny root held) (λ e h may. record { place = place; pod = a; at = at; may = may }) x y moves.adds;
  }

  earlier : (a b : List HeldPod) (x y : List Event) → MovesAll root a b x y → (e : Event) (h : List Event) → MayAny root b e h → MayAny root a e h
  earlier a b x y first e h any =
      let was = first.same any.place any.pod any.at in
      let named : May root was.was.name any.pod.plan e h = subst (λ (n : List ℕ). May root n any.pod.plan e h) was.name any.may in
      record { place = any.place; pod = was.was; at = was.at; may = subst (λ (p : Plan). May root was.was.name p e h) was.plan named }

  pub all_then : (a b c : List HeldPod) (x y z : List Event) → MovesAll root a b x y → MovesAll root b c y z → MovesAll root a c x z
  all_then a b c x y z first second = record {
    same_length = second.same_length ∙ first.same_length;
    same = λ place pod at.
        let later = second.same place pod at in
        let sooner = first.same place later.was later.at in
        record { was = sooner.was; at = sooner.at; name = later.name ∙ sooner.name; plan = later.plan ∙ sooner.plan };
    keeps = second.keeps;
    adds = adds_then (MayAny root a) x y z first.adds (adds_more (MayAny root b) (MayAny root a) (earlier a b x y first) y z second.adds);
  }

  pub all_apart : (a b : List HeldPod) (x y : List Event) → MovesAll root a b x y → AreApart a → AreApart b
  all_apart a b x y moves apart i j p q at_i at_j same =
      let was_i = moves.same i p at_i in
      let was_j = moves.same j q at_j in
      apart i j was_i.was was_j.was was_i.at was_j.at (sym was_i.name ∙ (same ∙ was_j.name))

-- counts

pub count_set : (held : List HeldPod) (place : ℕ) (a b : HeldPod) → slice_get held place ≡ Some a → count_failed (set held place b) + one_if a.failed ≡ count_failed held + one_if b.failed
count_set [] place a b at = cc
count_set (p ∷ ps) zero a b at =
    let same : p ≡ a = cc in
    let flag : one_if p.failed ≡ one_if a.failed = ap (λ (x : HeldPod). one_if x.failed) same in
    omega (arith, flag)
count_set (p ∷ ps) (suc place) a b at = omega (arith, count_set ps place a b at)

pub rises_none : (held : List HeldPod) (before now : ℕ) → now ≡ before → Rises held held before now
rises_none held before now is =
    let none : count_failed held - count_failed held ≡ 0 = omega arith in
    record { grows = omega arith; count = rw none (omega (arith, is)) }

pub rises_at : (held new : List HeldPod) (place : ℕ) (a b : HeldPod) (before now : ℕ) → slice_get held place ≡ Some a → a.failed ≡ false → now ≡ counted b.failed before → new ≡ set held place b → Rises held new before now
rises_at held new place a b before now at not_failed count is = go b.failed refl count
  where
    total : count_failed new ≡ count_failed held + one_if b.failed
    total =
        let sum = count_set held place a b at in
        let flag : one_if a.failed ≡ 0 = ap one_if not_failed in
        let here : count_failed new ≡ count_failed (set held place b) = ap count_failed is in
        omega (arith, sum, flag, here)

    go : (failed : Bool) → b.failed ≡ failed → now ≡ counted failed before → Rises held new before now
    go true is_failed count =
        let flag : one_if b.failed ≡ 1 = ap one_if is_failed in
        let one : count_failed new - count_failed held ≡ 1 = omega (arith, total, flag) in
        record { grows = omega (arith, total); count = rw one count }
    go false is_failed count =
        let flag : one_if b.failed ≡ 0 = ap one_if is_failed in
        let none : count_failed new - count_failed held ≡ 0 = omega (arith, total, flag) in
        record { grows = omega (arith, total, flag); count = rw none (omega (arith, count)) }

raised_twice : (m n k f : ℕ) → k ≡ m + n → raised_by n (raised_by m f) ≡ raised_by k f
raised_twice m n k f is = omega (arith, is)

pub rises_then : (a b c : List HeldPod) (f g h : ℕ) → Rises a b f g → Rises b c g h → Rises a c f h
rises_then a b c f g h first second =
    let sum : count_failed c - count_failed a ≡ (count_failed b - count_failed a) + (count_failed c - count_failed b) = omega (arith, first.grows, second.grows) in
    record {
      grows = omega (arith, first.grows, second.grows);
      count = second.count ∙ (ap (raised_by (count_failed c - count_failed b)) first.count ∙ raised_twice (count_failed b - count_failed a) (count_failed c - count_failed b) (count_failed c - count_failed a) f sum);
    }

-- pods that are done stay so

pub done_none : (held : List HeldPod) → StaysDone held held
done_none held place a b at_a at_b done = let same : a ≡ b = cc in subst IsDone same done

pub done_at : (held new : List HeldPod) (place : ℕ) (a b : HeldPod) → slice_get held place ≡ Some a → a.failed ≡ false → b.plan ≡ a.plan → length b.steps.items ≡ length a.steps.items → new ≡ set held place b → StaysDone held new
done_at held new place a b at not_failed plan steps is i p q at_p at_q done = elim (get_set held b q place i (subst (λ (ps : List HeldPod). slice_get ps i ≡ Some q) is at_q)) [
  | inl here ↦
      let there : slice_get held i ≡ Some a = subst (λ (n : ℕ). slice_get held n ≡ Some a) (sym here.0) at in
      let same : p ≡ a = cc in
      let now : IsDone b = elim (subst IsDone same done) [
        | inl failed ↦ (let bad : true ≡ false = sym failed ∙ not_failed in cc)
        | inr whole ↦ inr (steps ∙ (whole ∙ ap (λ (x : Plan). length x.orders) (sym plan)))
      ] in
      subst IsDone (sym here.1) now
  | inr there ↦ (let same : p ≡ q = same_Some p q (sym at_p ∙ there.1) in subst IsDone same done)
]

pub done_then : (a b c : List HeldPod) → length b ≡ length a → StaysDone a b → StaysDone b c → StaysDone a c
done_then a b c lengths first second place p q at_p at_q done =
    let within : place < length a = slice_get_within a place p at_p in
    let found : slice_get b place ≡ Some (get_or b place p) = slice_get-get_or b place p (omega (arith, within, lengths)) in
    second place (get_or b place p) q found at_q (first place p (get_or b place p) at_p found done)

-- a pod that was armed is done, or failed
pub done_armed : {E : Type 0} (view : View) (moment : ℕ) (held : List HeldPod) (place : ℕ) (a b : HeldPod) (result : Result (Unit {0}) E) → slice_get held place ≡ Some a → b.plan ≡ a.plan → OnOk result (b.failed ≡ false → length b.steps.items ≡ length a.plan.orders) → OnOk result ((pod : HeldPod) → slice_get (set held place b) place ≡ Some pod → settled_in view moment pod.name ≡ None → IsDone pod)
done_armed view moment held place a b (Ok done) at plan armed = λ pod found none.
    let same : b ≡ pod = same_Some b pod (sym (set_here held b a place at) ∙ found) in
    subst IsDone same (elim (cases_Bool b.failed) [
      | inl failed ↦ inl failed
      | inr kept ↦ inr (armed kept ∙ ap (λ (p : Plan). length p.orders) (sym plan))
    ])
done_armed view moment held place a b (Err e) at plan armed = tt

pub steps_fit : (a b : HeldPod) → b.plan ≡ a.plan → length b.steps.items ≡ length a.steps.items → length a.steps.items ≤ length a.plan.orders → length b.steps.items ≤ length b.plan.orders
steps_fit a b plan steps within =
    let same : length b.plan.orders ≡ length a.plan.orders = ap (λ (p : Plan). length p.orders) plan in
    omega (arith, same, steps, within)

one_none : (failed : Bool) → one_if failed ≡ 0 → failed ≡ false
one_none true is = absurd (omega (arith, is))
one_none false is = refl

-- where no pod failed now, this one didn't
pub watched_acts : {E : Type 0} (held : List HeldPod) (place : ℕ) (a b : HeldPod) (x y : List Event) (result : Result Bool E) → slice_get held place ≡ Some a → a.failed ≡ false → IfOk result (λ acted. b.failed ≡ false → Acts acted x y) → IfOk result (λ acted. count_failed (set held place b) ≡ count_failed held → Acts acted x y)
watched_acts held place a b x y (Ok acted) at not_failed acts = λ same.
    let sum = count_set held place a b at in
    let flag : one_if a.failed ≡ 0 = ap one_if not_failed in
    acts (one_none b.failed (omega (arith, sum, flag, same)))
watched_acts held place a b x y (Err e) at not_failed acts = tt

-- a pod of which a call failed keeps that

pub failed_none : (held : List HeldPod) → StayFailed held held
failed_none held place a b at_a at_b failed = subst (λ (p : HeldPod). p.failed ≡ true) (same_Some a b (sym at_a ∙ at_b)) failed

pub failed_at : (held new : List HeldPod) (place : ℕ) (a b : HeldPod) → slice_get held place ≡ Some a → a.failed ≡ false → new ≡ set held place b → StayFailed held new
failed_at held new place a b at not_failed is i p q at_p at_q failed = elim (get_set held b q place i (subst (λ (ps : List HeldPod). slice_get ps i ≡ Some q) is at_q)) [
  | inl here ↦
      let there : slice_get held i ≡ Some a = subst (λ (n : ℕ). slice_get held n ≡ Some a) (sym here.0) at in
      let same : p ≡ a = same_Some p a (sym at_p ∙ there) in
      let bad : true ≡ false = sym failed ∙ (ap (λ (x : HeldPod). x.failed) same ∙ not_failed) in
      cc (bad)
  | inr there ↦ subst (λ (x : HeldPod). x.failed ≡ true) (same_Some p q (sym at_p ∙ there.1)) failed
]

pub failed_then : (a b c : List HeldPod) → length b ≡ length a → StayFailed a b → StayFailed b c → StayFailed a c
failed_then a b c lengths first second place p q at_p at_q failed =
    let within : place < length a = slice_get_within a place p at_p in
    let found : slice_get b place ≡ Some (get_or b place p) = slice_get-get_or b place p (omega (arith, within, lengths)) in
    second place (get_or b place p) q found at_q (first place p (get_or b place p) at_p found failed)

-- The files of a pod's results are the scripted ones, from its first started step on.
use Rattle.std.proofs.Common.{◌≡◌, ◌≢◌, ℕ, List, [], ◌∷◌, Option, Some, None, Bool, true, false, ◌||◌, refl, sym, ◌∙◌, ap, subst, inl, inr, nat_eq, codes}
use Rattle.std.specs.Prelude.{bytes_eq, if◌then◌else◌}
use Rattle.std.specs.Map.{lookup}
use Rattle.std.specs.Option.{option_or}
use Rattle.std.proofs.lemmas.Bool.{cases_Bool}
use Rattle.std.proofs.lemmas.Slice.Eq.{bytes_eq-Decides}
use Rattle.tk_pod.specs.Exits.{passes}
use Rattle.tk_edge.specs.declared.event.Event.{Event}
use Rattle.tk_edge.specs.declared.event.Event.TheVariants as events
use Rattle.tk_edge.specs.declared.event.Arming.{Arming}
use Rattle.tk_edge.specs.declared.order.Order.{Order}
use Rattle.tk_edge.specs.Files.{broken, is_under}
use Rattle.tk_edge.specs.History.{IsTold, arming_of, order_of}
use Rattle.tk_edge.specs.Memory.{leaves, post_of}
use Rattle.tk_edge.proofs.InOrder.{arming_stays}
use Rattle.tk_script.specs.ScriptHost.{Scripts, has_begun, results_at, results_for, script_file}
use Rattle.tk_space.specs.Apart.{IsName}
use Rattle.tk_steps.specs.Paths.{result_path}
use Rattle.tk_play.specs.Own.{MayOwn, AreOwn}
use Rattle.tk_play.proofs.Own.{IsArmedAt, armed_at}
use Rattle.tk_play.proofs.Markers.{cleared_for, none_left}
use Rattle.tk_play.proofs.Paths.{same_inside, result_in, result_unput, result_unposted, result_unbroken}

-- a pod of which a step was started has an armed step
record HasArmed (name : List ℕ) (told : List Event) : Type 0 where
  child : ℕ
  arming : Arming
  armed : arming_of child told ≡ Some arming
  same : arming.order.pod ≡ name

armed_on : (name : List ℕ) (e : Event) (older : List Event) → IsTold (e ∷ older) → HasArmed name older → HasArmed name (e ∷ older)
armed_on name e older told has = record { child = has.child; arming = has.arming; armed = arming_stays has.child has.arming e older told.0 has.armed; same = has.same }

begun_armed : (root name : List ℕ) (told : List Event) → AreOwn root told → IsTold told → has_begun name told ≡ true → HasArmed name told
begun_armed root name [] own told begun = cc
begun_armed root name (events.Started child order ∷ older) own told begun = elim (cases_Bool (bytes_eq name order.pod)) [
  | inl hit ↦
      let may = own.0.may in
      record {
        child = child;
        arming = may.arming;
        armed = may.armed;
        same = ap (λ (o : Order). o.pod) (sym may.own_order) ∙ sym ((bytes_eq-Decides name order.pod).0 hit);
      }
  | inr miss ↦ armed_on name (events.Started child order) older told (begun_armed root name older own.1 told.1 (rw miss at begun))
]
begun_armed root name (events.Put path bytes answered ∷ older) own told begun = armed_on name (events.Put path bytes answered) older told (begun_armed root name older own.1 told.1 begun)
begun_armed root name (events.Cleared folder answered ∷ older) own told begun = armed_on name (events.Cleared folder answered) older told (begun_armed root name older own.1 told.1 begun)
begun_armed root name (events.Fetched path bytes ∷ older) own told begun = armed_on name (events.Fetched path bytes) older told (begun_armed root name older own.1 told.1 begun)
begun_armed root name (events.Armed child arming ∷ older) own told begun = armed_on name (events.Armed child arming) older told (begun_armed root name older own.1 told.1 begun)
begun_armed root name (events.Refused child ∷ older) own told begun = armed_on name (events.Refused child) older told (begun_armed root name older own.1 told.1 begun)
begun_armed root name (events.Exited child exit ∷ older) own told begun = armed_on name (events.Exited child exit) older told (begun_armed root name older own.1 told.1 begun)

-- a started child's pod has begun
pub order_begun : (told : List Event) (child : ℕ) (order : Order) → order_of child told ≡ Some order → has_begun order.pod told ≡ true
order_begun [] child order is = cc
order_begun (events.Started other first ∷ older) child order is = elim (cases_Bool (nat_eq child other)) [
  | inl hit ↦
      let now : Some first ≡ Some order = rw hit at is in
      let same : first ≡ order = cc in
      let here : bytes_eq order.pod first.pod ≡ true = (bytes_eq-Decides order.pod first.pod).1 (ap (λ (o : Order). o.pod) (sym same)) in
      rw here refl
  | inr miss ↦ or_true (bytes_eq order.pod first.pod) (has_begun order.pod older) (order_begun older child order (rw miss at is))
]
  where
    or_true : (a b : Bool) → b ≡ true → (a || b) ≡ true
    or_true true b is = refl
    or_true false b is = is
order_begun (events.Put path bytes answered ∷ older) child order is = order_begun older child order is
order_begun (events.Cleared folder answered ∷ older) child order is = order_begun older child order is
order_begun (events.Fetched path bytes ∷ older) child order is = order_begun older child order is
order_begun (events.Armed other arming ∷ older) child order is = order_begun older child order is
order_begun (events.Refused other ∷ older) child order is = order_begun older child order is
order_begun (events.Exited other exit ∷ older) child order is = order_begun older child order is

or_none : (o : Option (List ℕ)) → option_or o None ≡ o
or_none None = refl
or_none (Some x) = refl

module _ (scripts : Scripts) (name : List ℕ) (plain : IsName name) (no_claims : name ≢ codes "claims") (result : List ℕ) where
  abbrev root : List ℕ
  root = scripts.root

  abbrev path : List ℕ
  path = result_path root name result

  -- no entry leaves it
  unleft : (told : List Event) (child : ℕ) (exit : Option ℕ) → AreOwn root told → leaves path exit (arming_of child told) ≡ false
  unleft told child exit own = by_arming (arming_of child told) refl
    where
      by_path : (arming : Arming) → arming_of child told ≡ Some arming → path ≡ post_of exit arming → ⊥
      by_path arming armed is = by_exit exit is
        where
          at : IsArmedAt root arming
          at = armed_at root told child arming own armed

          by_pass : (passed : Bool) → path ≡ (if passed then arming.post else broken arming.post) → ⊥
          by_pass true same = result_unposted root name arming.order.pod plain at.plain result arming.order.step (same ∙ at.posts)
          by_pass false same = result_unbroken root name arming.order.pod plain at.plain result arming.order.step (same ∙ ap broken at.posts)

          by_exit : (x : Option ℕ) → path ≡ post_of x arming → ⊥
          by_exit (Some e) same = by_pass (passes arming.keep_going e) same
          by_exit None same = by_pass false same

      by_arming : (o : Option Arming) → arming_of child told ≡ o → leaves path exit o ≡ false
      by_arming None none = refl
      by_arming (Some arming) armed = elim (cases_Bool (bytes_eq path (post_of exit arming))) [
        | inl hit ↦ absurd (by_path arming armed ((bytes_eq-Decides path (post_of exit arming)).0 hit))
        | inr miss ↦ miss
      ]

  -- nothing puts it
  unput : (other bytes : List ℕ) (answered : Bool) (older : List Event) → MayOwn root (events.Put other bytes answered) older → bytes_eq path other ≡ false
  unput other bytes answered older own = elim (cases_Bool (bytes_eq path other)) [
    | inl hit ↦ absurd (result_unput root name own.name plain no_claims own.plan own.spaced result other bytes own.may.0 ((bytes_eq-Decides path other).0 hit))
    | inr miss ↦ miss
  ]

  -- the first start of another pod doesn't leave it
  other_start : (child : ℕ) (order : Order) (older : List Event) → MayOwn root (events.Started child order) older → bytes_eq name order.pod ≡ false → lookup (bytes_eq path) (results_at scripts order.pod older) ≡ None
  other_start child order older own miss =
      let pod : order.pod ≡ own.name = ap (λ (o : Order). o.pod) own.may.own_order ∙ own.may.same_pod in
      let far : IsName order.pod = subst IsName (sym pod) own.spaced.plain in
      none_left scripts path order.pod (λ key is.
      let same = (same_inside root name order.pod _ _ plain far (sym (result_in root name result) ∙ is)).0 in
      let hit : bytes_eq name order.pod ≡ true = (bytes_eq-Decides name order.pod).1 same in
      let bad : true ≡ false = sym hit ∙ miss in
      cc (bad)) older

  -- before the pod began there is none
  pub none_yet : (told : List Event) → AreOwn root told → has_begun name told ≡ false → script_file scripts path told ≡ None
  none_yet [] own begun = refl
  none_yet (events.Put other bytes true ∷ older) own begun = rw (unput other bytes true older own.0) (none_yet older own.1 begun)
  none_yet (events.Put other bytes false ∷ older) own begun = none_yet older own.1 begun
  none_yet (events.Cleared folder true ∷ older) own begun = elim (cases_Bool (is_under folder path)) [ inl hit ↦ rw hit refl | inr miss ↦ rw miss (none_yet older own.1 begun) ]
  none_yet (events.Cleared folder false ∷ older) own begun = none_yet older own.1 begun
  none_yet (events.Fetched other bytes ∷ older) own begun = none_yet older own.1 begun
  none_yet (events.Armed child arming ∷ older) own begun = none_yet older own.1 begun
  none_yet (events.Started child order ∷ older) own begun = elim (cases_Bool (bytes_eq name order.pod)) [
    | inl hit ↦ (let bad : true ≡ false = rw hit at begun in cc (bad))
    | inr miss ↦ rw (other_start child order older own.0 miss) (none_yet older own.1 (rw miss at begun))
  ]
  none_yet (events.Refused child ∷ older) own begun = rw (unleft older child None own.1) (none_yet older own.1 begun)
  none_yet (events.Exited child exit ∷ older) own begun = rw (unleft older child (Some exit) own.1) (none_yet older own.1 begun)

  -- from then on it is the scripted one
  pub is_scripted : (told : List Event) → AreOwn root told → IsTold told → has_begun name told ≡ true → script_file scripts path told ≡ lookup (bytes_eq path) (results_for scripts name)
  is_scripted [] own is_told begun = cc
  is_scripted (events.Put other bytes true ∷ older) own is_told begun = rw (unput other bytes true older own.0) (is_scripted older own.1 is_told.1 begun)
  is_scripted (events.Put other bytes false ∷ older) own is_told begun = is_scripted older own.1 is_told.1 begun
  is_scripted (events.Cleared folder true ∷ older) own is_told begun = elim (cases_Bool (is_under folder path)) [
    | inl hit ↦
        let has = begun_armed root name older own.1 is_told.1 begun in
        let by = cleared_for root name plain _ path folder older true own.0 (result_in root name result) hit in
        absurd (own.0.may.1 has.child has.arming has.armed (has.same ∙ by))
    | inr miss ↦ rw miss (is_scripted older own.1 is_told.1 begun)
  ]
  is_scripted (events.Cleared folder false ∷ older) own is_told begun = is_scripted older own.1 is_told.1 begun
  is_scripted (events.Fetched other bytes ∷ older) own is_told begun = is_scripted older own.1 is_told.1 begun
  is_scripted (events.Armed child arming ∷ older) own is_told begun = is_scripted older own.1 is_told.1 begun
  is_scripted (events.Started child order ∷ older) own is_told begun = elim (cases_Bool (bytes_eq name order.pod)) [
    | inl hit ↦ subst (λ (pod : List ℕ). option_or (lookup (bytes_eq path) (results_at scripts pod older)) (script_file scripts path older) ≡ lookup (bytes_eq path) (results_for scripts name)) ((bytes_eq-Decides name order.pod).0 hit) (own_start (has_begun name older) refl (λ is. is_scripted older own.1 is_told.1 is))
    | inr miss ↦ rw (other_start child order older own.0 miss) (is_scripted older own.1 is_told.1 (rw miss at begun))
  ]
    where
      own_start : (b : Bool) → has_begun name older ≡ b → (has_begun name older ≡ true → script_file scripts path older ≡ lookup (bytes_eq path) (results_for scripts name)) → option_or (lookup (bytes_eq path) (results_at scripts name older)) (script_file scripts path older) ≡ lookup (bytes_eq path) (results_for scripts name)
      own_start true is rest = rw is (rest is)
      own_start false is rest = rw (is, none_yet older own.1 is) (or_none (lookup (bytes_eq path) (results_for scripts name)))
  is_scripted (events.Refused child ∷ older) own is_told begun = rw (unleft older child None own.1) (is_scripted older own.1 is_told.1 begun)
  is_scripted (events.Exited child exit ∷ older) own is_told begun = rw (unleft older child (Some exit) own.1) (is_scripted older own.1 is_told.1 begun)

-- What a host's history says where each event is one that may be for a pod with its own place.
use Rattle.std.proofs.Common.{◌≡◌, ℕ, ◌<◌, ◌≤◌, ◌^◌, List, [], ◌∷◌, ◌++◌, length, Some, refl, sym, ◌∙◌, ap, subst, inl, inr, arith, nat_eq, slice_get}
use Rattle.std.proofs.lemmas.Bool.{cases_Bool}
use Rattle.std.proofs.lemmas.Option.{same_Some, slice_get_within}
use Rattle.tk_edge.specs.declared.event.Event.{Event}
use Rattle.tk_edge.specs.declared.event.Event.TheVariants as events
use Rattle.tk_edge.specs.declared.event.Arming.{Arming}
use Rattle.tk_edge.specs.declared.order.Order.{Order}
use Rattle.tk_edge.specs.History.{GoesOn, IsTold, arming_of, exit_of, order_of}
use Rattle.tk_edge.proofs.InOrder.{arming_stays, order_stays, exit_stays}
use Rattle.tk_space.specs.Apart.{IsName}
use Rattle.tk_journal.specs.declared.object.Plan.{Plan}
use Rattle.tk_steps.specs.declared.held.HeldPod.{HeldPod}
use Rattle.tk_steps.specs.Held.{IsPlanOf}
use Rattle.tk_steps.specs.May.{IsOwnArming, Adds}
use Rattle.tk_steps.specs.Paths.{wait_path, post_path}
use Rattle.tk_steps.proofs.Adds.{adds_keep}
use Rattle.tk_held.specs.Pods.{MayAny}
use Rattle.tk_script.specs.ScriptHost.{Scripts, RefuseAsScripted}
use Rattle.tk_machine.specs.Kills.{BrokeBefore}
use Rattle.tk_play.specs.Own.{IsSpaced, MayOwn, AreOwn}

-- an entry is armed as a step of its pod, with the step's files
pub record IsArmedAt (root : List ℕ) (arming : Arming) : Type 0 where
  pub plain : IsName arming.order.pod
  pub small : arming.order.step < 2 ^ 32
  pub waits : arming.wait ≡ wait_path root arming.order.pod arming.order.step
  pub posts : arming.post ≡ post_path root arming.order.pod arming.order.step

armed_so : (root name : List ℕ) (plan : Plan) (arming : Arming) → IsPlanOf name plan → IsSpaced root name plan → IsOwnArming root name plan arming → IsArmedAt root arming
armed_so root name plan arming planned spaced own =
    let within : arming.order.step < length plan.orders = slice_get_within plan.orders arming.order.step arming.order own.own_order in
    let few : length plan.orders ≤ 32 = planned.few in
    record {
      plain = subst IsName (sym own.same_pod) spaced.plain;
      small = omega (arith, within, few);
      waits = own.waits ∙ ap (λ (n : List ℕ). wait_path root n arming.order.step) (sym own.same_pod);
      posts = own.posts ∙ ap (λ (n : List ℕ). post_path root n arming.order.step) (sym own.same_pod);
    }

pub armed_at : (root : List ℕ) (told : List Event) (child : ℕ) (arming : Arming) → AreOwn root told → arming_of child told ≡ Some arming → IsArmedAt root arming
armed_at root [] child arming own is = cc
armed_at root (events.Armed other first ∷ older) child arming own is = elim (cases_Bool (nat_eq child other)) [
  | inl hit ↦
      let now : Some first ≡ Some arming = rw hit at is in
      subst (IsArmedAt root) (same_Some first arming now) (armed_so root own.0.name own.0.plan first own.0.planned own.0.spaced own.0.may.1)
  | inr miss ↦ armed_at root older child arming own.1 (rw miss at is)
]
armed_at root (_ ∷ older) child arming own is = armed_at root older child arming own.1 is

-- older parts of a history

pub own_older : (root : List ℕ) (since old : List Event) → AreOwn root (since ++ old) → AreOwn root old
own_older root [] old own = own
own_older root (e ∷ since) old own = own_older root since old own.1

pub own_before : (root : List ℕ) (old new : List Event) → GoesOn old new → AreOwn root new → AreOwn root old
own_before root old new goes own = own_older root goes.since old (subst (AreOwn root) goes.is own)

refuse_older : (scripts : Scripts) (since old : List Event) → RefuseAsScripted scripts (since ++ old) → RefuseAsScripted scripts old
refuse_older scripts [] old refuses = refuses
refuse_older scripts (e ∷ since) old refuses = refuse_older scripts since old refuses.1

pub refuse_before : (scripts : Scripts) (old new : List Event) → GoesOn old new → RefuseAsScripted scripts new → RefuseAsScripted scripts old
refuse_before scripts old new goes refuses = refuse_older scripts goes.since old (subst (RefuseAsScripted scripts) goes.is refuses)

-- what is told of children stays

arming_since : (since old : List Event) → IsTold (since ++ old) → (child : ℕ) (arming : Arming) → arming_of child old ≡ Some arming → arming_of child (since ++ old) ≡ Some arming
arming_since [] old told child arming is = is
arming_since (e ∷ since) old told child arming is = arming_stays child arming e (since ++ old) told.0 (arming_since since old told.1 child arming is)

pub arming_later : (old new : List Event) → GoesOn old new → IsTold new → (child : ℕ) (arming : Arming) → arming_of child old ≡ Some arming → arming_of child new ≡ Some arming
arming_later old new goes told child arming is =
    subst (λ (h : List Event). arming_of child h ≡ Some arming) (sym goes.is) (arming_since goes.since old (subst IsTold goes.is told) child arming is)

order_since : (since old : List Event) → IsTold (since ++ old) → (child : ℕ) (order : Order) → order_of child old ≡ Some order → order_of child (since ++ old) ≡ Some order
order_since [] old told child order is = is
order_since (e ∷ since) old told child order is = order_stays child order e (since ++ old) told.0 (order_since since old told.1 child order is)

pub order_later : (old new : List Event) → GoesOn old new → IsTold new → (child : ℕ) (order : Order) → order_of child old ≡ Some order → order_of child new ≡ Some order
order_later old new goes told child order is =
    subst (λ (h : List Event). order_of child h ≡ Some order) (sym goes.is) (order_since goes.since old (subst IsTold goes.is told) child order is)

exit_since : (since old : List Event) → IsTold (since ++ old) → (child exit : ℕ) → exit_of child old ≡ Some exit → exit_of child (since ++ old) ≡ Some exit
exit_since [] old told child exit is = is
exit_since (e ∷ since) old told child exit is = exit_stays child exit e (since ++ old) told.0 (exit_since since old told.1 child exit is)

pub exit_later : (old new : List Event) → GoesOn old new → IsTold new → (child exit : ℕ) → exit_of child old ≡ Some exit → exit_of child new ≡ Some exit
exit_later old new goes told child exit is =
    subst (λ (h : List Event). exit_of child h ≡ Some exit) (sym goes.is) (exit_since goes.since old (subst IsTold goes.is told) child exit is)

pub broke_later : (keep : ℕ) (pod : List ℕ) (step : ℕ) (old new : List Event) → GoesOn old new → IsTold new → BrokeBefore keep pod step old → BrokeBefore keep pod step new
broke_later keep pod step old new goes told (earlier, below, s) = (
  earlier,
  below,
  record {
    child = s.child;
    order = s.order;
    started = order_later old new goes told s.child s.order s.started;
    same_pod = s.same_pod;
    same_step = s.same_step;
    exit = s.exit;
    exited = exit_later old new goes told s.child s.exit s.exited;
    broke = s.broke;
  },
)

-- histories go on

pub goes_same : (old : List Event) → GoesOn old old
goes_same old = record { since = []; is = refl }

pub goes_one : (e : Event) (old : List Event) → GoesOn old (e ∷ old)
goes_one e old = record { since = e ∷ []; is = refl }

append_all : (xs ys zs : List Event) → (xs ++ ys) ++ zs ≡ xs ++ (ys ++ zs)
append_all [] ys zs = refl
append_all (x ∷ xs) ys zs = ap (λ (rest : List Event). x ∷ rest) (append_all xs ys zs)

pub goes_then : (a b c : List Event) → GoesOn a b → GoesOn b c → GoesOn a c
goes_then a b c first second = record {
  since = second.since ++ first.since;
  is = second.is ∙ (ap (λ (h : List Event). second.since ++ h) first.is ∙ sym (append_all second.since first.since a));
}

-- what is added for held pods with their own places is of the kubelet's own

pub own_adds : (root : List ℕ) (held : List HeldPod) (told now : List Event)
    → ((place : ℕ) (pod : HeldPod) → slice_get held place ≡ Some pod → IsPlanOf pod.name pod.plan × IsSpaced root pod.name pod.plan)
    → Adds (MayAny root held) told now → AreOwn root told → AreOwn root now
own_adds root held told now each adds own =
    adds_keep (MayAny root held) (λ (h : List Event). AreOwn root h) (λ e h any before. (own_one e h any, before)) told now adds own
  where
    own_one : (e : Event) (h : List Event) → MayAny root held e h → MayOwn root e h
    own_one e h any =
        let both = each any.place any.pod any.at in
        record { name = any.pod.name; plan = any.pod.plan; planned = both.0; spaced = both.1; may = any.may }

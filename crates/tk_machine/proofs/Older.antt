-- An older part of a host's history that is in order.
use Rattle.std.proofs.Common.{◌≡◌, ℕ, List, [], ◌∷◌, ◌++◌, Some, Bool, subst}
use Rattle.tk_edge.specs.declared.event.Event.{Event as HostEvent}
use Rattle.tk_edge.specs.declared.event.Event.TheVariants as events
use Rattle.tk_edge.specs.declared.event.Arming.{Arming}
use Rattle.tk_edge.specs.History.{IsTold, GoesOn, arming_of}
use Rattle.tk_edge.specs.InOrder.{Pods, AreStartsDue, AreStartsArmed, IsKept}
use Rattle.tk_edge.proofs.InOrder.{arming_stays}
use Rattle.tk_machine.specs.Hosts.{layout}
use Rattle.tk_machine.specs.Prompt.{IsArmedInOrder}

older_told : (since old : List HostEvent) → IsTold (since ++ old) → IsTold old
older_told [] old told = told
older_told (e ∷ since) old told = older_told since old told.1

older_due : (pods : Pods) (since old : List HostEvent) → AreStartsDue pods (since ++ old) → AreStartsDue pods old
older_due pods [] old due = due
older_due pods (events.Started child order ∷ since) old due = older_due pods since old due.2
older_due pods (e ∷ since) old due = older_due pods since old due

older_starts : (since old : List HostEvent) → AreStartsArmed (since ++ old) → AreStartsArmed old
older_starts [] old starts = starts
older_starts (events.Started child order ∷ since) old starts = older_starts since old starts.1
older_starts (e ∷ since) old starts = older_starts since old starts

-- an armed entry still is
pub armed_later : (since old : List HostEvent) → IsTold (since ++ old) → (child : ℕ) (arming : Arming) → arming_of child old ≡ Some arming → arming_of child (since ++ old) ≡ Some arming
armed_later [] old told child arming is = is
armed_later (e ∷ since) old told child arming is = arming_stays child arming e (since ++ old) told.0 (armed_later since old told.1 child arming is)

pub older_in_order : (killed : ℕ → Bool) (pods : Pods) (since old : List HostEvent) → IsKept layout killed pods (since ++ old) → IsArmedInOrder pods old
older_in_order killed pods since old kept = record {
  told = older_told since old kept.told;
  due = older_due pods since old kept.in_order.due;
  starts = older_starts since old kept.armed.starts;
  each = λ child arming is. kept.armed.each child arming (armed_later since old kept.told child arming is);
}

-- the same, of a history that goes on from it
pub before_in_order : (killed : ℕ → Bool) (pods : Pods) (old new : List HostEvent) → GoesOn old new → IsKept layout killed pods new → IsArmedInOrder pods old
before_in_order killed pods old new goes kept = older_in_order killed pods goes.since old (subst (IsKept layout killed pods) goes.is kept)

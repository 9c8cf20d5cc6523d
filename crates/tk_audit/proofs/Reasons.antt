-- The first reason, from what the entry met before it.
use Rattle.std.proofs.Common.{◌≡◌, ℕ, ◌<◌, ◌≤◌, List, arith}
use Rattle.tk_journal.specs.declared.entry.Entry.{Entry}
use Rattle.tk_audit.specs.declared.why.Why.{Why}
use Rattle.tk_audit.specs.declared.why.Why.TheVariants as whys
use Rattle.tk_time.specs.Moment.{last_moment}
use Rattle.tk_audit.specs.Audit.{Keeps, Meets, rank, IsAudited, IsReason}

-- what an entry met of the reasons before one
pub record Before (older : List Entry) (e : Entry) (n : ℕ) : Type 0 where
  pub late : 0 < n → Keeps whys.Late older e
  pub front : 1 < n → Keeps whys.Front older e
  pub unsound : 2 < n → Keeps whys.Unsound older e
  pub taken : 3 < n → Keeps whys.Taken older e
  pub absent : 4 < n → Keeps whys.Absent older e
  pub moved : 5 < n → Keeps whys.Moved older e

module _ (older : List Entry) (e : Entry) where
  met : (n : ℕ) → n ≤ 6 → Before older e n → (other : Why) → rank other < n → Meets other older e
  met n few before whys.Late less = (before.late less, tt)
  met n few before whys.Front less = (before.front less, tt)
  met n few before whys.Unsound less = (before.unsound less, tt)
  met n few before whys.Taken less = (before.taken less, tt)
  met n few before whys.Absent less = (before.absent less, tt)
  met n few before whys.Moved less = (before.moved less, tt)
  met n few before whys.Row less = absurd (omega (arith, less, few))

  pub late : (Keeps whys.Late older e → ⊥) → IsReason older e whys.Late
  late fails = record { earlier = λ other less. absurd (omega (arith, less)); fails = λ meets. fails meets.0 }

  pub front : Keeps whys.Late older e → (Keeps whys.Front older e → ⊥) → IsReason older e whys.Front
  front a fails = record {
    earlier = met 1 (omega arith) record { late = λ l. a; front = λ l. absurd (omega (arith, l)); unsound = λ l. absurd (omega (arith, l)); taken = λ l. absurd (omega (arith, l)); absent = λ l. absurd (omega (arith, l)); moved = λ l. absurd (omega (arith, l)) };
    fails = λ meets. fails meets.0;
  }

  pub unsound : Keeps whys.Late older e → Keeps whys.Front older e → (Keeps whys.Unsound older e → ⊥) → IsReason older e whys.Unsound
  unsound a b fails = record {
    earlier = met 2 (omega arith) record { late = λ l. a; front = λ l. b; unsound = λ l. absurd (omega (arith, l)); taken = λ l. absurd (omega (arith, l)); absent = λ l. absurd (omega (arith, l)); moved = λ l. absurd (omega (arith, l)) };
    fails = λ meets. fails meets.0;
  }

  pub taken : Keeps whys.Late older e → Keeps whys.Front older e → Keeps whys.Unsound older e → (Keeps whys.Taken older e → ⊥) → IsReason older e whys.Taken
  taken a b c fails = record {
    earlier = met 3 (omega arith) record { late = λ l. a; front = λ l. b; unsound = λ l. c; taken = λ l. absurd (omega (arith, l)); absent = λ l. absurd (omega (arith, l)); moved = λ l. absurd (omega (arith, l)) };
    fails = λ meets. fails meets.0;
  }

  pub absent : Keeps whys.Late older e → Keeps whys.Front older e → Keeps whys.Unsound older e → Keeps whys.Taken older e → (Keeps whys.Absent older e → ⊥) → IsReason older e whys.Absent
  absent a b c d fails = record {
    earlier = met 4 (omega arith) record { late = λ l. a; front = λ l. b; unsound = λ l. c; taken = λ l. d; absent = λ l. absurd (omega (arith, l)); moved = λ l. absurd (omega (arith, l)) };
    fails = λ meets. fails meets.0;
  }

  pub moved : Keeps whys.Late older e → Keeps whys.Front older e → Keeps whys.Unsound older e → Keeps whys.Taken older e → Keeps whys.Absent older e → (Keeps whys.Moved older e → ⊥) → IsReason older e whys.Moved
  moved a b c d f fails = record {
    earlier = met 5 (omega arith) record { late = λ l. a; front = λ l. b; unsound = λ l. c; taken = λ l. d; absent = λ l. f; moved = λ l. absurd (omega (arith, l)) };
    fails = λ meets. fails meets.0;
  }

  pub row : Keeps whys.Late older e → Keeps whys.Front older e → Keeps whys.Unsound older e → Keeps whys.Taken older e → Keeps whys.Absent older e → Keeps whys.Moved older e → (Meets whys.Row older e → ⊥) → IsReason older e whys.Row
  row a b c d f g fails = record {
    earlier = met 6 (omega arith) record { late = λ l. a; front = λ l. b; unsound = λ l. c; taken = λ l. d; absent = λ l. f; moved = λ l. g };
    fails = fails;
  }

  pub audited : Keeps whys.Late older e → Keeps whys.Front older e → Keeps whys.Unsound older e → Keeps whys.Taken older e → Keeps whys.Absent older e → Keeps whys.Moved older e → Meets whys.Row older e → IsAudited older e
  audited a b c d f g h whys.Late = (a, tt)
  audited a b c d f g h whys.Front = (b, tt)
  audited a b c d f g h whys.Unsound = (c, tt)
  audited a b c d f g h whys.Taken = (d, tt)
  audited a b c d f g h whys.Absent = (f, tt)
  audited a b c d f g h whys.Moved = (g, tt)
  audited a b c d f g h whys.Row = h

-- What the status of an entrypoint's program tells.
use Rattle.std.specs.Prelude.{◌≡◌, ◌⊎◌, ◌<◌, ◌-◌, ◌^◌, Bool}
use Rattle.tk_edge.specs.declared.order.Order.{Order}
use Rattle.tk_enter.specs.declared.words.EntryWords.{EntryWords}
use Rattle.tk_enter.specs.declared.entering.Ended.{Ended}
use Rattle.tk_enter.specs.declared.entering.Ended.TheVariants as ways
use Rattle.tk_enter.specs.Enter.{Moment, Finishes, refused, status}

-- a status is that of one end, and never that of usage
abbrev pub StatusTellsEnd : Type 0
StatusTellsEnd = (one other : Ended) → status one ≡ status other → one ≡ other

abbrev pub NoEndIsUsage : Type 0
NoEndIsUsage = (end : Ended) → status end ≡ 2 → ⊥

-- Of one host two ends can be told only where memory ran out, or where nothing was done but that the file with `.err` was left:
-- then a refusal and a cancel before the start leave the same.
abbrev pub EndsAreApart : Type 0
EndsAreApart =
    (w : EntryWords) (order : Order) (gone : Bool) (first last : Moment) (one other : Ended) → first.faults < 2 ^ 64 - 1 →
    Finishes w order gone first last one → Finishes w order gone first last other →
    (one ≡ other) ⊎ (one ≡ ways.Memory) ⊎ (other ≡ ways.Memory) ⊎ (last.told ≡ refused w first.told)

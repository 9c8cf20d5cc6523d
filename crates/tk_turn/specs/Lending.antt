-- What a held state is after a write through `Held::state`.
use Rattle.std.specs.Borrow.{Lends, MutBor, Fml}
use denote.RattleType.{RattleType}
use Rattle.tk_turn.specs.Claims.{HeldValue}
use Rattle.tk_turn.specs.contracts.held.Held.{the_row}

-- the same turn with another state
abbrev pub with_state : {S : Type 0} → HeldValue S → S → HeldValue S
with_state h x = record { state = x; lock = h.lock; claim = h.claim }

-- what is written through the reference is the held state, and all else of it stays
abbrev pub LendsState : (R : RattleType) → MutBor (HeldValue R.Denot) → MutBor R.Denot → Fml
LendsState R h r = Lends (the_row R) R h r (with_state h.now)

-- How reads of an input are counted.
use Rattle.std.specs.Prelude.{◌≡◌, ℕ, Result, MatchResult}
use Rattle.tk_edge.specs.Causes.{raised}
use Rattle.tk_commands.specs.declared.input.Unread.{Unread}
use Rattle.tk_commands.specs.declared.input.Unread.TheVariants as unread

-- the count of a source's faults where its input isn't read: one more where a read failed, and as it was where not
abbrev pub CountsUnread : ℕ → ℕ → Unread → Type 0
CountsUnread before now unread.Failed = now ≡ raised before
CountsUnread before now unread.TooLong = now ≡ before
CountsUnread before now unread.Memory = now ≡ before

-- and where its input is read or not
abbrev pub CountsReads : {T : Type 0} → ℕ → ℕ → Result T Unread → Type 0
CountsReads before now result = MatchResult result (λ _. now ≡ before) (CountsUnread before now)

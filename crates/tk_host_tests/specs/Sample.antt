-- A journal of pairs, an owner and a value, and what the turns of one owner add to it.
use Rattle.std.specs.Prelude.{ℕ, zero, suc, List, [], ◌∷◌, ◌++◌}
use base.Stored.{coded_ℕ}
use Rattle.tk_turn.specs.Claims.{Note}

-- a pair, as the lock sees it
abbrev pub note_of : ℕ × ℕ → Note
note_of e = record { owner = e.0; body = coded_ℕ.code e.1 }

-- so many entries of an owner, with the values 0, 1, 2 and so on
abbrev pub numbered : ℕ → ℕ → List Note
numbered owner zero = []
numbered owner (suc n) = numbered owner n ++ note_of (owner, n) ∷ []

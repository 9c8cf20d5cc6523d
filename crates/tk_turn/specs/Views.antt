-- What a seat of the lock's table knows. Each pass has a seat, and so has each held state.
use Rattle.std.specs.Prelude.{◌≡◌, ℕ, ◌%◌, ◌^◌, cond, eqb, List, [], ◌∷◌, Option, None, refl}
use Rattle.std.specs.Coded.{code_by}
use base.Stored.{Coded, coded×, coded_ℕ, coded_list}
use Rattle.atomic_table.specs.Table.{Me}
use Rattle.tk_turn.specs.Claims.{Claim, claim_coded, alone, joined}

-- where a seat is: out of line, in line with a ticket, in its turn with a ticket, or taken into another by a join
pub data Stage : Type 0 where
  idle : Stage
  waits : ℕ → Stage
  turn : ℕ → Stage
  spent : Stage

-- a stage, as two numbers
abbrev pub stage_to : Stage → ℕ × ℕ
stage_to idle = (0, 0)
stage_to (waits t) = (1, t)
stage_to (turn t) = (2, t)
stage_to spent = (3, 0)

-- the stage that two numbers stand for
abbrev pub stage_of : ℕ × ℕ → Stage
stage_of p = cond (eqb p.0 0) idle (cond (eqb p.0 1) (waits p.1) (cond (eqb p.0 2) (turn p.1) spent))

-- the numbers of a stage stand for it
pub stage_back : (s : Stage) → stage_of (stage_to s) ≡ s
stage_back idle = refl
stage_back (waits t) = refl
stage_back (turn t) = refl
stage_back spent = refl

-- stages, as plain data
abbrev pub stage_coded : Coded Stage
stage_coded = code_by (ℕ × ℕ) (coded× coded_ℕ coded_ℕ) stage_to stage_of stage_back

-- what a seat knows: where it is, its pass, and the claims that a join put together here, until the next look tells how the list follows them
pub record SeatView : Type 0 where
  pub stage : Stage
  pub claim : Claim
  pub sources : List Claim

-- a seat of which no join has to be told
abbrev pub seat_view : Stage → Claim → SeatView
seat_view s c = record { stage = s; claim = c; sources = [] }

-- a seat that took another in
abbrev pub merged : SeatView → SeatView → SeatView
merged p q = record { stage = p.stage; claim = joined p.claim q.claim; sources = p.claim ∷ q.claim ∷ [] }

-- seats, as plain data
abbrev pub seat_view_coded : Coded SeatView
seat_view_coded =
    code_by (Stage × (Claim × List Claim)) (coded× stage_coded (coded× claim_coded (coded_list claim_coded))) (λ p. (p.stage, (p.claim, p.sources)))
    (λ p. record { stage = p.0; claim = p.1.0; sources = p.1.1 }) (λ _. refl)

-- a seat that was taken into another
abbrev pub nobody : SeatView
nobody = seat_view spent (alone [] 0)

-- the claim of a pass, whose seat is the only one of the list
abbrev pub claim_in : List SeatView → Claim
claim_in [] = alone [] 0
claim_in (p ∷ ps) = p.claim

-- the list has one seat, which is out of line
abbrev pub IsIdle : List SeatView → Type 0
IsIdle ps = (c : Claim) × (ps ≡ seat_view idle c ∷ [])

-- a seat in its turn, whose slot is out of the table and empty, and its ticket, as the word has it
abbrev pub HasTurn : {S : Type 0} → Me (Option S) SeatView → ℕ → Type 0
HasTurn {S} me ticket = (c : Claim) × (t : ℕ) × (me ≡ (seat_view (turn t) c, (0, None) ∷ [])) × (ticket ≡ t % 2 ^ 64)

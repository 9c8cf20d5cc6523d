-- The rule of the turn lock, in its own words. What the steps keep (`IsKept`) implies all of this.
-- A seat's ticket is a number without a bound. The words have it modulo 2 ^ 64.
use Rattle.std.specs.Prelude.{◌≡◌, ℕ, ◌+◌, ◌%◌, ◌^◌, ◌<◌, ◌≤◌, true, false, eqb, List, [], ◌∷◌, length, Option, Some, slice_index}
use Rattle.std.specs.List.{list_any}
use mathlib.Core.Option.{some, none}
use lib.ListN.{get_elem?}
use Rattle.atomic_table.specs.Table.{State}
use Rattle.tk_turn.specs.Claims.{Note, Begins, Follows}
use Rattle.tk_turn.specs.Views.{Stage, idle, waits, turn, spent, SeatView}
use Rattle.tk_turn.specs.Turns.{total, in_line, live, IsLive, IsSeated, SomeSawAll}

-- the seat has the ticket u
abbrev pub HasTicket : Stage → ℕ → Type 0
HasTicket idle u = ⊥
HasTicket (waits t) u = t ≡ u
HasTicket (turn t) u = t ≡ u
HasTicket spent u = ⊥

-- the seat is in its turn
abbrev pub HasTurnNow : Stage → Type 0
HasTurnNow idle = ⊥
HasTurnNow (waits t) = ⊥
HasTurnNow (turn t) = Unit {0}
HasTurnNow spent = ⊥

-- the seat i is there and knows p
abbrev pub HasView : {S : Type 0} → State (Option S) SeatView → ℕ → SeatView → Type 0
HasView s i p = get_elem? s.views i ≡ some p

-- what stands whenever no step is under way
pub record TurnRule {S : Type 0} (journal : S → List Note) (s : State (Option S) SeatView) : Type 0 where
  -- the longest list
  pub log : List Note
  -- the number served, and as many as there are seats in line, are the number drawn
  pub counts : (slice_index s.words 1 + total in_line s.views) % 2 ^ 64 ≡ slice_index s.words 0
  -- there are few seats
  pub few : total live s.views ≤ 2 ^ 32 + 1
  -- no two seats have tickets that look the same
  pub differ : (i j t u : ℕ) (p q : SeatView) → HasView s i p → HasView s j q → HasTicket p.stage t → HasTicket q.stage u → t % 2 ^ 64 ≡ u % 2 ^ 64 → i ≡ j
  -- each ticket is the number served plus less than there are seats in line
  pub near : (i t : ℕ) (p : SeatView) → HasView s i p → HasTicket p.stage t
      → (k : ℕ) × (k < total in_line s.views) × (t % 2 ^ 64 ≡ (slice_index s.words 1 + k) % 2 ^ 64)
  -- in its turn a seat has the ticket that is served
  pub served : (i t : ℕ) (p : SeatView) → HasView s i p → p.stage ≡ turn t → t % 2 ^ 64 ≡ slice_index s.words 1
  -- some seat has seen the longest list, what each has seen begins it, and its length is known
  pub longest : SomeSawAll s.views log
  pub prefixes : (i : ℕ) (p : SeatView) → HasView s i p → IsLive p.stage → Begins p.claim.seen log
  pub counted : slice_index s.words 2 ≡ length log
  -- at home the state has the longest list, and in its turn a seat has seen it and has the state
  pub home : (x : S) → s.homes ≡ some (Some x) ∷ [] → journal x ≡ log
  pub holder : (i t : ℕ) (p : SeatView) → HasView s i p → p.stage ≡ turn t → (p.claim.seen ≡ log) × (s.homes ≡ none ∷ [])
  -- one seat at most is in its turn, and one is where the state isn't at home
  pub only : (i j t u : ℕ) (p q : SeatView) → HasView s i p → HasView s j q → p.stage ≡ turn t → q.stage ≡ turn u → i ≡ j
  pub out : s.homes ≡ none ∷ [] → (i : ℕ) × (p : SeatView) × HasView s i p × HasTurnNow p.stage
  -- one live seat is the first pass's. The others own just the numbers that it has lent
  pub first : (i : ℕ) × (p : SeatView) × HasView s i p × IsLive p.stage × (p.claim.first ≡ true)
      × ((j : ℕ) (q : SeatView) → HasView s j q → IsLive q.stage → q.claim.first ≡ true → j ≡ i)
      × ((n : ℕ) → list_any (eqb n) p.claim.lent ≡ true → (j : ℕ) × IsSeated s.views j false n)
      × ((j n : ℕ) → IsSeated s.views j false n → list_any (eqb n) p.claim.lent ≡ true)
  -- no two of them own one number, and each number is below 2 ^ 32
  pub numbers : (i j n : ℕ) → IsSeated s.views i false n → IsSeated s.views j false n → i ≡ j
  pub small : (i n : ℕ) → IsSeated s.views i false n → n < 2 ^ 32
  -- what a seat hasn't seen is of owners that it doesn't own
  pub others : (i : ℕ) (p : SeatView) → HasView s i p → IsLive p.stage → Follows p.claim log

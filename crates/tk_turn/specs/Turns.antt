-- The rule of the lock's table, and what each step on it tells.
-- Word 0 counts the tickets that were drawn and word 1 those that were served, both modulo 2 ^ 64. Word 2 is the length
-- of the journal. The slot has the state.
use Rattle.std.specs.Prelude.{◌≡◌, ◌≢◌, ℕ, ◌+◌, ◌%◌, ◌^◌, ◌<◌, ◌≤◌, ◌⊎◌, Bool, true, false, eqb, List, [], ◌∷◌, length, Option, Some}
use Rattle.std.specs.List.{list_any}
use mathlib.Core.Option.{some, none}
use mathlib.Core.Option as maybe
use lib.ListN.{get_elem?}
use Rattle.atomic_table.specs.Table.{State, Me}
use Rattle.tk_turn.specs.Claims.{Note, Claim, Distinct, saw, Follows}
use Rattle.tk_turn.specs.Views.{Stage, idle, waits, turn, spent, SeatView, seat_view}

-- a count over the stages of all seats
abbrev pub total : (Stage → ℕ) → List SeatView → ℕ
total f [] = 0
total f (p ∷ ps) = f p.stage + total f ps

-- 1 where the seat has a ticket
abbrev pub in_line : Stage → ℕ
in_line idle = 0
in_line (waits t) = 1
in_line (turn t) = 1
in_line spent = 0

-- 1 unless the seat was taken into another
abbrev pub live : Stage → ℕ
live idle = 1
live (waits t) = 1
live (turn t) = 1
live spent = 0

-- the seat wasn't taken into another
abbrev pub IsLive : Stage → Type 0
IsLive idle = Unit {0}
IsLive (waits t) = Unit {0}
IsLive (turn t) = Unit {0}
IsLive spent = ⊥

-- what no seat knows: how many tickets were served and drawn, which seat has each ticket in line and each lent number, which seat is the first
-- pass's, which numbers it has lent, and the journal
pub record Book : Type 0 where
  pub served : ℕ
  pub drawn : ℕ
  pub queue : ℕ → ℕ
  pub seats : ℕ → ℕ
  pub first_pass : ℕ
  pub lent : List ℕ
  pub log : List Note

-- the journal follows each of the claims
abbrev pub FollowsEach : List Claim → List Note → Type 0
FollowsEach [] journal = Unit {0}
FollowsEach (c ∷ cs) journal = Follows c journal × FollowsEach cs journal

module _ {S : Type 0} where
  -- a seat in line has a ticket that is drawn and not served; in its turn the next one, with the whole journal seen and the slot out
  abbrev pub InLine : Book → List (maybe.Option (Option S)) → ℕ → Claim → Stage → Type 0
  InLine b homes i c idle = Unit {0}
  InLine b homes i c (waits t) = (b.served ≤ t) × (t < b.drawn) × (b.queue t ≡ i)
  InLine b homes i c (turn t) = (b.served ≡ t) × (t < b.drawn) × (b.queue t ≡ i) × (c.seen ≡ b.log) × (homes ≡ none ∷ [])
  InLine b homes i c spent = Unit {0}

-- a seat is the first pass's and has lent what the book says, or its number is lent to it
abbrev pub HasRights : Book → ℕ → Claim → Bool → Type 0
HasRights b i c true = (i ≡ b.first_pass) × (c.lent ≡ b.lent)
HasRights b i c false = (b.seats c.owner ≡ i) × (list_any (eqb c.owner) b.lent ≡ true)

-- what the rule says of one seat
pub record Fits {S : Type 0} (b : Book) (homes : List (maybe.Option (Option S))) (i : ℕ) (p : SeatView) : Type 0 where
  pub line : InLine b homes i p.claim p.stage
  pub sees : IsLive p.stage → Follows p.claim b.log
  pub rights : IsLive p.stage → HasRights b i p.claim p.claim.first
  pub joins : FollowsEach p.sources p.claim.seen

-- a live seat is there, which is or isn't the first pass's, with this number
abbrev pub IsSeated : List SeatView → ℕ → Bool → ℕ → Type 0
IsSeated views i first owner = (p : SeatView) × (get_elem? views i ≡ some p) × IsLive p.stage × (p.claim.first ≡ first) × (p.claim.owner ≡ owner)

-- some live seat has seen the whole journal
abbrev pub SomeSawAll : List SeatView → List Note → Type 0
SomeSawAll views log = (i : ℕ) × (p : SeatView) × (get_elem? views i ≡ some p) × IsLive p.stage × (p.claim.seen ≡ log)

module _ {S : Type 0} (journal : S → List Note) where
  -- the state is at home and has the journal, or a seat in its turn has it
  abbrev pub IsPlaced : Book → State (Option S) SeatView → Type 0
  IsPlaced b s =
      ((x : S) × (s.homes ≡ some (Some x) ∷ []) × (journal x ≡ b.log))
      ⊎ ((i t : ℕ) × (c : Claim) × (get_elem? s.views i ≡ some (seat_view (turn t) c)))

  -- what every step keeps: there is a book that the words, the seats and the slot fit
  pub record IsKept (s : State (Option S) SeatView) : Type 0 where
    pub book : Book
    pub words : s.words ≡ book.drawn % 2 ^ 64 ∷ book.served % 2 ^ 64 ∷ length book.log ∷ []
    pub waiting : book.served + total in_line s.views ≡ book.drawn
    pub living : total live s.views ≡ 1 + length book.lent
    pub distinct : Distinct book.lent
    pub below : (q : ℕ) → list_any (eqb q) book.lent ≡ true → q < 2 ^ 32
    pub fits : (i : ℕ) (p : SeatView) → get_elem? s.views i ≡ some p → Fits book s.homes i p
    pub placed : IsPlaced book s
    pub known : SomeSawAll s.views book.log
    pub present : (owner : ℕ) × IsSeated s.views book.first_pass true owner
    pub seated : (q : ℕ) → list_any (eqb q) book.lent ≡ true → IsSeated s.views (book.seats q) false q

module _ {S : Type 0} where
  -- a ticket was drawn
  abbrev pub Drawn : Me (Option S) SeatView → ℕ → Me (Option S) SeatView → Type 0
  Drawn m n r = (t : ℕ) × (n ≡ t % 2 ^ 64) × (r ≡ (seat_view (waits t) m.0.claim, m.1))

  -- the turn was passed on, and the state left there
  abbrev pub Passed : Me (Option S) SeatView → ℕ → Me (Option S) SeatView → Type 0
  Passed m n r = r ≡ (seat_view idle m.0.claim, [])

  -- the list that was seen follows the claims that were joined
  abbrev pub Compared : Me (Option S) SeatView → ℕ → Me (Option S) SeatView → Type 0
  Compared m n r = (r ≡ (seat_view m.0.stage m.0.claim, m.1)) × FollowsEach m.0.sources m.0.claim.seen

-- the ticket of a seat in line, else 0
abbrev pub ticket_in : Stage → ℕ
ticket_in idle = 0
ticket_in (waits t) = t
ticket_in (turn t) = t
ticket_in spent = 0

module _ {S : Type 0} (journal : S → List Note) where
  -- the seat's turn came, and with it the state
  abbrev pub Gained : Me (Option S) SeatView → Me (Option S) SeatView → Type 0
  Gained m r =
      (x : S) × (r ≡ (seat_view (turn (ticket_in m.0.stage)) (saw m.0.claim (journal x)), (0, Some x) ∷ [])) × Follows m.0.claim (journal x)

  -- the turn came where the ticket is served, else nothing changed
  abbrev pub Looked : Me (Option S) SeatView → ℕ → Me (Option S) SeatView → Type 0
  Looked m n r = (n ≡ ticket_in m.0.stage % 2 ^ 64 → Gained m r) × (n ≢ ticket_in m.0.stage % 2 ^ 64 → r ≡ m)

  -- all have to find the journal of the state in the slot, which the seat has seen
  abbrev pub Published : Me (Option S) SeatView → ℕ → Me (Option S) SeatView → Type 0
  Published m n r = (x : S) → m.1 ≡ (0, Some x) ∷ [] → r ≡ (seat_view m.0.stage (saw m.0.claim (journal x)), m.1)

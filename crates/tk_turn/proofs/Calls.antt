-- The steps, at a seat that is known by an equation.
use Rattle.std.proofs.Common.{◌≡◌, ◌≢◌, ℕ, ◌+◌, ◌%◌, ◌^◌, ◌<◌, Bool, true, false, List, [], ◌∷◌, length, refl, sym, ap, ◌∙◌, subst, Option, Some}
use Rattle.std.specs.Prelude.{IsSome}
use lib.ListN.{get_elem?}
use mathlib.Core.Option.{some, some-injective}
use Rattle.atomic_table.specs.Table.{Me, rest, Allows, Splits, Joins, Final, Seen}
use Rattle.tk_turn.specs.Claims.{Note, Claim, owns, owns_by, OwnsAll, alone, lends, saw, joined, longer, Follows, Continues}
use Rattle.tk_turn.specs.Views.{merged, nobody, idle, waits, turn, SeatView, seat_view, claim_in, IsIdle}
use Rattle.tk_turn.specs.Turns.{IsKept, Drawn, Passed, Compared, Looked, Published}
use Rattle.tk_turn.proofs.Steps.{draws, looks, publishes, passes_on, compares}
use Rattle.tk_turn.proofs.Shares.{splits, joins, closes, none_lent}

-- a pass's seat
pub seat_of : {S : Type 0} (views : List SeatView) (me : Me (Option S) SeatView) (c : Claim) → IsIdle views → claim_in views ≡ c → views ≡ me.0 ∷ [] → me.1 ≡ [] → me ≡ (seat_view idle c, [])
seat_of {S = S} views me c one is at empty =
    let p : seat_view idle one.0 ∷ [] ≡ me.0 ∷ [] = sym one.1 ∙ at in
    let q : seat_view idle one.0 ≡ me.0 = cc in
    let k : one.0 ≡ c = ap claim_in (sym one.1) ∙ is in
    λ i. ((sym q ∙ ap (seat_view idle) k) i, empty i)

pub only_claim : (views : List SeatView) (c : Claim) (p : SeatView) → views ≡ p ∷ [] → p ≡ seat_view idle c → IsIdle views
only_claim views c p at is = (c, at ∙ ap (λ (q : SeatView). q ∷ []) is)

module _ {S : Type 0} (journal : S → List Note) where
  pub draws_as : (slots id : ℕ) (me : Me (Option S) SeatView) (c : Claim) → slots ≡ 1 → me ≡ (seat_view idle c, []) → Allows (IsKept journal) slots id me 0 (λ n. (n + 1) % 2 ^ 64) (Drawn me)
  draws_as slots id me c one is = subst (λ (y : ℕ × Me (Option S) SeatView). Allows (IsKept journal) y.0 id y.1 0 (λ n. (n + 1) % 2 ^ 64) (Drawn y.1)) (λ i. (sym one i, sym is i)) (draws journal id c)

  pub looks_as : (slots id : ℕ) (me : Me (Option S) SeatView) (t : ℕ) (c : Claim) → slots ≡ 1 → me ≡ (seat_view (waits t) c, []) → Allows (IsKept journal) slots id me 1 (λ n. n) (Looked journal me)
  looks_as slots id me t c one is = subst (λ (y : ℕ × Me (Option S) SeatView). Allows (IsKept journal) y.0 id y.1 1 (λ n. n) (Looked journal y.1)) (λ i. (sym one i, sym is i)) (looks journal id t c)

  pub compares_as : (slots id : ℕ) (me : Me (Option S) SeatView) (c : Claim) (l : List Claim) → slots ≡ 1 → me ≡ (record { stage = idle; claim = c; sources = l }, []) → Allows (IsKept journal) slots id me 0 (λ n. n) (Compared me)
  compares_as slots id me c l one is =
      subst (λ (y : ℕ × Me (Option S) SeatView). Allows (IsKept journal) y.0 id y.1 0 (λ n. n) (Compared y.1)) (λ i. (sym one i, sym is i)) (compares journal id c l (record { stage = idle; claim = c; sources = l }) refl)

  pub publishes_as : (slots id : ℕ) (me : Me (Option S) SeatView) (t : ℕ) (c : Claim) (x : S) (n : ℕ) → slots ≡ 1 → me ≡ (seat_view (turn t) c, (0, Some x) ∷ []) → n ≡ length (journal x) → Continues c (journal x)
      → Allows (IsKept journal) slots id me 2 (λ _. n) (λ _. Published journal me n)
  publishes_as slots id me t c x n one is len more =
      subst (λ (y : ℕ × Me (Option S) SeatView). Allows (IsKept journal) y.0 id y.1 2 (λ _. n) (λ _. Published journal y.1 n)) (λ i. (sym one i, sym is i)) (publishes journal id t c x n len more)

  pub passes_on_as : (slots id : ℕ) (me : Me (Option S) SeatView) (t : ℕ) (c : Claim) (x : S) (n : ℕ) → slots ≡ 1 → me ≡ (seat_view (turn t) c, (0, Some x) ∷ []) → n ≡ (t % 2 ^ 64 + 1) % 2 ^ 64 → c.seen ≡ journal x
      → Allows (IsKept journal) slots id me 1 (λ _. n) (λ _. Passed me n)
  passes_on_as slots id me t c x n one is next seen =
      subst (λ (y : ℕ × Me (Option S) SeatView). Allows (IsKept journal) y.0 id y.1 1 (λ _. n) (λ _. Passed y.1 n)) (λ i. (sym one i, sym is i)) (passes_on journal id t c x n next seen)

  pub splits_as : (id : ℕ) (p : SeatView) (c : Claim) (o : ℕ) → p ≡ seat_view idle c → c.first ≡ true → owns c o ≡ true → o < 2 ^ 32 → Splits (IsKept journal) id p (seat_view p.stage (lends p.claim o)) (seat_view idle (alone p.claim.seen o))
  splits_as id p c o is is_first own small = subst (λ (q : SeatView). Splits (IsKept journal) id q (seat_view q.stage (lends q.claim o)) (seat_view idle (alone q.claim.seen o))) (sym is) (splits journal id c o is_first own small)

  pub joins_as : (id : ℕ) (p : SeatView) (c : Claim) (other : ℕ) (q : SeatView) (d : Claim) → p ≡ seat_view idle c → q ≡ seat_view idle d → c.first ≡ true → d.first ≡ false → Joins (IsKept journal) id p other q (merged p q) nobody
  joins_as id p c other q d is is' is_first plain = subst (λ (y : SeatView × SeatView). Joins (IsKept journal) id y.0 other y.1 (merged y.0 y.1) nobody) (λ i. (sym is i, sym is' i)) (joins journal id c other d is_first plain)

  pub owns_none : (c : Claim) → c.first ≡ true → OwnsAll c → c.lent ≡ []
  owns_none c is_first all = none_lent c.lent (λ x. subst (λ (g : Bool). owns_by g c.lent c.owner x ≡ true) is_first (all x))

  -- the state at the end
  pub closes_as : (id : ℕ) (p : SeatView) (c : Claim) (ws : List ℕ) (xs : List (Option S)) (found : Option S) → p ≡ seat_view idle c → c.first ≡ true → OwnsAll c → Final (Seen (IsKept journal) id p) ws xs → get_elem? xs 0 ≡ some found → (x : S) × (found ≡ Some x) × (journal x ≡ c.seen)
  closes_as id p c ws xs found is is_first all end at =
      let k = closes journal id c ws xs is_first (owns_none c is_first all) (subst (λ (q : SeatView). Final (Seen (IsKept journal) id q) ws xs) is end) in
      (k.0, some-injective found (Some k.0) (sym at ∙ k.1), k.2)

-- what a look gained
pub took : {S : Type 0} (journal : S → List Note) (m r : Me (Option S) SeatView) (n t : ℕ) (c d : Claim) → m ≡ (seat_view (waits t) c, []) → n ≡ t % 2 ^ 64 → c ≡ d → Looked journal m n r
    → (x : S) × (r ≡ (seat_view (turn t) (saw d (journal x)), (0, Some x) ∷ [])) × Follows d (journal x)
took {S = S} journal m r n t c d is at same look = (subst (λ (y : Me (Option S) SeatView). Looked journal y n r) (is ∙ (λ i. (seat_view (waits t) (same i), []))) look).0 at

-- the slot that was taken last has this value
pub last_out : {S : Type 0} (l : List (ℕ × Option S)) (x : Option S) → l ≡ (0, x) ∷ [] → l ≡ (0, x) ∷ rest l
last_out l x e = e ∙ (λ i. (0, x) ∷ sym (ap rest e) i)

pub out_is : {S : Type 0} (l : List (ℕ × Option S)) (x y : Option S) → l ≡ (0, x) ∷ [] → l ≡ (0, y) ∷ rest l → y ≡ x
out_is {S = S} l x y e f =
    let p : (0, y) ∷ rest l ≡ (0, x) ∷ [] = sym f ∙ e in
    let q : ◌≡◌ {A = ℕ × Option S} (0, y) (0, x) = cc in
    ap (λ (z : ℕ × Option S). z.1) q

pub some_same : {S : Type 0} (x y : S) → Some x ≡ Some y → x ≡ y
some_same x y e = cc

-- the seat after an exchange
pub exchanged_me : {S : Type 0} (m r : Me (Option S) SeatView) (p : SeatView) (x y : Option S) → m ≡ (p, (0, x) ∷ []) → r ≡ (m.0, (0, y) ∷ rest m.1) → r ≡ (p, (0, y) ∷ [])
exchanged_me m r p x y is e = e ∙ (λ i. (ap (λ z. z.0) is i, (0, y) ∷ ap (λ z. rest z.1) is i))

pub is_some_by : {S : Type 0} (o : Option S) (x : S) → o ≡ Some x → IsSome o
is_some_by o x e = subst (λ p. IsSome p) (sym e) refl

-- a look that gained nothing
pub stays : {S : Type 0} (journal : S → List Note) (m r : Me (Option S) SeatView) (n t : ℕ) (c : Claim) → m ≡ (seat_view (waits t) c, []) → n ≢ t % 2 ^ 64 → Looked journal m n r → r ≡ (seat_view (waits t) c, [])
stays {S = S} journal m r n t c is not_yet look = (subst (λ (y : Me (Option S) SeatView). Looked journal y n r) is look).1 not_yet

-- what a publication leaves
pub published : {S : Type 0} (journal : S → List Note) (m r : Me (Option S) SeatView) (n t : ℕ) (c : Claim) (x : S) → m ≡ (seat_view (turn t) c, (0, Some x) ∷ []) → Published journal m n r → r ≡ (seat_view (turn t) (saw c (journal x)), (0, Some x) ∷ [])
published {S = S} journal m r n t c x is told = (subst (λ (y : Me (Option S) SeatView). Published journal y n r) is told) x refl

-- what a seat has once it has passed the turn on
pub passed : {S : Type 0} (m r : Me (Option S) SeatView) (n t : ℕ) (c : Claim) (l : List (ℕ × Option S)) → m ≡ (seat_view (turn t) c, l) → Passed m n r → r ≡ (seat_view idle c, [])
passed m r n t c l is went = went ∙ (λ i. (seat_view idle (ap (λ z. z.0.claim) is i), []))

-- a seat that took another in, before and after it was told of the lists
pub merged_me : {S : Type 0} (m o r : Me (Option S) SeatView) (c d : Claim) → m ≡ (seat_view idle c, []) → o ≡ (seat_view idle d, []) → r ≡ (merged m.0 o.0, m.1)
    → r ≡ (record { stage = idle; claim = joined c d; sources = c ∷ d ∷ [] }, [])
merged_me m o r c d is is' e = e ∙ (λ i. (merged (ap (λ z. z.0) is i) (ap (λ z. z.0) is' i), ap (λ z. z.1) is i))

pub compared : {S : Type 0} (m r : Me (Option S) SeatView) (n : ℕ) (c d : Claim) → m ≡ (record { stage = idle; claim = joined c d; sources = c ∷ d ∷ [] }, []) → Compared m n r
    → (r ≡ (seat_view idle (joined c d), [])) × Follows c (longer c.seen d.seen) × Follows d (longer c.seen d.seen)
compared {S = S} m r n c d is told =
    let k = subst (λ (y : Me (Option S) SeatView). Compared y n r) is told in
    (k.0, k.1.0, k.1.1.0)

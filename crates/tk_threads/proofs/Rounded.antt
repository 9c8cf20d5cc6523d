-- What a round in threads leaves of the members of a bench.
use Rattle.std.proofs.Common.{◌≡◌, ℕ, zero, suc, ◌<◌, ◌≤◌, Bool, true, false, eqb, eqb-true, eq-eqb, List, [], ◌∷◌, ◌++◌, length, get_or, map, arith, refl, sym, ap, ◌∙◌, subst, Some, None, ◌⊎◌, inl, inr}
use Rattle.std.specs.Prelude.{◌||◌, All, slice_get}
use Rattle.std.specs.List.{list_any}
use Rattle.std.proofs.lemmas.Bool.{false≢true}
use Rattle.std.proofs.lemmas.Option.{same_Some}
use Rattle.std.proofs.lemmas.List.Elements.{All-nil, All-cons, All-head, All-tail}
use Rattle.tk_edge.specs.Readings.{last_moment}
use Rattle.tk_turn.specs.Claims.{Distinct, Note}
use Rattle.tk_passes.specs.declared.actor.Member.{Member}
use Rattle.tk_passes.specs.Standing.{Each, Grows, IsAmong, IsNoneOf, OfNumbers, StandsBehind, numbers}
use Rattle.tk_journal.specs.declared.entry.Entry.{Entry}
use Rattle.tk_store.specs.Notes.{controller_owner, kubelet_owner, note_of, notes_of, owner_of}
use Rattle.tk_store.proofs.Noted.{notes_added, notes_grown, notes_same}
use Rattle.tk_rounds.specs.Bench.{AllFollow, AllReady}
use Rattle.tk_rounds.specs.Growth.{GrowsBy, OfOne}
use Rattle.tk_rounds.specs.Members.{of_controller, of_kubelet}
use Rattle.tk_threads.specs.Timely.{IsTimely, Over}
use Rattle.tk_threads.proofs.Noting.{over_at, over_is}
use Rattle.tk_threads.proofs.Owners.{controller_by, kubelet_by}

-- places in lists

at_slice : {X : Type 0} (xs : List X) (i : ℕ) (x : X) → slice_get xs i ≡ Some x → (i < length xs) × ((d : X) → get_or xs i d ≡ x)
at_slice [] i x is = cc
at_slice (y ∷ xs) zero x is = (omega arith, λ d. same_Some y x is)
at_slice (y ∷ xs) (suc i) x is = let k = at_slice xs i x is in (omega (arith, k.0), k.1)

slice_at : {X : Type 0} (xs : List X) (i : ℕ) (d : X) → i < length xs → slice_get xs i ≡ Some (get_or xs i d)
slice_at [] i d h = absurd (omega arith)
slice_at (y ∷ xs) zero d h = refl
slice_at (y ∷ xs) (suc i) d h = slice_at xs i d (omega arith)

slice_map : {X Y : Type 0} (f : X → Y) (xs : List X) (i : ℕ) (y : Y) → slice_get (map f xs) i ≡ Some y → (x : X) × (slice_get xs i ≡ Some x) × (y ≡ f x)
slice_map f [] i y is = cc
slice_map f (x ∷ xs) zero y is = (x, refl, sym (same_Some (f x) y is))
slice_map f (x ∷ xs) (suc i) y is = slice_map f xs i y is

length_map : {X Y : Type 0} (f : X → Y) (xs : List X) → length (map f xs) ≡ length xs
length_map f [] = refl
length_map f (x ∷ xs) = ap suc (length_map f xs)

all_slice : {X Y : Type 0} (f : X → Y) (P : Y → Type 0) (xs : List X) → ((i : ℕ) (x : X) → slice_get xs i ≡ Some x → P (f x)) → All P (map f xs)
all_slice f P [] at = All-nil P
all_slice f P (x ∷ xs) at = All-cons P (f x) (map f xs) (at 0 x refl) (all_slice f P xs (λ i y is. at (suc i) y is))

-- numbers that differ

among_slice : (ns : List ℕ) (x : ℕ) → IsAmong ns x → (i : ℕ) × (slice_get ns i ≡ Some x)
among_slice [] x is = absurd (false≢true is)
among_slice (n ∷ ns) x is = by_first (eqb x n) refl (among_slice ns x)
  where
    by_first : (b : Bool) → eqb x n ≡ b → (IsAmong ns x → (i : ℕ) × (slice_get ns i ≡ Some x)) → (i : ℕ) × (slice_get (n ∷ ns) i ≡ Some x)
    by_first true hit others = (0, ap Some (sym (eqb-true x n hit)))
    by_first false miss others = let k = others (sym (ap (λ (b : Bool). b || list_any (eqb x) ns) miss) ∙ is) in (suc k.0, k.1)

none_if : (ns : List ℕ) (x : ℕ) → (IsAmong ns x → ⊥) → IsNoneOf ns x
none_if ns x never = by_any (list_any (eqb x) ns) refl
  where
    by_any : (b : Bool) → list_any (eqb x) ns ≡ b → list_any (eqb x) ns ≡ false
    by_any true is = absurd (never is)
    by_any false is = is

pub distinct_by : (ns : List ℕ) → ((i j x : ℕ) → slice_get ns i ≡ Some x → slice_get ns j ≡ Some x → i ≡ j) → Distinct ns
distinct_by [] once = tt
distinct_by (n ∷ ns) once = (
  none_if ns n (λ is.
      let k = among_slice ns n is in
      let zero_is : 0 ≡ suc k.0 = once 0 (suc k.0) n refl k.1 in
      omega (arith, zero_is)),
  distinct_by ns (λ i j x at_i at_j. let k : suc i ≡ suc j = once (suc i) (suc j) x at_i at_j in omega (arith, k)),
)

pub distinct_append : (xs ys : List ℕ) → Distinct xs → Distinct ys → ((x : ℕ) → IsAmong xs x → IsAmong ys x → ⊥) → Distinct (xs ++ ys)
distinct_append [] ys d e apart = e
distinct_append (x ∷ xs) ys d e apart =
    (none_both xs ys x d.0 (none_if ys x (apart x (ap (λ (b : Bool). b || list_any (eqb x) xs) (eq-eqb x x refl)))), distinct_append xs ys d.1 e (λ z in_xs in_ys. apart z (behind (eqb z x) (list_any (eqb z) xs) in_xs) in_ys))
  where
    behind : (a b : Bool) → b ≡ true → (a || b) ≡ true
    behind true b is = refl
    behind false b is = is

    none_both : (us vs : List ℕ) (z : ℕ) → IsNoneOf us z → IsNoneOf vs z → IsNoneOf (us ++ vs) z
    none_both [] vs z p q = q
    none_both (u ∷ us) vs z p q = cut (eqb z u) (list_any (eqb z) us) (list_any (eqb z) (us ++ vs)) p (λ r. none_both us vs z r q)
      where
        cut : (a b c : Bool) → (a || b) ≡ false → (b ≡ false → c ≡ false) → (a || c) ≡ false
        cut true b c p k = p
        cut false b c p k = k p

-- a kind of members in seats

module _ {M Seat : Type 0} (seat_of : M → Seat) (member_in : Seat → M) (number : M → ℕ) (owner_in : Seat → ℕ) (owner : ℕ → ℕ) (such : ℕ → Note → Type 0) (ready : List Entry → M → Type 0) (follows : M → M → List Entry → Type 0) where
  abbrev pub SeatReady : List Note → Seat → Type 0
  SeatReady notes s = (owner_in s ≡ owner (number (member_in s))) × Over (λ history. ready history (member_in s)) notes

  abbrev pub SeatFollows : Seat → Seat → List Note → Type 0
  SeatFollows start s notes = Over (follows (member_in start) (member_in s)) notes

  abbrev seat : M → Member Seat
  seat m = record { actor = seat_of m; pass = None; lacked = false }

  abbrev left : Member Seat → M
  left w = member_in w.actor

  module _ (sits : (m : M) → member_in (seat_of m) ≡ m) (owns : (m : M) → owner_in (seat_of m) ≡ owner (number m)) (inj : (i j : ℕ) → owner i ≡ owner j → i ≡ j)
      (history : List Entry) (xs : List M) (are : AllReady number ready history xs) where
    pub ready_seats : All (λ (w : Member Seat). SeatReady (notes_of history) w.actor) (map seat xs)
    ready_seats =
        all_slice seat (λ w. SeatReady (notes_of history) w.actor) xs
        (λ i m at. (owns m ∙ ap (λ (n : M). owner (number n)) (sym (sits m)), over_at (λ h. ready h (member_in (seat_of m))) history (subst (ready history) (sym (sits m)) (are i m at).1)))

    pub owner_at : (i x : ℕ) → slice_get (numbers owner_in (map seat xs)) i ≡ Some x → (x ≡ owner i) × (i < length xs)
    owner_at i x at =
        let w = slice_map (λ (w : Member Seat). owner_in w.actor) (map seat xs) i x at in
        let m = slice_map seat xs i w.0 w.1 in
        (w.2 ∙ (ap (λ (v : Member Seat). owner_in v.actor) m.2 ∙ (owns m.0 ∙ ap owner (are i m.0 m.1).0)), (at_slice xs i m.0 m.1).0)

    pub distinct_seats : Distinct (numbers owner_in (map seat xs))
    distinct_seats = distinct_by (numbers owner_in (map seat xs)) (λ i j x at_i at_j. inj i j (sym (owner_at i x at_i).0 ∙ (owner_at j x at_j).0))

    pub among_seats : (x : ℕ) → IsAmong (numbers owner_in (map seat xs)) x → (i : ℕ) × (i < length xs) × (x ≡ owner i)
    among_seats x is =
        let k = among_slice (numbers owner_in (map seat xs)) x is in
        let at = owner_at k.0 x k.1 in
        (k.0, at.1, at.0)

    module _ (after : List Entry) (seen : List Note) (is_after : seen ≡ notes_of after) (ws : List (Member Seat)) (each : Each (StandsBehind owner_in such SeatReady SeatFollows (notes_of history) seen) (map seat xs) ws) where
      pub count_left : length (map left ws) ≡ length xs
      count_left = length_map left ws ∙ (each.0 ∙ length_map seat xs)

      -- who sits at a place
      sitting : (i : ℕ) (b : M) → slice_get (map left ws) i ≡ Some b → (w : Member Seat) × (a : M) × (b ≡ left w) × (slice_get xs i ≡ Some a) × StandsBehind owner_in such SeatReady SeatFollows (notes_of history) seen (seat a) w
      sitting i b at =
          let w = slice_map left ws i b at in
          let in_ws = at_slice ws i w.0 w.1 in
          let inside : i < length (map seat xs) = omega (arith, in_ws.0, each.0) in
          let in_xs : i < length xs = omega (arith, inside, length_map seat xs) in
          let v = get_or (map seat xs) i w.0 in
          let a = slice_map seat xs i v (slice_at (map seat xs) i w.0 inside) in
          let stands = each.1 i w.0 inside in (
            w.0,
            a.0,
            w.2,
            a.1,
            subst (λ (z : Member Seat). StandsBehind owner_in such SeatReady SeatFollows (notes_of history) seen (seat a.0) z) (in_ws.1 w.0)
                (subst (λ (z : Member Seat). StandsBehind owner_in such SeatReady SeatFollows (notes_of history) seen z (get_or ws i w.0)) a.2 stands),
          )

      pub back_ready : AllReady number ready after (map left ws)
      back_ready i b at =
          let s = sitting i b at in
          let w = s.0 in
          let a = s.1 in
          let stands = s.4 in
          let named : owner (number b) ≡ owner i =
          ap (λ (z : M). owner (number z)) s.2 ∙ (sym stands.is_ready.0 ∙ (stands.same ∙ (owns a ∙ ap owner (are i a s.3).0))) in
          (inj (number b) i named, subst (ready after) (sym s.2) (over_is (λ h. ready h (left w)) after (subst (Over (λ h. ready h (left w))) is_after stands.is_ready.1)))

      pub back_follow : AllFollow follows xs (map left ws) history after
      back_follow i start a b at_a at_b is =
          let s = sitting i b at_b in
          let w = s.0 in
          let same : s.1 ≡ a = same_Some s.1 a (sym s.3 ∙ at_a) in
          let here = subst (λ (z : M). follows start z history) (sym same ∙ sym (sits s.1)) is in
          let begun : SeatFollows (seat_of start) (seat_of s.1) (notes_of history) =
          over_at (follows (member_in (seat_of start)) (member_in (seat_of s.1))) history (subst (λ (z : M). follows z (member_in (seat_of s.1)) history) (sym (sits start)) here) in
          let ended = s.4.stays (seat_of start) begun in
          let there = over_is (follows (member_in (seat_of start)) (left w)) after (subst (Over (follows (member_in (seat_of start)) (left w))) is_after ended) in
          subst (λ (z : M). follows start z after) (sym s.2) (subst (λ (z : M). follows z (left w) after) (sits start) there)

-- what is new, as entries

all_front : (P : Note → Type 0) (xs ys : List Note) → All P (xs ++ ys) → All P xs
all_front P [] ys all = All-nil P
all_front P (x ∷ xs) ys all = All-cons P x xs (All-head P x (xs ++ ys) all) (all_front P xs ys (All-tail P x (xs ++ ys) all))

all_end : (P : Note → Type 0) (xs ys : List Note) → All P (xs ++ ys) → All P ys
all_end P [] ys all = all
all_end P (x ∷ xs) ys all = all_end P xs ys (All-tail P x (xs ++ ys) all)

all_entries : (P : Note → Type 0) (Q : Entry → Type 0) → ((e : Entry) → P (note_of e) → Q e) → (es : List Entry) → All P (notes_of es) → All Q es
all_entries P Q gives [] all = All-nil Q
all_entries P Q gives (e ∷ es) all =
    let k = subst (All P) (notes_added (e ∷ []) es) all in
    All-cons Q e es (gives e (All-head P (note_of e) [] (all_end P (notes_of es) (note_of e ∷ []) k))) (all_entries P Q gives es (all_front P (notes_of es) (note_of e ∷ []) k))

timely : (owner : ℕ) (e : Entry) → IsTimely owner (note_of e) → e.moment ≤ last_moment
timely owner e t = subst (λ (x : Entry). x.moment ≤ last_moment) (sym (first e t.0 (notes_same (e ∷ []) (t.0 ∷ []) (λ i. t.1 i ∷ [])))) t.2
  where
    first : (a b : Entry) → (a ∷ []) ≡ (b ∷ []) → a ≡ b
    first a b is = cc

pub grows_entries : (n m : ℕ) (ls rs : List ℕ) (history after : List Entry) → ((x : ℕ) → IsAmong ls x → (i : ℕ) × (i < n) × (x ≡ controller_owner i)) → ((x : ℕ) → IsAmong rs x → (i : ℕ) × (i < m) × (x ≡ kubelet_owner i))
    → Grows IsTimely IsTimely ls rs (notes_of history) (notes_of after) → GrowsBy (λ e. OfOne of_controller n e ⊎ OfOne of_kubelet m e) history after
grows_entries n m ls rs history after in_ls in_rs g =
    let more = notes_grown history after g.new g.grown in
    record {
      new = more.0;
      grown = more.1;
      such = all_entries (λ (note : Note). OfNumbers IsTimely ls note ⊎ OfNumbers IsTimely rs note) (λ (e : Entry). OfOne of_controller n e ⊎ OfOne of_kubelet m e)
          (λ (e : Entry) is. elim is [
            | inl own ↦ inl (let k = in_ls (owner_of e.actor) own.0 in (k.0, k.1, (controller_by k.0 e.actor k.2, timely (owner_of e.actor) e own.1)))
            | inr own ↦ inr (let k = in_rs (owner_of e.actor) own.0 in (k.0, k.1, (kubelet_by k.0 e.actor k.2, timely (owner_of e.actor) e own.1)))
          ]) more.0 (subst (All (λ (note : Note). OfNumbers IsTimely ls note ⊎ OfNumbers IsTimely rs note)) (sym more.2) g.each);
    }

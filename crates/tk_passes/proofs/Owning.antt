-- Which numbers a pass owns as they are lent and taken back, and lists of members place by place.
use Rattle.std.proofs.Common.{◌≡◌, ◌≢◌, ℕ, zero, suc, ◌<◌, ◌≤◌, Bool, true, false, eqb, eqb-true, eq-eqb, List, [], ◌∷◌, ◌++◌, length, get_or, drop, set, append_assoc, arith, refl, sym, ap, ◌∙◌, subst, Option, Some, None}
use Rattle.std.specs.Prelude.{◌||◌, ◌&&◌, not, cond, ltb}
use Rattle.std.specs.List.{list_any}
use Rattle.std.proofs.lemmas.Bool.{false≢true}
use Rattle.tk_turn.specs.Claims.{TableId, Note, Claim, PassValue, Distinct, Follows, NoneOwn, owns, lends, joined}
use Rattle.tk_turn.proofs.Seats.{none_append, none_less}
use Rattle.tk_turn.proofs.Shares.{lends_owns}
use Rattle.tk_passes.specs.declared.actor.Member.{Member}
use Rattle.tk_passes.specs.Notes.{NoneOf}
use Rattle.tk_passes.specs.Standing.{BackBy, IsAmong, IsBack, IsNoneOf, IsPassFor, SeatedBy, Stands, numbers}
use Rattle.tk_passes.proofs.Standing.{stands_beside, stands_on}

-- numbers in a list

-- a number of a list of different ones is none of those behind it
pub apart_at : (ns : List ℕ) (i : ℕ) → Distinct ns → i < length ns → IsNoneOf (drop (suc i) ns) (get_or ns i 0)
apart_at [] i d h = absurd (omega arith)
apart_at (n ∷ ns) zero d h = d.0
apart_at (n ∷ ns) (suc i) d h = apart_at ns i d.1 (omega arith)

pub drop_at : (ns : List ℕ) (i : ℕ) → i < length ns → drop i ns ≡ get_or ns i 0 ∷ drop (suc i) ns
drop_at [] i h = absurd (omega arith)
drop_at (n ∷ ns) zero h = refl
drop_at (n ∷ ns) (suc i) h = drop_at ns i (omega arith)

pub neither : (a b : Bool) → (a || b) ≡ false → (a ≡ false) × (b ≡ false)
neither true b e = absurd (false≢true (sym e))
neither false b e = (refl, e)

or_behind : (a b : Bool) → b ≡ true → (a || b) ≡ true
or_behind true b e = refl
or_behind false b e = e

-- lists of anything

pub get_or_same : {X : Type 0} (xs : List X) (i : ℕ) (d e : X) → i < length xs → get_or xs i d ≡ get_or xs i e
get_or_same [] i d e h = absurd (omega arith)
get_or_same (x ∷ xs) zero d e h = refl
get_or_same (x ∷ xs) (suc i) d e h = get_or_same xs i d e (omega arith)

pub at_or_set : {X : Type 0} (P : X → Type 0) (xs : List X) (j k : ℕ) (m d : X) → (k ≡ j → P m) → (k ≢ j → P (get_or xs k d)) → k < length xs → P (get_or (set xs j m) k d)
at_or_set P [] j k m d here else_ h = absurd (omega arith)
at_or_set P (x ∷ xs) zero zero m d here else_ h = here refl
at_or_set P (x ∷ xs) zero (suc k) m d here else_ h = else_ (λ e. omega arith)
at_or_set P (x ∷ xs) (suc j) zero m d here else_ h = else_ (λ e. omega arith)
at_or_set P (x ∷ xs) (suc j) (suc k) m d here else_ h = at_or_set P xs j k m d (λ e. here (ap suc e)) (λ n. else_ (λ e. n (let f : k ≡ j = omega arith in f))) (omega arith)

-- numbers of members

module _ {A : Type 0} (number : A → ℕ) where
  pub number_at : (ms : List (Member A)) (i : ℕ) (d : Member A) → i < length ms → get_or (numbers number ms) i 0 ≡ number (get_or ms i d).actor
  number_at [] i d h = absurd (omega arith)
  number_at (x ∷ xs) zero d h = refl
  number_at (x ∷ xs) (suc i) d h = number_at xs i d (omega arith)

  pub length_numbers : (ms : List (Member A)) → length (numbers number ms) ≡ length ms
  length_numbers [] = refl
  length_numbers (x ∷ xs) = ap suc (length_numbers xs)

  pub among_at : (ms : List (Member A)) (i : ℕ) (d : Member A) → i < length ms → IsAmong (numbers number ms) (number (get_or ms i d).actor)
  among_at [] i d h = absurd (omega arith)
  among_at (x ∷ xs) zero d h = ap (λ (b : Bool). b || list_any (eqb (number x.actor)) (numbers number xs)) (eq-eqb (number x.actor) (number x.actor) refl)
  among_at (x ∷ xs) (suc i) d h = or_behind (eqb (number (get_or xs i d).actor) (number x.actor)) _ (among_at xs i d (omega arith))

  -- what holds of the number of each member holds of each of their numbers
  pub all_among : (P : ℕ → Type 0) (ms : List (Member A)) → ((k : ℕ) (d : Member A) → k < length ms → P (number (get_or ms k d).actor)) → (x : ℕ) → IsAmong (numbers number ms) x → P x
  all_among P [] each x is = absurd (false≢true is)
  all_among P (m ∷ ms) each x is = by_first (eqb x (number m.actor)) refl (λ rest. all_among P ms (λ k d h. each (suc k) d (omega arith)) x rest)
    where
      by_first : (b : Bool) → eqb x (number m.actor) ≡ b → (IsAmong (numbers number ms) x → P x) → P x
      by_first true hit others = subst P (sym (eqb-true x (number m.actor) hit)) (each 0 m (omega arith))
      by_first false miss others = others (sym (ap (λ (b : Bool). b || list_any (eqb x) (numbers number ms)) miss) ∙ is)

  -- a member's number is none of those behind it
  pub free_at : (ms : List (Member A)) (j at : ℕ) (d : Member A) → Distinct (numbers number ms) → at ≡ suc j → at ≤ length ms → IsNoneOf (drop at (numbers number ms)) (number (get_or ms j d).actor)
  free_at ms j at d apart e h =
      let n = length_numbers ms in
      let k = apart_at (numbers number ms) j apart (omega arith) in
      subst (λ (y : ℕ × ℕ). IsNoneOf (drop y.1 (numbers number ms)) y.0) (λ i. (number_at ms j d (omega arith) i, sym e i)) k

  -- one more is lent
  pub still_lent : (c e : Claim) (ms : List (Member A)) (j at : ℕ) (d : Member A) → c.first ≡ true → at ≡ suc j → at ≤ length ms → e ≡ lends c (number (get_or ms j d).actor) → (Q : ℕ → Type 0) → ((x : ℕ) → Q x → IsNoneOf (drop at (numbers number ms)) x → owns c x ≡ true)
      → (x : ℕ) → Q x → IsNoneOf (drop j (numbers number ms)) x → owns e x ≡ true
  still_lent c e ms j at d chief is h new Q still x own none =
      let n = length_numbers ms in
      let o = number (get_or ms j d).actor in
      let split : drop j (numbers number ms) ≡ o ∷ drop at (numbers number ms) =
      drop_at (numbers number ms) j (omega arith) ∙ (λ i. number_at ms j d (omega arith) i ∷ drop (sym is i) (numbers number ms)) in
      let k = neither (eqb x o) (list_any (eqb x) (drop at (numbers number ms))) (sym (ap (list_any (eqb x)) split) ∙ none) in
      ap (λ (z : Claim). owns z x) new ∙ (lends_owns c.first c.lent c.owner o x chief ∙ (λ i. still x own k.1 i && not (k.0 i)))

-- passes that are taken back

pub sound_joined : (P : List Note → Type 0) (c d e : Claim) → e ≡ joined c d → P c.seen → P d.seen → P e.seen
sound_joined P c d e is one other = subst (λ (z : Claim). P z.seen) (sym is) (by_length (ltb (length c.seen) (length d.seen)))
  where
    by_length : (b : Bool) → P (cond b d.seen c.seen)
    by_length true = other
    by_length false = one

pub follows_then : (c d : Claim) (log : List Note) → ((x : ℕ) → owns c x ≡ true → owns d x ≡ true) → Follows c d.seen → Follows d log → Follows c log
follows_then c d log more f g =
    (f.0 ++ g.0, g.1 ∙ (ap (λ (l : List Note). l ++ g.0) f.1 ∙ append_assoc c.seen f.0 g.0), none_append c f.0 g.0 f.2 (none_less d c more g.0 g.2))

pub none_owned : (c : Claim) (n : ℕ) → owns c n ≡ true → (rest : List Note) → NoneOwn c rest → NoneOf n rest
none_owned c n own [] h = tt
none_owned c n own (e ∷ es) h = (by_owner (eqb e.owner n) refl, none_owned c n own es h.1)
  where
    by_owner : (b : Bool) → eqb e.owner n ≡ b → eqb e.owner n ≡ false
    by_owner false is = is
    by_owner true is = absurd (false≢true (sym h.0 ∙ (ap (owns c) (eqb-true e.owner n is) ∙ own)))

module _ {A : Type 0} (number : A → ℕ) (sound : List Note → Type 0) (ready : List Note → A → Type 0) where
  pub seated_with : (lock : TableId) (a : A) (pass : Option PassValue) (q : PassValue) → pass ≡ Some q → SeatedBy number sound ready lock a pass → IsPassFor lock (number a) q × sound q.claim.seen × ready q.claim.seen a
  seated_with lock a pass q is seated = subst (SeatedBy number sound ready lock a) is seated

module _ {A : Type 0} (number : A → ℕ) (such : ℕ → Note → Type 0) (ready : List Note → A → Type 0) (follows : A → A → List Note → Type 0) where
  pub back_with : (seen : List Note) (a b : A) (pass : Option PassValue) (q : PassValue) → pass ≡ Some q → Stands number such ready follows a q.claim.seen b seen → BackBy number such ready follows seen a pass b
  back_with seen a b pass q is stands = subst (λ (p : Option PassValue). BackBy number such ready follows seen a p b) (sym is) stands

  pub back_of : (seen : List Note) (a b : A) (pass : Option PassValue) → BackBy number such ready follows seen a pass b → (q : PassValue) × (pass ≡ Some q) × Stands number such ready follows a q.claim.seen b seen
  back_of seen a b None back = absurd back
  back_of seen a b (Some q) back = (q, refl, back)

  pub back_same : (seen : List Note) (was now : Member A) → IsBack number such ready follows seen was now → number now.actor ≡ number was.actor
  back_same seen was now back = (back_of seen was.actor now.actor was.pass back).2.same

  -- another pass is taken back, by whose owner the member's entries aren't
  module _ (sound : List Note → Type 0)
      (keep : (m : A) (journal rest : List Note) → sound (journal ++ rest) → NoneOf (number m) rest → ready journal m → ready (journal ++ rest) m)
      (follow : (start m : A) (journal rest : List Note) → sound (journal ++ rest) → NoneOf (number m) rest → ready journal m → follows start m journal → follows start m (journal ++ rest)) where
    pub back_more : (c : Claim) (log : List Note) (was now : Member A) → owns c (number now.actor) ≡ true → Follows c log → sound log → IsBack number such ready follows c.seen was now → IsBack number such ready follows log was now
    back_more c log was now own f here back =
        let k = back_of c.seen was.actor now.actor was.pass back in
        back_with log was.actor now.actor was.pass k.0 k.1
        (stands_on number such ready follows was.actor now.actor now.actor k.0.claim.seen c.seen log k.2
        (stands_beside number such ready follows sound keep follow now.actor c.seen f.0 log f.1 here (none_owned c (number now.actor) own f.0 f.2) k.2.is_ready))

-- the number that was taken back is owned again
pub own_back : (before after : ℕ → Bool) (n m : ℕ) → ((x : ℕ) → after x ≡ (before x || eqb x n)) → m ≡ n → after m ≡ true
own_back before after n m both same = both m ∙ or_behind (before m) (eqb m n) (eq-eqb m n same)

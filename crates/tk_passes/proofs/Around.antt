-- What a round leaves, from what each of its parts does.
use Rattle.std.proofs.Common.{◌≡◌, ℕ, zero, suc, ◌<◌, Bool, true, false, eqb, eqb-true, eq-eqb, cond, List, [], ◌∷◌, ◌++◌, length, get_or, arith, refl, sym, ap, ◌∙◌, subst, Option, Some, None, ◌⊎◌, inl, inr}
use Rattle.std.specs.Prelude.{◌||◌, All}
use Rattle.std.specs.List.{list_any}
use Rattle.std.proofs.lemmas.Bool.{false≢true}
use Rattle.std.proofs.lemmas.List.Elements.{All-nil, All-cons, All-head, All-tail}
use Rattle.tk_turn.specs.Claims.{TableId, Note, Claim, PassValue, Distinct, Follows, NoneOwn, OwnsAll, owns, written_by}
use Rattle.tk_passes.specs.declared.actor.Member.{Member}
use Rattle.tk_passes.specs.Notes.{NoneOf}
use Rattle.tk_passes.specs.Standing.{BackBy, Each, Grows, HandedBy, IsAmong, IsBack, IsHanded, IsNoneOf, IsPassFor, IsSeated, OfNumbers, SeatedBy, Stands, StandsBehind, Turned, TurnedBy, numbers}
use Rattle.tk_passes.proofs.Owning.{all_among, back_more}
use Rattle.tk_passes.proofs.Standing.{stands_on}

-- lists of numbers that differ

pub distinct_left : (xs ys : List ℕ) → Distinct (xs ++ ys) → Distinct xs
distinct_left [] ys d = tt
distinct_left (x ∷ xs) ys d = (none_first x xs ys d.0, distinct_left xs ys d.1)
  where
    none_first : (z : ℕ) (us vs : List ℕ) → IsNoneOf (us ++ vs) z → IsNoneOf us z
    none_first z [] vs h = refl
    none_first z (u ∷ us) vs h = by_first (eqb z u) (list_any (eqb z) (us ++ vs)) (list_any (eqb z) us) h (none_first z us vs)
      where
        by_first : (a b c : Bool) → (a || b) ≡ false → (b ≡ false → c ≡ false) → (a || c) ≡ false
        by_first true b c h k = h
        by_first false b c h k = k h

pub distinct_right : (xs ys : List ℕ) → Distinct (xs ++ ys) → Distinct ys
distinct_right [] ys d = d
distinct_right (x ∷ xs) ys d = distinct_right xs ys d.1

among_behind : (z : ℕ) (us vs : List ℕ) → IsAmong vs z → IsAmong (us ++ vs) z
among_behind z [] vs h = h
among_behind z (u ∷ us) vs h = by_first (eqb z u) (list_any (eqb z) (us ++ vs)) (among_behind z us vs h)
  where
    by_first : (a b : Bool) → b ≡ true → (a || b) ≡ true
    by_first true b h = refl
    by_first false b h = h

pub distinct_apart : (xs ys : List ℕ) → Distinct (xs ++ ys) → (z : ℕ) → IsAmong ys z → IsNoneOf xs z
distinct_apart [] ys d z h = refl
distinct_apart (x ∷ xs) ys d z h = by_first (eqb z x) refl (distinct_apart xs ys d.1 z h)
  where
    by_first : (b : Bool) → eqb z x ≡ b → list_any (eqb z) xs ≡ false → (eqb z x || list_any (eqb z) xs) ≡ false
    by_first true hit rest = absurd (false≢true (sym d.0 ∙ subst (IsAmong (xs ++ ys)) (eqb-true z x hit) (among_behind z xs ys h)))
    by_first false miss rest = ap (λ (b : Bool). b || list_any (eqb z) xs) miss ∙ rest

-- place by place

pub all_by_place : {X : Type 0} (P : X → Type 0) (xs : List X) → ((i : ℕ) (d : X) → i < length xs → P (get_or xs i d)) → All P xs
all_by_place P [] at = All-nil P
all_by_place P (x ∷ xs) at = All-cons P x xs (at 0 x (omega arith)) (all_by_place P xs (λ i d h. at (suc i) d (omega arith)))

pub all_place : {X : Type 0} (P : X → Type 0) (xs : List X) → All P xs → (i : ℕ) (d : X) → i < length xs → P (get_or xs i d)
all_place P [] all i d h = absurd (omega arith)
all_place P (x ∷ xs) all zero d h = All-head P x xs all
all_place P (x ∷ xs) all (suc i) d h = all_place P xs (All-tail P x xs all) i d (omega arith)

module _ {A : Type 0} (number : A → ℕ) where
  pub numbers_same : (ms ks : List (Member A)) → length ks ≡ length ms → ((i : ℕ) (d : Member A) → i < length ms → number (get_or ks i d).actor ≡ number (get_or ms i d).actor) → numbers number ks ≡ numbers number ms
  numbers_same [] [] e h = refl
  numbers_same [] (k ∷ ks) e h = absurd (omega arith)
  numbers_same (m ∷ ms) [] e h = absurd (omega arith)
  numbers_same (m ∷ ms) (k ∷ ks) e h =
      let tails : length ks ≡ length ms = omega arith in
      λ i. h 0 m (omega arith) i ∷ numbers_same ms ks tails (λ j d l. h (suc j) d (omega arith)) i

module _ {A : Type 0} (number : A → ℕ) (sound : List Note → Type 0) (such : ℕ → Note → Type 0) (ready : List Note → A → Type 0) (follows : A → A → List Note → Type 0) where
  seated_one : (lock : TableId) (s : List Note) (a b : A) (pass : Option PassValue) → sound s → ready s a → b ≡ a → HandedBy lock (number a) s pass → SeatedBy number sound ready lock b pass
  seated_one lock s a b None here is same handed = absurd handed
  seated_one lock s a b (Some p) here is same handed =
      (subst (λ (x : A). IsPassFor lock (number x) p) (sym same) handed.0, subst sound (sym handed.1) here, subst (λ (y : List Note × A). ready y.0 y.1) (λ i. (sym handed.1 i, sym same i)) is)

  -- with their passes members that are ready may take turns
  pub seated_handed : (lock : TableId) (s : List Note) (xs ys : List (Member A)) → sound s → All (λ (m : Member A). ready s m.actor) xs → Each (IsHanded number lock s) xs ys → All (IsSeated number sound ready lock) ys
  seated_handed lock s xs ys here are each =
      all_by_place (IsSeated number sound ready lock) ys
      (λ i d h.
      let inside : i < length xs = omega (arith, each.0) in
      let one = each.1 i d inside in
      seated_one lock s (get_or xs i d).actor (get_or ys i d).actor (get_or ys i d).pass here (all_place (λ (m : Member A). ready s m.actor) xs are i d inside) one.0 one.1)

  turned_one : (lock : TableId) (a b : A) (p q : Option PassValue) → TurnedBy number sound such ready follows lock a p b q → SeatedBy number sound ready lock b q
  turned_one lock a b None q turned = absurd turned
  turned_one lock a b (Some p) None turned = absurd turned
  turned_one lock a b (Some p) (Some q) turned = (subst (λ (n : ℕ). IsPassFor lock n q) (sym turned.2.same) turned.0, turned.1, turned.2.is_ready)

  -- behind their turns too
  pub seated_turned : (lock : TableId) (xs ys : List (Member A)) → Each (Turned number sound such ready follows lock) xs ys → All (IsSeated number sound ready lock) ys
  seated_turned lock xs ys each =
      all_by_place (IsSeated number sound ready lock) ys
      (λ i d h. turned_one lock (get_or xs i d).actor (get_or ys i d).actor (get_or xs i d).pass (get_or ys i d).pass (each.1 i d (omega (arith, each.0))))

  around : (lock : TableId) (s t : List Note) (a b c e : A) (p q : Option PassValue) → b ≡ a → HandedBy lock (number a) s p → TurnedBy number sound such ready follows lock b p c q → BackBy number such ready follows t c q e → Stands number such ready follows a s e t
  around lock s t a b c e None q same handed turned back = absurd handed
  around lock s t a b c e (Some p) None same handed turned back = absurd turned
  around lock s t a b c e (Some p) (Some q) same handed turned back =
      subst (λ (y : A × List Note). Stands number such ready follows y.0 y.1 e t) (λ i. (same i, handed.1 i)) (stands_on number such ready follows b c e p.claim.seen q.claim.seen t turned.2 back)

  -- a whole round of a kind
  pub stands_around : (lock : TableId) (s t : List Note) (xs ys zs ws : List (Member A)) → Each (IsHanded number lock s) xs ys → Each (Turned number sound such ready follows lock) ys zs → Each (IsBack number such ready follows t) zs ws
      → Each (StandsBehind number such ready follows s t) xs ws
  stands_around lock s t xs ys zs ws handed turned back = (
    back.0 ∙ (turned.0 ∙ handed.0),
    λ i d h.
        let first = handed.1 i d h in
        let in_ys : i < length ys = omega (arith, handed.0) in
        let in_zs : i < length zs = omega (arith, in_ys, turned.0) in
        around lock s t (get_or xs i d).actor (get_or ys i d).actor (get_or zs i d).actor (get_or ws i d).actor (get_or ys i d).pass (get_or zs i d).pass first.0 first.1 (turned.1 i d in_ys) (back.1 i d in_zs),
  )

  turned_same : (lock : TableId) (a b : A) (p q : Option PassValue) → TurnedBy number sound such ready follows lock a p b q → number b ≡ number a
  turned_same lock a b None q turned = absurd turned
  turned_same lock a b (Some p) None turned = absurd turned
  turned_same lock a b (Some p) (Some q) turned = turned.2.same

  pub numbers_turned : (lock : TableId) (s : List Note) (xs ys zs : List (Member A)) → Each (IsHanded number lock s) xs ys → Each (Turned number sound such ready follows lock) ys zs → numbers number zs ≡ numbers number xs
  numbers_turned lock s xs ys zs handed turned =
      numbers_same number xs zs (turned.0 ∙ handed.0)
      (λ i d h.
      let in_ys : i < length ys = omega (arith, handed.0) in
      turned_same lock (get_or ys i d).actor (get_or zs i d).actor (get_or ys i d).pass (get_or zs i d).pass (turned.1 i d in_ys) ∙ ap number (handed.1 i d h).0)

  -- the members of one kind, behind the passes of the other
  module _
      (keep : (m : A) (journal rest : List Note) → sound (journal ++ rest) → NoneOf (number m) rest → ready journal m → ready (journal ++ rest) m)
      (follow : (start m : A) (journal rest : List Note) → sound (journal ++ rest) → NoneOf (number m) rest → ready journal m → follows start m journal → follows start m (journal ++ rest)) where
    pub each_more : (c : Claim) (log : List Note) (zs ws : List (Member A)) → ((x : ℕ) → IsAmong (numbers number zs) x → owns c x ≡ true) → ((i : ℕ) (d : Member A) → i < length zs → IsAmong (numbers number zs) (number (get_or ws i d).actor)) → Follows c log → sound log
        → Each (IsBack number such ready follows c.seen) zs ws → Each (IsBack number such ready follows log) zs ws
    each_more c log zs ws owned own f here each =
        (each.0, λ i d h. back_more number such ready follows sound keep follow c log (get_or zs i d) (get_or ws i d) (owned _ (own i d h)) f here (each.1 i d h))

-- behind a round members have their numbers, and are ready again

pub numbers_behind : {A : Type 0} (number : A → ℕ) (such : ℕ → Note → Type 0) (ready : List Note → A → Type 0) (follows : A → A → List Note → Type 0) (s t : List Note) (xs ws : List (Member A)) → Each (StandsBehind number such ready follows s t) xs ws → numbers number ws ≡ numbers number xs
numbers_behind number such ready follows s t xs ws each = numbers_same number xs ws each.0 (λ i d h. (each.1 i d h).same)

pub ready_behind : {A : Type 0} (number : A → ℕ) (such : ℕ → Note → Type 0) (ready : List Note → A → Type 0) (follows : A → A → List Note → Type 0) (s t : List Note) (xs ws : List (Member A)) → Each (StandsBehind number such ready follows s t) xs ws
    → All (λ (m : Member A). ready t m.actor) ws
ready_behind number such ready follows s t xs ws each = all_by_place (λ m. ready t m.actor) ws (λ i d h. (each.1 i d (omega (arith, each.0))).is_ready)

-- who wrote what is new

same_rest : (s xs ys : List Note) → s ++ xs ≡ s ++ ys → xs ≡ ys
same_rest [] xs ys e = e
same_rest (x ∷ s) xs ys e = same_rest s xs ys cc

pub wrote_rest : {A : Type 0} (number : A → ℕ) (such : ℕ → Note → Type 0) (ready : List Note → A → Type 0) (follows : A → A → List Note → Type 0) (s t rest : List Note) (xs ws : List (Member A)) → t ≡ s ++ rest → Each (StandsBehind number such ready follows s t) xs ws
    → (n : ℕ) → IsAmong (numbers number xs) n → All (such n) (written_by n rest)
wrote_rest number such ready follows s t rest xs ws grown each n is =
    all_among number (λ x. All (such x) (written_by x rest)) xs
    (λ k d h.
    let w = (each.1 k d h).wrote in
    subst (λ (l : List Note). All (such (number (get_or xs k d).actor)) (written_by (number (get_or xs k d).actor) l)) (same_rest s w.rest rest (sym w.grown ∙ grown)) w.such) n is

module _ (such_left such_right : ℕ → Note → Type 0) (left right : List ℕ) where
  written_tail : (such : ℕ → Note → Type 0) (n : ℕ) (e : Note) (es : List Note) (b : Bool) → All (such n) (cond b (e ∷ written_by n es) (written_by n es)) → All (such n) (written_by n es)
  written_tail such n e es true all = All-tail (such n) e (written_by n es) all
  written_tail such n e es false all = all

  written_head : (such : ℕ → Note → Type 0) (e : Note) (es : List Note) → All (such e.owner) (written_by e.owner (e ∷ es)) → such e.owner e
  written_head such e es all =
      All-head (such e.owner) e (written_by e.owner es) (subst (λ (b : Bool). All (such e.owner) (cond b (e ∷ written_by e.owner es) (written_by e.owner es))) (eq-eqb e.owner e.owner refl) all)

  grows_each : (rest : List Note) → ((n : ℕ) → IsAmong left n → All (such_left n) (written_by n rest)) → ((n : ℕ) → IsAmong right n → All (such_right n) (written_by n rest)) → (c : Claim) → ((x : ℕ) → owns c x ≡ false → IsAmong left x ⊎ IsAmong right x) → NoneOwn c rest
      → All (λ e. OfNumbers such_left left e ⊎ OfNumbers such_right right e) rest
  grows_each [] ls rs c some none = All-nil (λ e. OfNumbers such_left left e ⊎ OfNumbers such_right right e)
  grows_each (e ∷ es) ls rs c some none =
      All-cons (λ x. OfNumbers such_left left x ⊎ OfNumbers such_right right x) e es
      (elim (some e.owner none.0) [ inl is ↦ inl (is, written_head such_left e es (ls e.owner is)) | inr is ↦ inr (is, written_head such_right e es (rs e.owner is)) ])
      (grows_each es (λ n is. written_tail such_left n e es (eqb e.owner n) (ls n is)) (λ n is. written_tail such_right n e es (eqb e.owner n) (rs n is)) c some none.1)

  pub grows_by : (c : Claim) (s t : List Note) → c.seen ≡ s → ((rest : List Note) → t ≡ s ++ rest → (n : ℕ) → IsAmong left n → All (such_left n) (written_by n rest)) → ((rest : List Note) → t ≡ s ++ rest → (n : ℕ) → IsAmong right n → All (such_right n) (written_by n rest))
      → ((x : ℕ) → owns c x ≡ false → IsAmong left x ⊎ IsAmong right x) → Follows c t → Grows such_left such_right left right s t
  grows_by c s t is ls rs some f =
      let grown : t ≡ s ++ f.0 = f.1 ∙ ap (λ (l : List Note). l ++ f.0) is in
      record { new = f.0; grown = grown; each = grows_each f.0 (ls f.0 grown) (rs f.0 grown) c some f.2 }

-- which numbers are owned behind a round

pub one_of : (left right : List ℕ) (x : ℕ) → IsAmong left x ⊎ (IsNoneOf left x × (IsAmong right x ⊎ IsNoneOf right x))
one_of left right x = by_left (list_any (eqb x) left) refl
  where
    by_right : (b : Bool) → list_any (eqb x) right ≡ b → IsAmong right x ⊎ IsNoneOf right x
    by_right true is = inl is
    by_right false is = inr is

    by_left : (b : Bool) → list_any (eqb x) left ≡ b → IsAmong left x ⊎ (IsNoneOf left x × (IsAmong right x ⊎ IsNoneOf right x))
    by_left true is = inl is
    by_left false is = inr (is, by_right (list_any (eqb x) right) refl)

pub lent_ones : (left right : List ℕ) (c : Claim) → ((x : ℕ) → IsNoneOf left x → IsNoneOf right x → owns c x ≡ true) → (x : ℕ) → owns c x ≡ false → IsAmong left x ⊎ IsAmong right x
lent_ones left right c others x lent = elim (one_of left right x) [
  | inl is ↦ inl is
  | inr none ↦ elim none.1 [ inl is ↦ inr is | inr neither ↦ absurd (false≢true (sym lent ∙ others x none.0 neither)) ]
]

pub all_owned : (left right : List ℕ) (c d e : Claim) → ((x : ℕ) → IsNoneOf left x → IsNoneOf right x → owns c x ≡ true) → ((x : ℕ) → owns c x ≡ true → owns d x ≡ true) → ((x : ℕ) → IsAmong left x → owns d x ≡ true)
    → ((x : ℕ) → owns d x ≡ true → owns e x ≡ true) → ((x : ℕ) → IsAmong right x → owns e x ≡ true) → OwnsAll e
all_owned left right c d e others still back still_too back_too x = elim (one_of left right x) [
  | inl is ↦ still_too x (back x is)
  | inr none ↦ elim none.1 [ inl is ↦ back_too x is | inr neither ↦ still_too x (still x (others x none.0 neither)) ]
]

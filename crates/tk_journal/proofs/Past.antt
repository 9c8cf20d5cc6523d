-- The history at a position, and the state and version of one object in it.
use Rattle.std.proofs.Common.{◌≡◌, ℕ, suc, ◌≤◌, ◌<◌, List, [], ◌∷◌, length, Option, None, Bool, true, false, ◌&&◌, refl, sym, ap, ◌∙◌, inl, inr, arith}
use Rattle.std.specs.Prelude.{nat_le, nat_lt, ◌||◌, ◌⊎◌}
use Rattle.std.proofs.lemmas.Bool.{cases_Bool, leb-false, le-leb, lt-leb, ltb-false}
use Rattle.tk_journal.specs.declared.entry.Entry.{Entry}
use Rattle.tk_journal.specs.Effects.{is_create}
use Rattle.tk_journal.specs.History.{past, state_of, last_of, counts}

pub past_older : (n : ℕ) (e : Entry) (older : List Entry) → n ≤ length older → past n (e ∷ older) ≡ past n older
past_older n e older le = rw (lt-leb (suc (length older)) n (omega arith)) refl

pub past_whole : (n : ℕ) (history : List Entry) → length history ≤ n → past n history ≡ history
past_whole n [] le = refl
past_whole n (e ∷ older) le = rw (le-leb (suc (length older)) n (omega arith)) refl

-- an older part is the same at each later position
pub past_all : (n : ℕ) (history : List Entry) → (past n history ≡ history) ⊎ (n < length history)
past_all n [] = inl refl
past_all n (e ∷ older) = elim (cases_Bool (nat_le (suc (length older)) n)) [
  | inl hit ↦ inl (rw hit refl)
  | inr miss ↦ inr (omega (arith, leb-false (suc (length older)) n miss))
]

-- neither of two
no_left : (a b : Bool) → (a || b) ≡ false → a ≡ false
no_left false b is = refl
no_left true b is = cc

no_right : (a b : Bool) → (a || b) ≡ false → b ≡ false
no_right false b is = is
no_right true b is = cc

pub last_of-le : (mine : Entry → Bool) (history : List Entry) → last_of mine history ≤ length history
last_of-le mine [] = omega arith
last_of-le mine (e ∷ older) = elim (cases_Bool (mine e && counts e (last_of mine older))) [
  | inl hit ↦ rw hit (omega arith)
  | inr miss ↦ rw miss (omega (arith, last_of-le mine older))
]

pub length-past : (n : ℕ) (history : List Entry) → length (past n history) ≤ length history
length-past n [] = omega arith
length-past n (e ∷ older) = elim (cases_Bool (nat_le (suc (length older)) n)) [
  | inl hit ↦ rw hit (omega arith)
  | inr miss ↦ rw miss (omega (arith, length-past n older))
]

module _ {X : Type 0} (mine : Entry → Bool) (written : List Entry → Entry → Option X → Option X) where
  pub state_skip : (e : Entry) (older : List Entry) → mine e ≡ false → state_of mine written (e ∷ older) ≡ state_of mine written older
  state_skip e older miss = rw miss refl

  pub state_hit : (e : Entry) (older : List Entry) → mine e ≡ true → state_of mine written (e ∷ older) ≡ written older e (state_of mine written older)
  state_hit e older hit = rw hit refl

  -- what an entry leaves of an object: as it was, or as the entry writes it
  pub state_cases : (P : Option X → Type 0) (e : Entry) (older : List Entry) → (mine e ≡ false → P (state_of mine written older)) → (mine e ≡ true → P (written older e (state_of mine written older))) → P (state_of mine written (e ∷ older))
  state_cases P e older same changed = elim (cases_Bool (mine e)) [
    | inl hit ↦ rw hit (changed hit)
    | inr miss ↦ rw miss (same miss)
  ]

module _ {X : Type 0} (mine : Entry → Bool) (written : List Entry → Entry → Option X → Option X) (waits : (older : List Entry) (e : Entry) → mine e ≡ true → is_create e.act ≡ false → written older e None ≡ None) where
  -- what none made isn't there
  pub no_state : (history : List Entry) → last_of mine history ≡ 0 → state_of mine written history ≡ None
  no_state [] none = refl
  no_state (e ∷ older) none = elim (cases_Bool (mine e)) [
    | inl hit ↦ elim (cases_Bool (counts e (last_of mine older))) [
      | inl counted ↦ let now = rw (hit, counted) at none in absurd (omega (arith, now))
      | inr other ↦
          let before : last_of mine older ≡ 0 = rw (hit, other) at none in
          rw hit (ap (written older e) (no_state older before) ∙ waits older e hit (no_left (is_create e.act) (nat_lt 0 (last_of mine older)) other))
    ]
    | inr miss ↦ rw miss (no_state older (rw miss at none))
  ]

  -- the same version is the same object
  pub same_state : (n : ℕ) (history : List Entry) → last_of mine (past n history) ≡ last_of mine history → state_of mine written (past n history) ≡ state_of mine written history
  same_state n [] same = refl
  same_state n (e ∷ older) same = elim (cases_Bool (nat_le (suc (length older)) n)) [
    | inl hit ↦ rw hit refl
    | inr miss ↦ elim (cases_Bool (mine e)) [
      | inl hit ↦ elim (cases_Bool (counts e (last_of mine older))) [
        | inl counted ↦
            let below : last_of mine (past n older) ≤ length (past n older) = last_of-le mine (past n older) in
            let short : length (past n older) ≤ length older = length-past n older in
            let now = rw (miss, hit, counted) at same in
            absurd (omega (arith, now))
        | inr other ↦
            let early : last_of mine (past n older) ≡ last_of mine older = rw (miss, hit, other) at same in
            let none : last_of mine older ≡ 0 = omega (arith, ltb-false 0 (last_of mine older) (no_right (is_create e.act) (nat_lt 0 (last_of mine older)) other)) in
            let made : written older e None ≡ None = waits older e hit (no_left (is_create e.act) (nat_lt 0 (last_of mine older)) other) in
            rw (miss, hit) (same_state n older early ∙ (no_state older none ∙ sym (ap (written older e) (no_state older none) ∙ made)))
      ]
      | inr other ↦ rw (miss, other) (same_state n older (rw (miss, other) at same))
    ]
  ]

-- an older position of an older position
pub past_past : (n m : ℕ) (history : List Entry) → n ≤ m → past n (past m history) ≡ past n history
past_past n m [] le = refl
past_past n m (e ∷ older) le = elim (cases_Bool (nat_le (suc (length older)) m)) [
  | inl hit ↦ rw hit refl
  | inr miss ↦
      let short : m < suc (length older) = leb-false (suc (length older)) m miss in
      rw miss (past_past n m older le ∙ sym (past_older n e older (omega arith)))
]

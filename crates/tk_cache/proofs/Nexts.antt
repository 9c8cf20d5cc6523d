-- The next front, one entry at a time.
use Rattle.std.proofs.Common.{◌≡◌, ◌⊎◌, ℕ, suc, ◌+◌, ◌-◌, ◌<◌, ◌≤◌, List, [], ◌∷◌, length, Some, true, false, refl, ap, sym, ◌∙◌, inl, inr, arith}
use Rattle.std.specs.Prelude.{nat_le, nat_lt, nat_eq, if◌then◌else◌}
use Rattle.std.proofs.lemmas.Bool.{cases_Bool, eqb-true, eqb-false, ne_eqb, lt-ltb, le-ltb}
use Rattle.tk_types.specs.declared.scenario.Kind.{Kind}
use Rattle.tk_journal.specs.declared.entry.Entry.{Entry}
use Rattle.tk_journal.specs.Journal.{entry_at}
use Rattle.tk_journal.specs.Effects.{kind_of, same_kind}
use Rattle.tk_journal.proofs.Past.{past_older, past_whole}
use Rattle.tk_journal.proofs.Positions.{past_step}
use Rattle.tk_cache.specs.Fronts.{count_of_kind, count_until, position_of, next_front}

count_grows : (kind : Kind) (e : Entry) (older : List Entry) → count_of_kind kind older ≤ count_of_kind kind (e ∷ older)
count_grows kind e older = elim (cases_Bool (same_kind kind (kind_of e.act))) [
  | inl hit ↦ rw hit (omega arith)
  | inr miss ↦ rw miss (omega arith)
]

count_below : (kind : Kind) (position : ℕ) (history : List Entry) → count_until kind position history ≤ count_of_kind kind history
count_below kind position [] = omega arith
count_below kind position (e ∷ older) = elim (cases_Bool (nat_le (suc (length older)) position)) [
  | inl hit ↦ rw hit (omega arith)
  | inr miss ↦ let rest = count_below kind position older in let more = count_grows kind e older in rw miss (omega (arith, rest, more))
]

entry_within : (position : ℕ) (e : Entry) (history : List Entry) → entry_at position history ≡ Some e → position ≤ length history
entry_within position e [] is = cc
entry_within position e (d ∷ older) is = elim (cases_Bool (nat_eq position (suc (length older)))) [
  | inl hit ↦ omega (arith, eqb-true position (suc (length older)) hit)
  | inr miss ↦ let rest = entry_within position e older (sym (rw miss refl) ∙ is) in omega (arith, rest)
]

module _ (kind : Kind) (at : ℕ) (e : Entry) where
  count_hit : (history : List Entry) → entry_at (at + 1) history ≡ Some e → same_kind kind (kind_of e.act) ≡ true → count_until kind (at + 1) history ≡ suc (count_until kind at history)
  count_hit history is own = ap (count_of_kind kind) (past_step at e history is) ∙ (rw own refl)

  count_miss : (history : List Entry) → entry_at (at + 1) history ≡ Some e → same_kind kind (kind_of e.act) ≡ false → count_until kind (at + 1) history ≡ count_until kind at history
  count_miss history is other = ap (count_of_kind kind) (past_step at e history is) ∙ (rw other refl)

  -- an entry of the kind is the next one of them
  position_there : (history : List Entry) → entry_at (at + 1) history ≡ Some e → same_kind kind (kind_of e.act) ≡ true → position_of kind (suc (count_until kind at history)) history ≡ at + 1
  position_there [] is own = cc
  position_there (d ∷ older) is own = elim (cases_Bool (nat_eq (at + 1) (suc (length older)))) [
    | inl hit ↦
        let here : at + 1 ≡ suc (length older) = eqb-true (at + 1) (suc (length older)) hit in
        let all : count_until kind at (d ∷ older) ≡ count_of_kind kind older = ap (count_of_kind kind) (past_older at d older (omega (arith, here)) ∙ past_whole at older (omega (arith, here))) in
        let next : nat_lt (count_of_kind kind older) (suc (count_until kind at (d ∷ older))) ≡ true = lt-ltb (count_of_kind kind older) (suc (count_until kind at (d ∷ older))) (omega (arith, all)) in
        rw next (sym here)
    | inr miss ↦
        let below : entry_at (at + 1) older ≡ Some e = sym (rw miss refl) ∙ is in
        let within : at + 1 ≤ length older = entry_within (at + 1) e older below in
        let same : count_until kind at (d ∷ older) ≡ count_until kind at older = ap (count_of_kind kind) (past_older at d older (omega (arith, within))) in
        let count = count_hit older below own in
        let most = count_below kind (at + 1) older in
        let enough : nat_lt (count_of_kind kind older) (suc (count_until kind at (d ∷ older))) ≡ false = le-ltb (count_of_kind kind older) (suc (count_until kind at (d ∷ older))) (omega (arith, same, count, most)) in
        rw enough (ap (λ n. position_of kind (suc n) older) same ∙ position_there older below own)
  ]

  module _ (left : ℕ) (history : List Entry) (some : 0 < left) (is : entry_at (at + 1) history ≡ Some e) where
    not_none : nat_eq left 0 ≡ false
    not_none = ne_eqb left 0 (λ none. let bad : 0 < 0 = omega (arith, some, none) in omega (arith, bad))

    -- what is behind n entries more of the kind
    abbrev behind : ℕ → ℕ
    behind n = if nat_lt (count_of_kind kind history) n then length history else position_of kind n history

    pub next_hit : same_kind kind (kind_of e.act) ≡ true → next_front kind (left - 1) (at + 1) history ≡ next_front kind left at history
    next_hit own =
        let count = count_hit history is own in
        elim (cases_Bool (nat_eq (left - 1) 0)) [
          | inl last ↦
              let one : left ≡ 1 = omega (arith, some, eqb-true (left - 1) 0 last) in
              let sum : count_until kind at history + left ≡ suc (count_until kind at history) = omega (arith, one) in
              let most = count_below kind (at + 1) history in
              let enough : nat_lt (count_of_kind kind history) (suc (count_until kind at history)) ≡ false = le-ltb (count_of_kind kind history) (suc (count_until kind at history)) (omega (arith, count, most)) in
              let there : behind (suc (count_until kind at history)) ≡ at + 1 = rw enough (position_there history is own) in
              rw (not_none, last) (sym there ∙ ap behind (sym sum))
          | inr more ↦
              let sum : count_until kind (at + 1) history + (left - 1) ≡ count_until kind at history + left = omega (arith, some, count) in
              rw (not_none, more) (ap behind sum)
        ]

    pub next_miss : same_kind kind (kind_of e.act) ≡ false → next_front kind left (at + 1) history ≡ next_front kind left at history
    next_miss other = rw not_none (ap (λ n. behind (n + left)) (count_miss history is other))

-- where none is left, or nothing more stands
pub next_here : (kind : Kind) (left at : ℕ) (history : List Entry) → at ≤ length history → (left ≡ 0) ⊎ (length history ≤ at) → at ≡ next_front kind left at history
next_here kind left at history within done = elim (cases_Bool (nat_eq left 0)) [
  | inl none ↦ rw none refl
  | inr some ↦ elim done [
    | inl none ↦ absurd (eqb-false left 0 some none)
    | inr end ↦
        let whole : count_until kind at history ≡ count_of_kind kind history = ap (count_of_kind kind) (past_whole at history end) in
        let positive = eqb-false left 0 some in
        let few : nat_lt (count_of_kind kind history) (count_until kind at history + left) ≡ true = lt-ltb (count_of_kind kind history) (count_until kind at history + left) (omega (arith, whole, positive)) in
        rw (some, few) (omega (arith, within, end))
  ]
]

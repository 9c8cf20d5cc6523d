-- How many entries of a kind stand at or before a front.
use Rattle.std.proofs.Common.{◌≡◌, ℕ, suc, ◌+◌, ◌≤◌, List, [], ◌∷◌, length, refl, ap, sym, subst, inl, inr, arith}
use Rattle.std.specs.Prelude.{nat_le, nat_lt, nat_eq}
use Rattle.std.proofs.lemmas.Bool.{cases_Bool, leb-true, ltb-true}
use Rattle.tk_types.specs.declared.scenario.Kind.{Kind}
use Rattle.tk_journal.specs.declared.entry.Entry.{Entry}
use Rattle.tk_journal.specs.Effects.{kind_of, same_kind}
use Rattle.tk_journal.specs.History.{past}
use Rattle.tk_journal.proofs.Past.{past_older, past_whole}
use Rattle.tk_cache.specs.Fronts.{count_of_kind, count_until, position_of, next_front}

count_more : (kind : Kind) (e : Entry) (older : List Entry) → count_of_kind kind (e ∷ older) ≤ suc (count_of_kind kind older)
count_more kind e older = elim (cases_Bool (same_kind kind (kind_of e.act))) [
  | inl hit ↦ rw hit (omega arith)
  | inr miss ↦ rw miss (omega arith)
]

count_length : (kind : Kind) (history : List Entry) → count_of_kind kind history ≤ length history
count_length kind [] = omega arith
count_length kind (e ∷ older) = let more = count_more kind e older in let rest = count_length kind older in omega (arith, more, rest)

position_within : (kind : Kind) (n : ℕ) (history : List Entry) → position_of kind n history ≤ length history
position_within kind n [] = omega arith
position_within kind n (e ∷ older) = elim (cases_Bool (nat_lt (count_of_kind kind older) n)) [
  | inl hit ↦ rw hit (omega arith)
  | inr miss ↦ rw miss (let rest = position_within kind n older in omega (arith, rest))
]

until_whole : (kind : Kind) (n : ℕ) (history : List Entry) → length history ≤ n → count_until kind n history ≡ count_of_kind kind history
until_whole kind n history le = ap (count_of_kind kind) (past_whole n history le)

count_position : (kind : Kind) (n : ℕ) (history : List Entry) → count_until kind (position_of kind n history) history ≤ n
count_position kind n [] = omega arith
count_position kind n (e ∷ older) = elim (cases_Bool (nat_lt (count_of_kind kind older) n)) [
  | inl hit ↦
      let at : position_of kind n (e ∷ older) ≡ suc (length older) = rw hit refl in
      let more = count_more kind e older in
      let below = ltb-true (count_of_kind kind older) n hit in
      subst (λ (p : ℕ). count_until kind p (e ∷ older) ≤ n) (sym at) (subst (λ (c : ℕ). c ≤ n) (sym (until_whole kind (suc (length older)) (e ∷ older) (omega arith))) (omega (arith, more, below)))
  | inr miss ↦
      let at : position_of kind n (e ∷ older) ≡ position_of kind n older = rw miss refl in
      subst (λ (p : ℕ). count_until kind p (e ∷ older) ≤ n) (sym at) (subst (λ (h : List Entry). count_of_kind kind h ≤ n) (sym (past_older (position_of kind n older) e older (position_within kind n older))) (count_position kind n older))
]

pub count_next : (kind : Kind) (n front : ℕ) (history : List Entry) → count_until kind (next_front kind n front history) history ≤ count_until kind front history + n
count_next kind n front history = elim (cases_Bool (nat_eq n 0)) [
  | inl none ↦ rw none (omega arith)
  | inr some ↦ elim (cases_Bool (nat_lt (count_of_kind kind history) (count_until kind front history + n))) [
    | inl few ↦ rw (some, few) (let below = ltb-true (count_of_kind kind history) (count_until kind front history + n) few in subst (λ (c : ℕ). c ≤ count_until kind front history + n) (sym (until_whole kind (length history) history (omega arith))) (omega (arith, below)))
    | inr enough ↦ rw (some, enough) (count_position kind (count_until kind front history + n) history)
  ]
]

length_below : (position : ℕ) (history : List Entry) → length (past position history) ≤ position
length_below position [] = omega arith
length_below position (e ∷ older) = elim (cases_Bool (nat_le (suc (length older)) position)) [
  | inl hit ↦ rw hit (leb-true (suc (length older)) position hit)
  | inr miss ↦ rw miss (length_below position older)
]

pub count_listed : (kind : Kind) (position : ℕ) (history : List Entry) → count_until kind position history ≤ position
count_listed kind position history = let more = count_length kind (past position history) in let short = length_below position history in omega (arith, more, short)

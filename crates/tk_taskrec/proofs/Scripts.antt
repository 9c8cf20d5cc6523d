-- What runs a script that begins with `#!`.
use Rattle.std.proofs.Common.{◌≡◌, ◌≤◌, ℕ, suc, List, [], ◌∷◌, length, take, false, Some, None, refl, sym, ap, ◌∙◌, inl, inr, arith}
use Rattle.std.specs.Prelude.{◌==◌, nat_lt, not, unwrap_or, if◌then◌else◌}
use Rattle.std.specs.List.{before_first, position_or_len}
use Rattle.std.proofs.lemmas.Bool.{cases_Bool, ltb-false}
use Rattle.std.proofs.lemmas.List.Sums.{prefix_len-le-length}
use Rattle.tk_journal.specs.Plan.{first_line, interpreter}
use Rattle.tk_taskrec.specs.Scripts.{first_word, behind_word, words_of}

least : (a n : ℕ) → a ≤ n → unwrap_or (if nat_lt a n then Some a else None) n ≡ a
least a n within = elim (cases_Bool (nat_lt a n)) [
  | inl hit ↦ rw hit refl
  | inr miss ↦ let past = ltb-false a n miss in rw miss (omega (arith, within, past))
]

up_to : (text : List ℕ) → first_line text ≡ before_first (λ b. b == 10) text
up_to text = ap (λ (n : ℕ). take n text) (least _ (length text) (prefix_len-le-length (λ b. not (b == 10)) text))

take_two : (n m a b : ℕ) (xs : List ℕ) → m ≡ suc (suc n) → take m (a ∷ b ∷ xs) ≡ a ∷ b ∷ take n xs
take_two n m a b xs is = rw is refl

line_behind : (rest : List ℕ) → first_line (35 ∷ 33 ∷ rest) ≡ 35 ∷ 33 ∷ first_line rest
line_behind rest =
    let more = take_two (position_or_len (λ b. b == 10) rest) (position_or_len (λ b. b == 10) (35 ∷ 33 ∷ rest)) 35 33 rest (omega arith) in
    up_to (35 ∷ 33 ∷ rest) ∙ (more ∙ ap (λ (r : List ℕ). 35 ∷ 33 ∷ r) (sym (up_to rest)))

runs_with : (rest program word : List ℕ) → first_word (first_line rest) ≡ program → behind_word (first_line rest) ≡ word → (length program == 0) ≡ false → interpreter (35 ∷ 33 ∷ rest) ≡ Some (words_of program word)
runs_with rest [] word p w some = absurd (cc (some))
runs_with rest (b ∷ bs) [] p w some = rw (line_behind rest, p, w) refl
runs_with rest (b ∷ bs) (c ∷ cs) p w some = rw (line_behind rest, p, w) refl

pub runs : (text rest program word : List ℕ) → text ≡ 35 ∷ 33 ∷ rest → program ≡ first_word (first_line rest) → word ≡ behind_word (first_line rest) → (length program == 0) ≡ false → interpreter text ≡ Some (words_of program word)
runs text rest program word is p w some = ap interpreter is ∙ runs_with rest program word (sym p) (sym w) some

-- What one entry adds to the sample journal.
use Rattle.std.proofs.Common.{◌≡◌, ℕ, suc, Bool, eq-eqb, cond, List, [], ◌∷◌, ◌++◌, map, append-nil, refl, sym, ap, ◌∙◌}
use Rattle.std.proofs.lemmas.List.{map-append}
use Rattle.std.proofs.lemmas.List.Elements.{All-nil, All-cons}
use Rattle.tk_turn.specs.Claims.{Note, written_by}
use Rattle.tk_host_tests.specs.Sample.{note_of, numbered}
use Rattle.tk_turn.proofs.Seats.{written_append}
use Rattle.tk_passes.specs.Notes.{Adds, NoneOf}
use Rattle.tk_passes.proofs.Standing.{none_written}

abbrev Any : Note → Type 0
Any note = Unit {0}

pub none_added : (n : ℕ) (was now : List (ℕ × ℕ)) → now ≡ was → Adds n Any (map note_of was) (map note_of now)
none_added n was now is = record { new = []; grown = ap (map note_of) is ∙ sym (append-nil (map note_of was)); own = tt; such = All-nil Any }

grown_by : (n v : ℕ) (was now : List (ℕ × ℕ)) → now ≡ was ++ (n, v) ∷ [] → map note_of now ≡ map note_of was ++ note_of (n, v) ∷ []
grown_by n v was now is = ap (map note_of) is ∙ map-append note_of was ((n, v) ∷ [])

pub one_added : (n v : ℕ) (was now : List (ℕ × ℕ)) → now ≡ was ++ (n, v) ∷ [] → Adds n Any (map note_of was) (map note_of now)
one_added n v was now is = record { new = note_of (n, v) ∷ []; grown = grown_by n v was now is; own = (refl, tt); such = All-cons Any (note_of (n, v)) [] tt (All-nil Any) }

pub one_written : (n v w : ℕ) (was now : List (ℕ × ℕ)) → w ≡ suc v → now ≡ was ++ (n, v) ∷ [] → written_by n (map note_of was) ≡ numbered n v → written_by n (map note_of now) ≡ numbered n w
one_written n v w was now more is before =
    let one : written_by n (note_of (n, v) ∷ []) ≡ note_of (n, v) ∷ [] = ap (λ (b : Bool). cond b (note_of (n, v) ∷ []) []) (eq-eqb n n refl) in
    ap (written_by n) (grown_by n v was now is) ∙ (written_append n (map note_of was) (note_of (n, v) ∷ []) ∙ ((λ i. before i ++ one i) ∙ ap (numbered n) (sym more)))

pub others_written : (n : ℕ) (journal rest : List Note) → NoneOf n rest → written_by n (journal ++ rest) ≡ written_by n journal
others_written n journal rest none = written_append n journal rest ∙ (ap (λ (l : List Note). written_by n journal ++ l) (none_written n rest none) ∙ append-nil (written_by n journal))

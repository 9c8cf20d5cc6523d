-- A length, its payload and what follows.
use Rattle.std.proofs.Common.{◌≡◌, ℕ, zero, suc, ◌+◌, ◌-◌, ◌≤◌, ◌<◌, ◌^◌, List, [], ◌∷◌, ◌++◌, length, get_or, take, drop, refl, sym, ◌∙◌, ap, arith, append_assoc, take-append-drop}
use Rattle.std.proofs.lemmas.List.{take_at, length-take-le, length-take, length-drop}
use Rattle.std.proofs.Math.Seq.{drop-append-add}
use Rattle.std.proofs.lemmas.Nat.{le_bytes_8, from_le_bytes-to_le_bytes_8}
use Rattle.std.specs.Int.{to_le_bytes, from_le_bytes, w64}
use Rattle.tk_journal.specs.declared.entry.Entry.{Entry}
use Rattle.tk_payload.specs.Fits.{IsEntry}
use Rattle.tk_payload.specs.Forms.{entry_text}
use Rattle.tk_durable.specs.Damage.{BeginsWith, IsWholeAt}
use Rattle.tk_durable.specs.Journal.{sized}

small : (n : ℕ) (l : List ℕ) → ((i : ℕ) → get_or l i 0 < 256) → (i : ℕ) → get_or (take n l) i 0 < 256
small zero l each i = omega arith
small (suc n) [] each i = omega arith
small (suc n) (x ∷ l) each zero = each zero
small (suc n) (x ∷ l) each (suc i) = small n l (λ j. each (suc j)) i

abbrev first8 : List ℕ → List ℕ
first8 t = get_or t 0 0 ∷ get_or t 1 0 ∷ get_or t 2 0 ∷ get_or t 3 0 ∷ get_or t 4 0 ∷ get_or t 5 0 ∷ get_or t 6 0 ∷ get_or t 7 0 ∷ []

take8 : (t : List ℕ) → 8 ≤ length t → take 8 t ≡ first8 t
take8 ([]) long = absurd (omega arith)
take8 (a ∷ []) long = absurd (omega arith)
take8 (a ∷ b ∷ []) long = absurd (omega arith)
take8 (a ∷ b ∷ c ∷ []) long = absurd (omega arith)
take8 (a ∷ b ∷ c ∷ d ∷ []) long = absurd (omega arith)
take8 (a ∷ b ∷ c ∷ d ∷ e ∷ []) long = absurd (omega arith)
take8 (a ∷ b ∷ c ∷ d ∷ e ∷ f ∷ []) long = absurd (omega arith)
take8 (a ∷ b ∷ c ∷ d ∷ e ∷ f ∷ g ∷ []) long = absurd (omega arith)
take8 (a ∷ b ∷ c ∷ d ∷ e ∷ f ∷ g ∷ h ∷ t) long = refl

drop_plus : (m n : ℕ) (l : List ℕ) → m ≤ length l → drop n (drop m l) ≡ drop (m + n) l
drop_plus m n l le = let size : length (take m l) ≡ m = length-take-le m l le in
    sym (ap (λ (k : ℕ). drop (k + n) l) (sym size) ∙ ap (λ (x : List ℕ). drop (length (take m l) + n) x) (sym (take-append-drop m l)) ∙ drop-append-add (take m l) (drop m l) n)

pub fits_in : (n : ℕ) (t : List ℕ) → 8 ≤ length t → n < length (take (length t - 8) (drop 8 t)) → 8 + n ≤ length t
fits_in n t long less = omega (arith, long, less, length-take (length t - 8) (drop 8 t), length-drop 8 t)

pub split : (tail : List ℕ) (n : ℕ) → 8 + n ≤ length tail → ((i : ℕ) → get_or tail i 0 < 256) → n ≡ from_le_bytes w64 (first8 tail) → tail ≡ sized (take n (drop 8 tail)) ++ drop (8 + n) tail
split tail n long bytes is =
    let behind = drop 8 tail in
    let payload_long : length (take n behind) ≡ n = length-take-le n behind (omega (arith, long, length-drop 8 tail)) in
    let is8 : n ≡ from_le_bytes w64 (take 8 tail) = is ∙ ap (λ (l : List ℕ). from_le_bytes w64 l) (sym (take8 tail (omega (arith, long)))) in
    let head_is : to_le_bytes w64 (length (take n behind)) ≡ take 8 tail = ap (λ (m : ℕ). to_le_bytes w64 m) payload_long ∙ le_bytes_8 (take 8 tail) n (length-take-le 8 tail (omega (arith, long))) (small 8 tail bytes) is8 in
    let rest_is : drop n behind ≡ drop (8 + n) tail = drop_plus 8 n tail (omega (arith, long)) in
    sym (append_assoc (to_le_bytes w64 (length (take n behind))) (take n behind) (drop (8 + n) tail)
    ∙ ap (λ (l : List ℕ). l ++ (take n behind ++ drop (8 + n) tail)) head_is
    ∙ ap (λ (l : List ℕ). take 8 tail ++ (take n behind ++ l)) (sym rest_is)
    ∙ ap (λ (l : List ℕ). take 8 tail ++ l) (take-append-drop n behind)
    ∙ take-append-drop 8 tail)

-- the payload that is read is the one that stands there
pub same_payload : (tail payload : List ℕ) (n gate : ℕ) (behind : List ℕ) → 8 + n ≤ length tail → tail ≡ sized (take n (drop 8 tail)) ++ drop (8 + n) tail → length payload < 2 ^ 64 → n < 2 ^ 64 → tail ≡ sized payload ++ (gate ∷ behind) → take n (drop 8 tail) ≡ payload
same_payload tail payload n gate behind long is fits n_fits stands =
    let rest : drop 8 tail ≡ payload ++ (gate ∷ behind) = ap (λ (l : List ℕ). drop 8 l) stands in
    let own_rest : to_le_bytes w64 (length (take n (drop 8 tail))) ≡ to_le_bytes w64 (length payload) = ap (λ (l : List ℕ). take 8 l) (sym is ∙ stands) in
    let size : length (take n (drop 8 tail)) ≡ n = length-take-le n (drop 8 tail) (omega (arith, long, length-drop 8 tail)) in
    let numbers : length (take n (drop 8 tail)) ≡ length payload =
    sym (from_le_bytes-to_le_bytes_8 (length (take n (drop 8 tail))) (omega (arith, size, n_fits))) ∙ ap (λ (l : List ℕ). from_le_bytes w64 l) own_rest ∙ from_le_bytes-to_le_bytes_8 (length payload) fits in
    ap (λ (l : List ℕ). take n l) rest ∙ take_at payload (gate ∷ behind) n (sym numbers ∙ size)

-- the entry whose text stands there
pub begins : (tail : List ℕ) (e : Entry) (n : ℕ) → 8 + n < length tail → n < 2 ^ 64 → tail ≡ sized (take n (drop 8 tail)) ++ drop (8 + n) tail → IsEntry e → take n (drop 8 tail) ≡ entry_text e → BeginsWith tail e n
begins tail e n within n_fits is is_entry same =
    let size : length (take n (drop 8 tail)) ≡ n = length-take-le n (drop 8 tail) (omega (arith, within, length-drop 8 tail)) in
    let long : n ≡ length (entry_text e) = sym size ∙ ap length same in
    record {
      is = is ∙ ap (λ (p : List ℕ). sized p ++ drop (8 + n) tail) same;
      long = long;
      within = within;
      is_entry = is_entry;
      fits = omega (arith, sym long, n_fits);
    }

-- behind a gate
pub whole : (file : List ℕ) (gate n : ℕ) (e : Entry) → gate < length file → BeginsWith (drop (gate + 1) file) e n → IsWholeAt file gate e (gate + 9 + n)
whole file gate n e within begins = record {
  is = begins.is ∙ ap (λ (l : List ℕ). sized (entry_text e) ++ l) (drop_plus (gate + 1) (8 + n) file (omega (arith, within)) ∙ ap (λ (k : ℕ). drop k file) (omega arith));
  at = omega (arith, begins.long);
  within = omega (arith, begins.within, length-drop (gate + 1) file);
  is_entry = begins.is_entry;
  fits = begins.fits;
}

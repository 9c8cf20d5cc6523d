-- Lists of numbers that differ.
use Rattle.std.proofs.Common.{◌≡◌, ◌≢◌, ℕ, ◌<◌, Bool, true, false, List, [], ◌∷◌, map, length, get_or, bytes_eq, refl, sym, ap, ◌∙◌, zero-add, arith}
use Rattle.std.specs.List.{range_with_len}
use Rattle.std.proofs.lemmas.Cmp.{nat_list_eq_equiv}
use Rattle.std.proofs.lemmas.List.{ext_get_or, get_or-map, length-map}
use Rattle.std.proofs.lemmas.List.FromFn.{length-range_with_len, get_or-range_with_len}
use Rattle.std.proofs.lemmas.Slice.Eq.{bytes_eq-Decides}
use Rattle.tk_types.specs.declared.run.Child.{Child}
use denote.Bor.{Bor}

pub false_from : (b : Bool) → (b ≡ true → ⊥) → false ≡ b
false_from true never = absurd (never refl)
false_from false never = refl

-- of other lengths
lists_differ : (xs ys : List ℕ) → length xs ≢ length ys → false ≡ bytes_eq xs ys
lists_differ xs ys differ = false_from (bytes_eq xs ys) (λ same. differ (ap length ((bytes_eq-Decides xs ys).0 same)))

abbrev indexes : List (Bor Child) → List ℕ
indexes children = map (λ (c : Child). c.index) (map (λ (c : Bor Child). c.now) children)

indexes-length : (children : List (Bor Child)) → length (indexes children) ≡ length children
indexes-length children = length-map (map (λ (c : Bor Child). c.now) children) (λ (c : Child). c.index) ∙ length-map children (λ (c : Bor Child). c.now)

indexes-at : (children : List (Bor Child)) (k : ℕ) (d : Bor Child) (e : ℕ) → k < length children → get_or (indexes children) k e ≡ (get_or children k d).now.index
indexes-at children k d e lt =
    get_or-map (λ (c : Child). c.index) (map (λ (c : Bor Child). c.now) children) k d.now e (omega (arith, length-map children (λ (c : Bor Child). c.now)))
    ∙ ap (λ (c : Child). c.index) (get_or-map (λ (c : Bor Child). c.now) children k d d.now lt)

pub counts_differ : (children : List (Bor Child)) (count : ℕ) → length children ≢ count → false ≡ bytes_eq (indexes children) (range_with_len 0 count)
counts_differ children count differ =
    lists_differ (indexes children) (range_with_len 0 count) (λ same. differ (sym (indexes-length children) ∙ (same ∙ length-range_with_len 0 count)))

-- the child at k has another index
pub index_differs : (children : List (Bor Child)) (count k : ℕ) (d : Bor Child) → k < length children → length children ≡ count → (get_or children k d).now.index ≢ k → false ≡ bytes_eq (indexes children) (range_with_len 0 count)
index_differs children count k d lt long differ =
    false_from (bytes_eq (indexes children) (range_with_len 0 count))
    (λ same.
    let lists : indexes children ≡ range_with_len 0 count = (bytes_eq-Decides (indexes children) (range_with_len 0 count)).0 same in
    differ (sym (indexes-at children k d 0 lt) ∙ (ap (λ (ns : List ℕ). get_or ns k 0) lists ∙ (get_or-range_with_len 0 count k 0 (omega arith) ∙ zero-add k))))

-- each child so far has its place as its index
abbrev pub Rise : List (Bor Child) → ℕ → Type 0
Rise children n = (k : ℕ) (d : Bor Child) → k < n → (get_or children k d).now.index ≡ k

rise_from : (first : Bor Child) (children : List (Bor Child)) (count : ℕ) → length children ≡ count → Rise children count → indexes children ≡ range_with_len 0 count
rise_from first children count long rise =
    ext_get_or 0 (indexes children) (range_with_len 0 count) (indexes-length children ∙ (long ∙ sym (length-range_with_len 0 count)))
    (λ k lt.
    let within : k < length children = omega (arith, indexes-length children) in
    indexes-at children k first 0 within ∙ (rise k first (omega arith) ∙ sym (get_or-range_with_len 0 count k 0 (omega arith) ∙ zero-add k)))

same_list : (xs ys : List ℕ) → xs ≡ ys → true ≡ bytes_eq xs ys
same_list xs ys same = sym (nat_list_eq_equiv.refl xs) ∙ ap (bytes_eq xs) same

pub all_rise : (children : List (Bor Child)) (count : ℕ) → length children ≡ count → Rise children count → true ≡ bytes_eq (indexes children) (range_with_len 0 count)
all_rise [] count long rise = same_list [] (range_with_len 0 count) (ap (range_with_len 0) long)
all_rise (c ∷ children) count long rise = same_list (indexes (c ∷ children)) (range_with_len 0 count) (rise_from c (c ∷ children) count long rise)

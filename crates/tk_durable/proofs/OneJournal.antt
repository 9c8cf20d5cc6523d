-- A file has one journal at most, and none where it is damaged, at one gate.
use Rattle.std.proofs.Common.{◌≡◌, ◌≢◌, inl, inr, ℕ, suc, ◌<◌, ◌^◌, List, [], ◌∷◌, ◌++◌, length, get_or, take, drop, All, refl, sym, ◌∙◌, ap, arith, append_assoc}
use Rattle.std.proofs.lemmas.List.{take_at, drop_at}
use Rattle.std.proofs.lemmas.Nat.{from_le_bytes-to_le_bytes_8}
use Rattle.std.specs.Int.{to_le_bytes, from_le_bytes, w64}
use Rattle.tk_journal.specs.declared.entry.Entry.{Entry}
use Rattle.tk_payload.specs.Fits.{IsEntry}
use Rattle.tk_payload.specs.Forms.{entry_text}
use Rattle.tk_payload.proofs.EntryText.{one_entry}
use Rattle.tk_durable.specs.Damage.{IsBroken, BrokenAt, IsHeadless, IsDamaged}
use Rattle.tk_durable.specs.Journal.{head, sized, blocks, end_of, HasLength, IsJournal}

abbrev Fit : List Entry → Type 0
Fit = All HasLength

-- the payload of a length and payload is one
same_payload : (p q r s : List ℕ) → length p < 2 ^ 64 → length q < 2 ^ 64 → sized p ++ r ≡ sized q ++ s → p ≡ q
same_payload p q r s p_fits q_fits same =
    let lengths : to_le_bytes w64 (length p) ≡ to_le_bytes w64 (length q) = ap (λ (l : List ℕ). take 8 l) same in
    let size : length p ≡ length q = sym (from_le_bytes-to_le_bytes_8 (length p) p_fits) ∙ ap (λ (l : List ℕ). from_le_bytes w64 l) lengths ∙ from_le_bytes-to_le_bytes_8 (length q) q_fits in
    let rest : p ++ r ≡ q ++ s = ap (λ (l : List ℕ). drop 8 l) same in
    sym (take_at p r (length p) refl) ∙ ap (λ (l : List ℕ). take (length p) l) rest ∙ take_at q s (length p) (sym size)

same_rest : (p q r s : List ℕ) → p ≡ q → sized p ++ r ≡ sized q ++ s → r ≡ s
same_rest p q r s is same =
    sym (drop_at (sized p) r (length (sized q)) (ap (λ (l : List ℕ). length (sized l)) is)) ∙ ap (λ (l : List ℕ). drop (length (sized q)) l) same ∙ drop_at (sized q) s (length (sized q)) refl

block_rest : (p ps_bytes : List ℕ) (end : List ℕ) → ((1 ∷ sized p) ++ ps_bytes) ++ end ≡ 1 ∷ (sized p ++ (ps_bytes ++ end))
block_rest p ps_bytes end = append_assoc (1 ∷ sized p) ps_bytes end

pub one : (es fs : List Entry) (g h : ℕ) (a b : List ℕ) → Fit es → Fit fs → All IsEntry es → All IsEntry fs → g ≢ 1 → h ≢ 1 → blocks es ++ (g ∷ a) ≡ blocks fs ++ (h ∷ b) → es ≡ fs
one [] [] g h a b ef ff ee fe g1 h1 same = refl
one [] (f ∷ fs) g h a b ef ff ee fe g1 h1 same = absurd (g1 (ap (λ (l : List ℕ). get_or l 0 0) same))
one (e ∷ es) [] g h a b ef ff ee fe g1 h1 same = absurd (h1 (sym (ap (λ (l : List ℕ). get_or l 0 0) same)))
one (e ∷ es) (f ∷ fs) g h a b ef ff ee fe g1 h1 same =
    let tails : sized (entry_text e) ++ (blocks es ++ (g ∷ a)) ≡ sized (entry_text f) ++ (blocks fs ++ (h ∷ b)) =
    ap (λ (l : List ℕ). drop 1 l) (sym (block_rest (entry_text e) (blocks es) (g ∷ a)) ∙ same ∙ block_rest (entry_text f) (blocks fs) (h ∷ b)) in
    let texts : entry_text e ≡ entry_text f = same_payload (entry_text e) (entry_text f) _ _ (ef 0 e (omega arith)) (ff 0 f (omega arith)) tails in
    let is : e ≡ f = one_entry e f (ee 0 e (omega arith)) (fe 0 f (omega arith)) texts in
    let rest : es ≡ fs = one es fs g h a b (λ k d less. ef (suc k) d (omega (arith, less))) (λ k d less. ff (suc k) d (omega (arith, less)))
    (λ k d less. ee (suc k) d (omega (arith, less))) (λ k d less. fe (suc k) d (omega (arith, less))) g1 h1 (same_rest (entry_text e) (entry_text f) _ _ texts tails) in
    λ i. is i ∷ rest i

-- nor is a block broken that is whole in a journal
pub none : (es fs : List Entry) (g : ℕ) (a tail : List ℕ) → Fit es → Fit fs → All IsEntry es → g ≢ 1 → IsBroken tail → blocks es ++ (g ∷ a) ≡ blocks fs ++ (1 ∷ tail) → ⊥
none [] [] g a tail ef ff ee g1 broken same = g1 (ap (λ (l : List ℕ). get_or l 0 0) same)
none [] (f ∷ fs) g a tail ef ff ee g1 broken same = g1 (ap (λ (l : List ℕ). get_or l 0 0) same)
none (e ∷ []) [] g a tail ef ff ee g1 broken same =
    broken e g a (ee 0 e (omega arith)) (ef 0 e (omega arith)) (ap (λ (l : List ℕ). drop 1 l) (sym same ∙ block_rest (entry_text e) [] (g ∷ a)))
none (e ∷ e2 ∷ es) [] g a tail ef ff ee g1 broken same =
    broken e 1 (sized (entry_text e2) ++ (blocks es ++ (g ∷ a))) (ee 0 e (omega arith)) (ef 0 e (omega arith))
    (ap (λ (l : List ℕ). drop 1 l) (sym same ∙ block_rest (entry_text e) (blocks (e2 ∷ es)) (g ∷ a)) ∙ ap (λ (l : List ℕ). sized (entry_text e) ++ l) (block_rest (entry_text e2) (blocks es) (g ∷ a)))
none (e ∷ es) (f ∷ fs) g a tail ef ff ee g1 broken same =
    let tails : sized (entry_text e) ++ (blocks es ++ (g ∷ a)) ≡ sized (entry_text f) ++ (blocks fs ++ (1 ∷ tail)) =
    ap (λ (l : List ℕ). drop 1 l) (sym (block_rest (entry_text e) (blocks es) (g ∷ a)) ∙ same ∙ block_rest (entry_text f) (blocks fs) (1 ∷ tail)) in
    let texts : entry_text e ≡ entry_text f = same_payload (entry_text e) (entry_text f) _ _ (ef 0 e (omega arith)) (ff 0 f (omega arith)) tails in
    none es fs g a tail (λ k d less. ef (suc k) d (omega (arith, less))) (λ k d less. ff (suc k) d (omega (arith, less))) (λ k d less. ee (suc k) d (omega (arith, less))) g1 broken (same_rest (entry_text e) (entry_text f) _ _ texts tails)

-- without the 8 bytes
past_head : (es : List Entry) (a : List ℕ) → (head ++ blocks es) ++ a ≡ head ++ (blocks es ++ a)
past_head es a = append_assoc head (blocks es) a

pub one_journal : (entries others : List Entry) (file : List ℕ) → IsJournal entries file → IsJournal others file → entries ≡ others
one_journal entries others file j k =
    one entries others j.gate k.gate j.behind k.behind j.lengths k.lengths j.each k.each j.closed k.closed
    (ap (λ (l : List ℕ). drop 8 l) (sym (past_head entries (j.gate ∷ j.behind)) ∙ sym j.is ∙ k.is ∙ past_head others (k.gate ∷ k.behind)))

first_gate : (entries : List Entry) (g : ℕ) (a : List ℕ) → blocks entries ++ (g ∷ a) ≡ get_or (blocks entries ++ (g ∷ a)) 0 0 ∷ drop 1 (blocks entries ++ (g ∷ a))
first_gate [] g a = refl
first_gate (e ∷ es) g a = refl

first_of : (entries : List Entry) (g : ℕ) (a : List ℕ) → head ++ (blocks entries ++ (g ∷ a)) ≡ head ++ (get_or (blocks entries ++ (g ∷ a)) 0 0 ∷ drop 1 (blocks entries ++ (g ∷ a)))
first_of entries g a = ap (λ (l : List ℕ). head ++ l) (first_gate entries g a)

pub damaged_has_none : (offset : ℕ) (entries : List Entry) (file : List ℕ) → IsDamaged offset file → IsJournal entries file → ⊥
damaged_has_none offset entries file (inl headless) j =
    headless.0 _ _ (j.is ∙ past_head entries (j.gate ∷ j.behind) ∙ first_of entries j.gate j.behind)
damaged_has_none offset entries file (inr b) j =
    none entries b.entries j.gate j.behind b.tail j.lengths b.lengths j.each j.closed b.broken
    (ap (λ (l : List ℕ). drop 8 l) (sym (past_head entries (j.gate ∷ j.behind)) ∙ sym j.is ∙ b.is ∙ past_head b.entries (1 ∷ b.tail)))

-- a whole block isn't broken, whatever blocks follow it
whole : (f : Entry) (fs : List Entry) (s t : List ℕ) → IsEntry f → HasLength f → IsBroken s → 1 ∷ s ≡ blocks (f ∷ fs) ++ (1 ∷ t) → ⊥
whole f fs s t is_entry fits broken same =
    broken f _ _ is_entry fits
    (ap (λ (l : List ℕ). drop 1 l) (same ∙ block_rest (entry_text f) (blocks fs) (1 ∷ t)) ∙ ap (λ (l : List ℕ). sized (entry_text f) ++ l) (first_gate fs 1 t))

-- so the blocks before a broken one are the same
before : (es fs : List Entry) (s t : List ℕ) → Fit es → Fit fs → All IsEntry es → All IsEntry fs → IsBroken s → IsBroken t → blocks es ++ (1 ∷ s) ≡ blocks fs ++ (1 ∷ t) → es ≡ fs
before [] [] s t ef ff ee fe bs bt same = refl
before [] (f ∷ fs) s t ef ff ee fe bs bt same = absurd (whole f fs s t (fe 0 f (omega arith)) (ff 0 f (omega arith)) bs same)
before (e ∷ es) [] s t ef ff ee fe bs bt same = absurd (whole e es t s (ee 0 e (omega arith)) (ef 0 e (omega arith)) bt (sym same))
before (e ∷ es) (f ∷ fs) s t ef ff ee fe bs bt same =
    let tails : sized (entry_text e) ++ (blocks es ++ (1 ∷ s)) ≡ sized (entry_text f) ++ (blocks fs ++ (1 ∷ t)) =
    ap (λ (l : List ℕ). drop 1 l) (sym (block_rest (entry_text e) (blocks es) (1 ∷ s)) ∙ same ∙ block_rest (entry_text f) (blocks fs) (1 ∷ t)) in
    let texts : entry_text e ≡ entry_text f = same_payload (entry_text e) (entry_text f) _ _ (ef 0 e (omega arith)) (ff 0 f (omega arith)) tails in
    let is : e ≡ f = one_entry e f (ee 0 e (omega arith)) (fe 0 f (omega arith)) texts in
    let rest : es ≡ fs = before es fs s t (λ k d less. ef (suc k) d (omega (arith, less))) (λ k d less. ff (suc k) d (omega (arith, less)))
    (λ k d less. ee (suc k) d (omega (arith, less))) (λ k d less. fe (suc k) d (omega (arith, less))) bs bt (same_rest (entry_text e) (entry_text f) _ _ texts tails) in
    λ i. is i ∷ rest i

has_head : (offset : ℕ) (file : List ℕ) → IsHeadless file → BrokenAt offset file → ⊥
has_head offset file headless b = headless _ _ (b.is ∙ past_head b.entries (1 ∷ b.tail) ∙ first_of b.entries 1 b.tail)

pub one_damage : (offset other : ℕ) (file : List ℕ) → IsDamaged offset file → IsDamaged other file → offset ≡ other
one_damage offset other file (inl headless) (inl again) = headless.1 ∙ sym again.1
one_damage offset other file (inl headless) (inr b) = absurd (has_head other file headless.0 b)
one_damage offset other file (inr b) (inl headless) = absurd (has_head offset file headless.0 b)
one_damage offset other file (inr b) (inr c) =
    let same : b.entries ≡ c.entries = before b.entries c.entries b.tail c.tail b.lengths c.lengths b.each c.each b.broken c.broken
    (ap (λ (l : List ℕ). drop 8 l) (sym (past_head b.entries (1 ∷ b.tail)) ∙ sym b.is ∙ c.is ∙ past_head c.entries (1 ∷ c.tail))) in
    b.at ∙ ap end_of same ∙ sym c.at

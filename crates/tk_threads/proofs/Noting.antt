-- From histories to the notes of their entries, and back.
use Rattle.std.proofs.Common.{◌≡◌, ℕ, true, false, Bool, eqb, List, [], ◌∷◌, ◌++◌, refl, sym, ap, ◌∙◌, subst}
use Rattle.std.specs.Prelude.{All}
use Rattle.std.proofs.lemmas.List.Elements.{All-nil, All-cons, All-head, All-tail}
use Rattle.tk_turn.specs.Claims.{Note}
use Rattle.tk_passes.specs.Notes.{Adds, AllOf, NoneOf}
use Rattle.tk_journal.specs.declared.entry.Entry.{Entry}
use Rattle.tk_journal.specs.Legal.{IsLegal}
use Rattle.tk_store.specs.Notes.{note_of, notes_of, owner_of}
use Rattle.tk_store.proofs.Noted.{notes_added, notes_grown, notes_same}
use Rattle.tk_rounds.specs.Growth.{GrowsBy, IsOwn}
use Rattle.tk_rounds.proofs.Growing.{kept}
use Rattle.tk_threads.specs.Timely.{IsTimely, Over}

pub over_is : (P : List Entry → Type 0) (history : List Entry) → Over P (notes_of history) → P history
over_is P history o = subst P (notes_same o.0 history (sym o.1)) o.2

pub over_at : (P : List Entry → Type 0) (history : List Entry) → P history → Over P (notes_of history)
over_at P history is = (history, refl, is)

-- one entry more, at the end of the notes
snoc : (e : Entry) (es : List Entry) → notes_of (e ∷ es) ≡ notes_of es ++ note_of e ∷ []
snoc e es = notes_added (e ∷ []) es

none_front : (n : ℕ) (xs ys : List Note) → NoneOf n (xs ++ ys) → NoneOf n xs
none_front n [] ys h = tt
none_front n (x ∷ xs) ys h = (h.0, none_front n xs ys h.1)

none_end : (n : ℕ) (xs ys : List Note) → NoneOf n (xs ++ ys) → NoneOf n ys
none_end n [] ys h = h
none_end n (x ∷ xs) ys h = none_end n xs ys h.1

all_of_append : (n : ℕ) (xs ys : List Note) → AllOf n xs → AllOf n ys → AllOf n (xs ++ ys)
all_of_append n [] ys p q = q
all_of_append n (x ∷ xs) ys p q = (p.0, all_of_append n xs ys p.1 q)

all_append : (P : Note → Type 0) (xs ys : List Note) → All P xs → All P ys → All P (xs ++ ys)
all_append P [] ys p q = q
all_append P (x ∷ xs) ys p q = All-cons P x (xs ++ ys) (All-head P x xs p) (all_append P xs ys (All-tail P x xs p) q)

module _ (mine : Entry → Bool) (owner : ℕ) where
  module _ (none : (e : Entry) → eqb (owner_of e.actor) owner ≡ false → mine e ≡ false) where
    none_mine : (es : List Entry) → NoneOf owner (notes_of es) → All (λ (e : Entry). mine e ≡ false) es
    none_mine [] h = All-nil (λ e. mine e ≡ false)
    none_mine (e ∷ es) h =
        let k = subst (NoneOf owner) (snoc e es) h in
        All-cons (λ x. mine x ≡ false) e es (none e (none_end owner (notes_of es) (note_of e ∷ []) k).0) (none_mine es (none_front owner (notes_of es) (note_of e ∷ []) k))

    -- what entries of others keep stays
    pub over_more : (P : List Entry → Type 0) → ((history : List Entry) (e : Entry) → IsLegal (e ∷ history) → mine e ≡ false → P history → P (e ∷ history)) → (notes rest : List Note) → Over IsLegal (notes ++ rest) → NoneOf owner rest → Over P notes → Over P (notes ++ rest)
    over_more P keeps notes rest legal others o =
        let more = notes_grown o.0 legal.0 rest (sym legal.1 ∙ ap (λ (l : List Note). l ++ rest) o.1) in
        let such = none_mine more.0 (subst (NoneOf owner) (sym more.2) others) in
        (legal.0, legal.1, kept (λ e. mine e ≡ false) P keeps o.0 legal.0 legal.2 (record { new = more.0; grown = more.1; such = such }) o.2)

    -- and what is kept where that stands
    pub over_with : (P Q : List Entry → Type 0) → ((history : List Entry) (e : Entry) → IsLegal (e ∷ history) → mine e ≡ false → P history → P (e ∷ history))
        → ((history : List Entry) (e : Entry) → IsLegal (e ∷ history) → mine e ≡ false → P history → Q history → Q (e ∷ history)) → (notes rest : List Note) → Over IsLegal (notes ++ rest) → NoneOf owner rest → Over P notes → Over Q notes → Over Q (notes ++ rest)
    over_with P Q keeps follows notes rest legal others p q =
        let both : Over (λ history. P history × Q history) notes = (p.0, p.1, (p.2, subst Q (notes_same q.0 p.0 (sym q.1 ∙ p.1)) q.2)) in
        let more = over_more (λ history. P history × Q history) (λ history e here other was. (keeps history e here other was.0, follows history e here other was.0 was.1)) notes rest legal others both in
        (more.0, more.1, more.2.1)

  module _ (own : (e : Entry) → mine e ≡ true → owner_of e.actor ≡ owner) where
    all_own : (es : List Entry) → All (IsOwn mine) es → AllOf owner (notes_of es)
    all_own [] h = tt
    all_own (e ∷ es) h =
        subst (AllOf owner) (sym (snoc e es)) (all_of_append owner (notes_of es) (note_of e ∷ []) (all_own es (All-tail (IsOwn mine) e es h)) (own e (All-head (IsOwn mine) e es h).0, tt))

    all_timely : (es : List Entry) → All (IsOwn mine) es → All (IsTimely owner) (notes_of es)
    all_timely [] h = All-nil (IsTimely owner)
    all_timely (e ∷ es) h =
        subst (All (IsTimely owner)) (sym (snoc e es))
        (all_append (IsTimely owner) (notes_of es) (note_of e ∷ []) (all_timely es (All-tail (IsOwn mine) e es h)) (All-cons (IsTimely owner) (note_of e) [] (e, refl, (All-head (IsOwn mine) e es h).1) (All-nil (IsTimely owner))))

    pub adds_own : (history after : List Entry) → GrowsBy (IsOwn mine) history after → Adds owner (IsTimely owner) (notes_of history) (notes_of after)
    adds_own history after g = record { new = notes_of g.new; grown = ap notes_of g.grown ∙ notes_added g.new history; own = all_own g.new g.such; such = all_timely g.new g.such }

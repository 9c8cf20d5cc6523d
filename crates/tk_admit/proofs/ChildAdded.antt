-- The children of a set after one more.
use Rattle.std.proofs.Common.{◌≡◌, ℕ, List, [], ◌∷◌, ◌++◌, Bool, true, false, cond, refl, sym, ◌∙◌, ap, arith, bytes_eq, not, Bor, Ordering}
use Rattle.std.specs.Prelude.{◌&&◌, ◌||◌, ◌==◌}
use Rattle.std.specs.BTreeSet.{BTreeSet, Updates, contains, contains_by}
use Rattle.std.specs.Cmp.{tied_then, unsigned_tied}
use Rattle.std.specs.Cmp.Lexicographic.{slice_cmp}
use Rattle.std.specs.List.{list_any}
use Rattle.std.specs.Ordering.{is_eq, nat_cmp, ordering_then}
use Rattle.std.proofs.lemmas.Cmp.{nat_list_eq_equiv, nat_eq_equiv}
use Rattle.std.proofs.lemmas.List.Folds.{list_any-append}
use Rattle.std.proofs.lemmas.Map.Text.{is_eq-slice_cmp}
use Rattle.tk_types.specs.declared.object.OutcomesChild.{OutcomesChild}
use Rattle.tk_admit.specs.Children.{against, is_of}
use Rattle.tk_admit.specs.Command.{is_same_child}

-- a child as the set holds it, and the order of the set
abbrev pub Key : Type 0
Key = Bor (List ℕ) × ℕ

abbrev pub order : Key → Key → Ordering
order a b = against a.0.now a.1 b.0.now b.1

abbrev key_of : List ℕ → ℕ → Key
key_of task index = (record { ref_ptr = (0, 0); now = task }, index)

same_key : (a b : List ℕ) (m n : ℕ) → is_eq (ordering_then (slice_cmp nat_cmp a b) (nat_cmp m n)) ≡ (bytes_eq a b && (m == n))
same_key a b m n = rw (← tied_then (slice_cmp nat_cmp a b) (nat_cmp m n), is_eq-slice_cmp, unsigned_tied) refl

turned : (a b : List ℕ) (m n : ℕ) → (bytes_eq a b && (m == n)) ≡ (bytes_eq b a && (n == m))
turned a b m n = rw (nat_list_eq_equiv.symm a b, nat_eq_equiv.symm m n) refl

either : (b c : Bool) → cond b true c ≡ (c || b)
either true true = refl
either true false = refl
either false true = refl
either false false = refl

or-false : (b : Bool) → (b || false) ≡ b
or-false true = refl
or-false false = refl

pub among-more : (old new : BTreeSet Key) (key : Key) (before : List OutcomesChild) (child : OutcomesChild) → key.0.now ≡ child.task → key.1 ≡ child.index → Updates order old new key true
    → ((task : List ℕ) (index : ℕ) → contains_by (λ k. against task index k.0.now k.1) old ≡ list_any (is_of task index) before)
    → (task : List ℕ) (index : ℕ) → contains_by (λ k. against task index k.0.now k.1) new ≡ list_any (is_of task index) (before ++ child ∷ [])
among-more old new key before child name number updates among task index =
    let step : contains_by (λ k. against task index k.0.now k.1) new ≡ cond (is_eq (order key (key_of task index))) true (contains_by (λ k. against task index k.0.now k.1) old)
    = updates.0 (key_of task index) in
    let here : is_eq (order key (key_of task index)) ≡ is_of task index child
    = same_key key.0.now task key.1 index ∙ (turned key.0.now task key.1 index ∙ rw (name, number) refl) in
    step ∙ (rw (here, among task index) (either (is_of task index child) (list_any (is_of task index) before))
    ∙ sym (list_any-append (is_of task index) before (child ∷ []) ∙ ap (λ b. list_any (is_of task index) before || b) (or-false (is_of task index child))))

-- whether a child stands among those before
pub among-same : (old : BTreeSet Key) (key : Key) (before : List OutcomesChild) (child : OutcomesChild) → key.0.now ≡ child.task → key.1 ≡ child.index
    → ((task : List ℕ) (index : ℕ) → contains_by (λ k. against task index k.0.now k.1) old ≡ list_any (is_of task index) before) → contains order old key ≡ list_any (is_same_child child) before
among-same old key before child name number among = among key.0.now key.1 ∙ rw (name, number) refl

-- what the answer of `insert` says of it
pub stood : (added there same : Bool) → added ≡ not there → there ≡ same → not added ≡ same
stood added there same is e = grind (arith, is, e)

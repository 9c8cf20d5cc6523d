-- Lists of children, one task added after the other.
use Rattle.std.proofs.Common.{◌≡◌, ℕ, ◌+◌, ◌<◌, ◌≤◌, Bool, true, false, ◌&&◌, ◌||◌, eqb, ltb, List, [], ◌∷◌, ◌++◌, length, get_or, set, take, refl, sym, ap, ◌∙◌, inl, inr, arith}
use Rattle.std.proofs.lemmas.Bool.{cases_eq, cases_lt, cases_order, eq-eqb, ne_eqb, lt-ltb, le-ltb}
use Rattle.std.proofs.lemmas.List.{get_or-set_same, get_or-set_other, get_or_past}
use Rattle.std.proofs.lemmas.List.Folds.{list_any_more, list_any-append}
use Rattle.tk_graph.specs.Cycle.{is_among}
use Rattle.tk_graph.specs.Removal.{parents_at}

here : (a e m : Bool) → ((a || (e && m)) || (e || false)) ≡ (a || (e && (m || true)))
here true e m = refl
here false true true = refl
here false true false = refl
here false false m = refl

there : (a e m : Bool) → (a || (e && m)) ≡ (a || (e && (m || false)))
there true e m = refl
there false true true = refl
there false true false = refl
there false false m = refl

-- one more parent, p
pub added_more : (first below : List (List ℕ)) (parents : List ℕ) (i p task parent child : ℕ) (list : List ℕ) → i < length parents → get_or parents i 0 ≡ p → p < length below → list ≡ get_or below p []
    → is_among (get_or below parent []) child ≡ (is_among (get_or first parent []) child || (eqb child task && is_among (take i parents) parent))
    → is_among (get_or (set below p (list ++ task ∷ [])) parent []) child ≡ (is_among (get_or first parent []) child || (eqb child task && is_among (take (i + 1) parents) parent))
added_more first below parents i p task parent child list lt at within list_is before =
    let a : Bool = is_among (get_or first parent []) child in
    let e : Bool = eqb child task in
    let m : Bool = is_among (take i parents) parent in
    let more : is_among (take (i + 1) parents) parent ≡ (m || eqb parent p) = list_any_more (λ q. eqb parent q) parents i 0 lt ∙ ap (λ q. m || eqb parent q) at in
    elim (cases_eq parent p) [
      | inl same ↦
          let new : get_or (set below p (list ++ task ∷ [])) parent [] ≡ list ++ task ∷ [] = ap (λ q. get_or (set below p (list ++ task ∷ [])) q []) same ∙ get_or-set_same below p (list ++ task ∷ []) [] within in
          let old : is_among list child ≡ (a || (e && m)) = ap (λ xs. is_among xs child) (list_is ∙ ap (λ q. get_or below q []) (sym same)) ∙ before in
          ap (λ xs. is_among xs child) new
          ∙ (list_any-append (λ q. eqb child q) list (task ∷ [])
          ∙ (ap (λ b. b || (e || false)) old
          ∙ (here a e m ∙ sym (ap (λ b. a || (e && b)) (more ∙ ap (λ b. m || b) (eq-eqb parent p same))))))
      | inr other ↦
          ap (λ xs. is_among xs child) (get_or-set_other below p parent (list ++ task ∷ []) [] other)
          ∙ (before ∙ (there a e m ∙ sym (ap (λ b. a || (e && b)) (more ∙ ap (λ b. m || b) (ne_eqb parent p other)))))
    ]

or_false : (b : Bool) → (b || false) ≡ b
or_false true = refl
or_false false = refl

-- one more task, at i
pub made_more : (above below new : List (List ℕ)) (i parent child : ℕ) (parents : List ℕ) → parents ≡ parents_at above i
    → is_among (get_or below parent []) child ≡ (ltb child i && is_among (parents_at above child) parent)
    → is_among (get_or new parent []) child ≡ (is_among (get_or below parent []) child || (eqb child i && is_among parents parent))
    → is_among (get_or new parent []) child ≡ (ltb child (i + 1) && is_among (parents_at above child) parent)
made_more above below new i parent child parents parents_is before step =
    let x : Bool = is_among (parents_at above child) parent in
    let y : Bool = is_among parents parent in
    step
    ∙ (ap (λ b. b || (eqb child i && y)) before
    ∙ elim (cases_order child i) [
      | inl same ↦
          let y_is : y ≡ x = ap (λ xs. is_among xs parent) (parents_is ∙ ap (parents_at above) (sym same)) in
          ap (λ b. (b && x) || (eqb child i && y)) (le-ltb child i (omega arith))
          ∙ (ap (λ b. b && y) (eq-eqb child i same) ∙ (y_is ∙ sym (ap (λ b. b && x) (lt-ltb child (i + 1) (omega arith)))))
      | inr other ↦ elim other [
        | inl less ↦
            ap (λ b. (b && x) || (eqb child i && y)) (lt-ltb child i less)
            ∙ (ap (λ b. x || (b && y)) (ne_eqb child i (λ e. omega arith)) ∙ (or_false x ∙ sym (ap (λ b. b && x) (lt-ltb child (i + 1) (omega arith)))))
        | inr past ↦
            ap (λ b. (b && x) || (eqb child i && y)) (le-ltb child i (omega arith))
            ∙ (ap (λ b. b && y) (ne_eqb child i (λ e. omega arith)) ∙ sym (ap (λ b. b && x) (le-ltb child (i + 1) (omega arith))))
      ]
    ])

-- all tasks
pub made_all : (above : List (List ℕ)) (i parent child : ℕ) → length above ≤ i → (ltb child i && is_among (parents_at above child) parent) ≡ is_among (parents_at above child) parent
made_all above i parent child le =
    elim (cases_lt child i) [
      | inl less ↦ ap (λ b. b && is_among (parents_at above child) parent) (lt-ltb child i less)
      | inr past ↦
          let none : is_among (parents_at above child) parent ≡ false = ap (λ xs. is_among xs parent) (get_or_past above child [] (omega arith)) in
          ap (λ b. b && is_among (parents_at above child) parent) (le-ltb child i past) ∙ sym none
    ]

-- Groups of children, one child added after the other.
use Rattle.std.proofs.Common.{◌≡◌, ℕ, ◌+◌, ◌<◌, ◌==◌, Bool, true, false, cond, List, [], ◌∷◌, ◌++◌, length, map, take, sym, ap, ◌∙◌, inl, inr, set, get_or, refl}
use Rattle.std.specs.Prelude.{IsTrue, nat_eq, nat_lt}
use Rattle.std.specs.List.{list_all}
use Rattle.std.proofs.lemmas.Bool.{cases_eq, eq-eqb, ne_eqb, ltb-true}
use Rattle.std.proofs.lemmas.Grind.{get_or-set_at}
use Rattle.std.proofs.lemmas.List.{append-nil, get_or-map, get_or-set_other, length-map, map-set, take_more}
use Rattle.std.proofs.lemmas.List.Elements.{filter-append}
use Rattle.std.proofs.lemmas.List.Sums.{AllPass-from_list_all}
use Rattle.tk_types.specs.declared.run.Child.{Child}
use Rattle.tk_verdict.specs.Facts.{children_at}

-- a child more is one of its own task alone
children_at-own : (children : List Child) (c : Child) (place : ℕ) → nat_eq c.task place ≡ true → children_at (children ++ c ∷ []) place ≡ children_at children place ++ c ∷ []
children_at-own children c place own =
    filter-append (λ (d : Child). d.task == place) children (c ∷ []) ∙ ap (λ (b : Bool). children_at children place ++ cond b (c ∷ []) []) own

children_at-other : (children : List Child) (c : Child) (place : ℕ) → nat_eq c.task place ≡ false → children_at (children ++ c ∷ []) place ≡ children_at children place
children_at-other children c place other =
    filter-append (λ (d : Child). d.task == place) children (c ∷ [])
    ∙ (ap (λ (b : Bool). children_at children place ++ cond b (c ∷ []) []) other ∙ append-nil (children_at children place))

-- one child more in its task's group
pushed : {V : Type 0} (group_of : V → List Child) (children : List Child) (groups : List V) (c : Child) (group new : V) → c.task < length groups → group ≡ get_or groups c.task group → group_of new ≡ group_of group ++ c ∷ []
    → ((place : ℕ) → get_or (map group_of groups) place [] ≡ children_at children place) → (place : ℕ) → get_or (map group_of (set groups c.task new)) place [] ≡ children_at (children ++ c ∷ []) place
pushed group_of children groups c group new within was is before place =
    let own : group_of group ≡ children_at children c.task =
    ap group_of was ∙ (sym (get_or-map group_of groups c.task group [] within) ∙ before c.task) in
    let long : c.task < length (map group_of groups) = rw (length-map groups group_of) within in
    ap (λ gs. get_or gs place []) (map-set group_of groups c.task new)
    ∙ elim (cases_eq c.task place) [
      | inl e ↦
          get_or-set_at (map group_of groups) c.task place (group_of new) [] (sym e) long
          ∙ (is ∙ (ap (λ cs. cs ++ c ∷ []) own ∙ (sym (children_at-own children c c.task (eq-eqb c.task c.task refl)) ∙ ap (children_at (children ++ c ∷ [])) e)))
      | inr ne ↦
          get_or-set_other (map group_of groups) c.task place (group_of new) [] (λ e. ne (sym e))
          ∙ (before place ∙ sym (children_at-other children c place (ne_eqb c.task place ne)))
    ]

-- the step of a loop over the children
pub grouped_more : {V : Type 0} (group_of : V → List Child) (total : ℕ) (children : List Child) (groups : List V) (i : ℕ) (c : Child) (group new : V)
    → IsTrue (list_all (λ (d : Child). nat_lt d.task total) children) → length groups ≡ total → i < length children → c ≡ get_or children i c → (c.task < length groups → group ≡ get_or groups c.task group)
    → group_of new ≡ group_of group ++ c ∷ [] → ((place : ℕ) → get_or (map group_of groups) place [] ≡ children_at (take i children) place)
    → (place : ℕ) → get_or (map group_of (set groups c.task new)) place [] ≡ children_at (take (i + 1) children) place
grouped_more group_of total children groups i c group new all count lt c_is was is before place =
    let passes : nat_lt (get_or children i c).task total ≡ true = AllPass-from_list_all (λ (d : Child). nat_lt d.task total) children all i c lt in
    let small : c.task < length groups = rw count (ltb-true c.task total (ap (λ (d : Child). nat_lt d.task total) c_is ∙ passes)) in
    let more : take (i + 1) children ≡ take i children ++ c ∷ [] = take_more children i c lt ∙ ap (λ x. take i children ++ x ∷ []) (sym c_is) in
    rw more (pushed group_of (take i children) groups c group new small (was small) is before place)

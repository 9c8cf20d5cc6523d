-- All values, one list behind another.
use Rattle.std.proofs.Common.{◌≡◌, List, [], ◌∷◌, ◌++◌, map, Option, Some, None, option_map, refl, sym, ap, ◌∙◌}
use Rattle.std.specs.Option.{option_and_then}
use Rattle.std.proofs.lemmas.List.{map-append}
use Rattle.tk_types.specs.Lists.{all_some}

-- lists joined, where both are there
abbrev pub joined : {X : Type 0} → Option (List X) → Option (List X) → Option (List X)
joined o p = option_and_then (λ xs. option_map (λ more. xs ++ more) p) o

none_joined : {X : Type 0} (p : Option (List X)) → p ≡ joined (Some []) p
none_joined None = refl
none_joined (Some ys) = refl

first_joined : {X : Type 0} (x : X) (o p : Option (List X)) → elim (joined o p) [ None ↦ None | Some xs ↦ Some (x ∷ xs) ] ≡ joined (elim o [ None ↦ None | Some xs ↦ Some (x ∷ xs) ]) p
first_joined x None p = refl
first_joined x (Some xs) None = refl
first_joined x (Some xs) (Some ys) = refl

all_some-append : {X : Type 0} (os ps : List (Option X)) → all_some (os ++ ps) ≡ joined (all_some os) (all_some ps)
all_some-append [] ps = none_joined (all_some ps)
all_some-append (None ∷ os) ps = refl
all_some-append (Some x ∷ os) ps = ap (λ o. elim o [ None ↦ None | Some xs ↦ Some (x ∷ xs) ]) (all_some-append os ps) ∙ first_joined x (all_some os) (all_some ps)

behind_none : {X : Type 0} (none : List X) (o : Option (List X)) → none ≡ [] → option_map (λ more. none ++ more) o ≡ o
behind_none none None is = refl
behind_none none (Some xs) is = ap (λ ys. Some (ys ++ xs)) is

-- what is made of both lists, where it is made of the first one
pub made_of_both : {X Y : Type 0} (f : X → Option Y) (xs ys : List X) (none : List Y) (made : Option (List Y)) → none ≡ [] → made ≡ option_map (λ more. none ++ more) (all_some (map f xs)) → all_some (map f (xs ++ ys)) ≡ joined made (all_some (map f ys))
made_of_both f xs ys none made empty first =
    ap all_some (map-append f xs ys)
    ∙ (all_some-append (map f xs) (map f ys) ∙ ap (λ o. joined o (all_some (map f ys))) (sym (first ∙ behind_none none (all_some (map f xs)) empty)))

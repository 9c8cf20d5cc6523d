-- The types on which all entries of a name agree, by the first of each name.
use Rattle.std.proofs.Common.{◌≡◌, ℕ, Bool, true, false, ◌&&◌, ◌||◌, not, cond, List, [], ◌∷◌, map, Option, Some, None, bytes_eq, find, refl, sym, ap, ◌∙◌}
use Rattle.std.specs.Prelude.{option_and_then}
use Rattle.std.specs.List.{filter, list_all, list_any}
use Rattle.std.specs.Option.{option_map_or}
use Rattle.std.proofs.lemmas.Bool.{false≢true}
use Rattle.std.proofs.lemmas.Slice.Eq.{bytes_eq-Decides}
use Rattle.tk_types.specs.declared.value.ParamType.{ParamType}
use Rattle.tk_types.specs.declared.value.ParamType.TheVariants.{Str as string, Arr as array, Obj as object}
use Rattle.tk_types.specs.Names.{is_in}
use Rattle.tk_types.proofs.FirstFound.{bytes_eq-swap}
use Rattle.tk_validate.specs.declared.seen.Seen.{Seen}
use Rattle.tk_validate.specs.Agreed.{agrees_with, differs}
use Rattle.tk_validate.specs.Seen.{agreed, is_kind, is_of_name, kind_seen, seen}
use Rattle.tk_validate.proofs.SeenNames.{in_more}

is_kind-same : (k f : Option ParamType) → is_kind k f ≡ true → k ≡ f
is_kind-same None f e = absurd (false≢true e)
is_kind-same (Some string) None e = absurd (false≢true e)
is_kind-same (Some array) None e = absurd (false≢true e)
is_kind-same (Some object) None e = absurd (false≢true e)
is_kind-same (Some string) (Some string) e = refl
is_kind-same (Some string) (Some array) e = absurd (false≢true e)
is_kind-same (Some string) (Some object) e = absurd (false≢true e)
is_kind-same (Some array) (Some string) e = absurd (false≢true e)
is_kind-same (Some array) (Some array) e = refl
is_kind-same (Some array) (Some object) e = absurd (false≢true e)
is_kind-same (Some object) (Some string) e = absurd (false≢true e)
is_kind-same (Some object) (Some array) e = absurd (false≢true e)
is_kind-same (Some object) (Some object) e = refl

-- the first element
first : {X : Type 0} → List X → Option X
first [] = None
first (x ∷ xs) = Some x

first-cond : {X : Type 0} (b : Bool) (x : X) (xs : List X) (o : Option X) → o ≡ first xs → cond b (Some x) o ≡ first (cond b (x ∷ xs) xs)
unfolding first
first-cond true x xs o e = refl
first-cond false x xs o e = e

find_first : {X : Type 0} (test : X → Bool) (xs : List X) → find test xs ≡ first (filter test xs)
unfolding first
find_first test [] = refl
find_first test (x ∷ xs) = first-cond (test x) x (filter test xs) (find test xs) (find_first test xs)

by_test : (b all any : Bool) → all ≡ not any → (b && all) ≡ not (not b || any)
by_test true all any e = e
by_test false all any e = refl

all_none : {X : Type 0} (test : X → Bool) (xs : List X) → list_all test xs ≡ not (list_any (λ x. not (test x)) xs)
all_none test [] = refl
all_none test (x ∷ xs) = by_test (test x) (list_all test xs) (list_any (λ y. not (test y)) xs) (all_none test xs)

any-cond : {X : Type 0} (test : X → Bool) (b : Bool) (x : X) (xs : List X) → list_any test (cond b (x ∷ xs) xs) ≡ ((b && test x) || list_any test xs)
any-cond test true x xs = refl
any-cond test false x xs = refl

one_way : (e d q rest : Bool) → (e ≡ true → d ≡ q) → ((d && e) || rest) ≡ ((e && q) || rest)
one_way true true q rest same = ap (λ b. b || rest) (same refl)
one_way true false q rest same = ap (λ b. b || rest) (same refl)
one_way false true q rest same = refl
one_way false false q rest same = refl

module _ (all : List Seen) (name : List ℕ) where
  abbrev unlike : Seen → Bool
  unlike o = not (is_kind (kind_seen all name) o.kind)

  -- the names of which some differ, among some of them
  in_mixed : (xs : List Seen) → is_in (map (λ (s : Seen). s.name) (filter (differs all) xs)) name ≡ list_any unlike (filter (is_of_name name) xs)
  in_mixed [] = refl
  in_mixed (o ∷ xs) =
      in_more name (differs all o) o (filter (differs all) xs)
      ∙ (ap (λ b. (differs all o && bytes_eq name o.name) || b) (in_mixed xs)
      ∙ (one_way (bytes_eq name o.name) (differs all o) (unlike o) (list_any unlike (filter (is_of_name name) xs)) (λ same. ap (λ n. not (is_kind (kind_seen all n) o.kind)) (sym ((bytes_eq-Decides name o.name).0 same)))
      ∙ (ap (λ b. (b && unlike o) || list_any unlike (filter (is_of_name name) xs)) (bytes_eq-swap name o.name)
      ∙ sym (any-cond unlike (bytes_eq o.name name) o (filter (is_of_name name) xs)))))

  module _ (kind : Option ParamType) where
    abbrev mixed : List (List ℕ)
    mixed = map (λ (s : Seen). s.name) (filter (differs all) all)

    abbrev agrees : Bool
    agrees = option_map_or (λ (x : Seen). is_kind kind x.kind && not (is_in mixed name)) (find (is_of_name name) all) true

    like_first : (x : Seen) (xs : List Seen) (b : Bool) → is_kind kind x.kind ≡ b → list_all (λ (o : Seen). is_kind kind o.kind) (x ∷ xs) ≡ (is_kind kind x.kind && not (list_any (λ (o : Seen). not (is_kind x.kind o.kind)) (x ∷ xs)))
    like_first x xs true e =
        ap (λ k. list_all (λ (o : Seen). is_kind k o.kind) (x ∷ xs)) (is_kind-same kind x.kind e)
        ∙ (all_none (λ (o : Seen). is_kind x.kind o.kind) (x ∷ xs) ∙ sym (ap (λ b. b && not (list_any (λ (o : Seen). not (is_kind x.kind o.kind)) (x ∷ xs))) e))
    like_first x xs false e =
        ap (λ b. b && list_all (λ (o : Seen). is_kind kind o.kind) xs) e
        ∙ sym (ap (λ b. b && not (list_any (λ (o : Seen). not (is_kind x.kind o.kind)) (x ∷ xs))) e)

    by_group : (group : List Seen) → filter (is_of_name name) all ≡ group → list_all (λ (o : Seen). is_kind kind o.kind) group ≡ agrees
    unfolding first
    by_group [] e = sym (ap (λ o. option_map_or (λ (x : Seen). is_kind kind x.kind && not (is_in mixed name)) o true) (find_first (is_of_name name) all ∙ ap first e))
    by_group (x ∷ xs) e =
        let found : find (is_of_name name) all ≡ Some x = find_first (is_of_name name) all ∙ ap first e in
        let kind_is : kind_seen all name ≡ x.kind = ap (λ o. option_and_then (λ (s : Seen). s.kind) o) found in
        like_first x xs (is_kind kind x.kind) refl
        ∙ (ap (λ f. is_kind kind x.kind && not (list_any (λ (o : Seen). not (is_kind f o.kind)) (x ∷ xs))) (sym kind_is)
        ∙ (ap (λ g. is_kind kind x.kind && not (list_any unlike g)) (sym e)
        ∙ (ap (λ b. is_kind kind x.kind && not b) (sym (in_mixed all))
        ∙ sym (ap (λ o. option_map_or (λ (y : Seen). is_kind kind y.kind && not (is_in mixed name)) o true) found))))

    pub agree : list_all (λ (o : Seen). is_kind kind o.kind) (filter (is_of_name name) all) ≡ agrees
    agree = by_group (filter (is_of_name name) all) refl

pub agreed_is : (all : List Seen) (s : Seen) → agreed all s ≡ seen s.name (cond (agrees_with all (map (λ (x : Seen). x.name) (filter (differs all) all)) s) s.kind None)
agreed_is all s = ap (λ b. seen s.name (cond b s.kind None)) (agree all s.name s.kind)

map_cong : {X Y : Type 0} (f g : X → Y) → ((x : X) → f x ≡ g x) → (xs : List X) → map f xs ≡ map g xs
map_cong f g same [] = refl
map_cong f g same (x ∷ xs) = ap (λ y. y ∷ map f xs) (same x) ∙ ap (λ ys. g x ∷ ys) (map_cong f g same xs)

pub all_agreed : (all : List Seen) → map (agreed all) all ≡ map (λ (s : Seen). seen s.name (cond (agrees_with all (map (λ (x : Seen). x.name) (filter (differs all) all)) s) s.kind None)) all
all_agreed all = map_cong _ _ (agreed_is all) all

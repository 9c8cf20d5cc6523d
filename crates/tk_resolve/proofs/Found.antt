-- Steps of a search by name among earlier objects.
use Rattle.std.proofs.Common.{◌≡◌, ℕ, List, [], ◌∷◌, ◌++◌, map, Option, Some, None, Bool, true, false, cond, bytes_eq, find, option_map, refl, ap, ◌∙◌}
use denote.Ref.{Bor}
use Rattle.std.specs.Prelude.{filter_map}
use Rattle.std.specs.Option.{option_or}
use Rattle.std.proofs.lemmas.List.{map-append}
use Rattle.std.proofs.lemmas.List.Elements.{filter_map-append}
use Rattle.std.proofs.lemmas.List.Folds.{find-append}
use Rattle.tk_types.specs.declared.object.Item.{Item}
use Rattle.tk_types.proofs.FirstFound.{bytes_eq-swap}
use Rattle.tk_resolve.specs.Lookup.{named, value_if}

-- the first value that is there, of two
mapped_or : {X Y : Type 0} (f : X → Y) (a b : Option X) → option_map f (option_or a b) ≡ option_or (option_map f a) (option_map f b)
mapped_or f None b = refl
mapped_or f (Some x) b = refl

-- the first of a name among these and those
pub named_append : {X : Type 0} (name : List ℕ) (xs ys : List (List ℕ × X)) → named name (xs ++ ys) ≡ option_or (named name xs) (named name ys)
named_append {X} name xs ys =
    ap (option_map (λ (e : List ℕ × X). e.1)) (find-append (λ (e : List ℕ × X). bytes_eq e.0 name) xs ys)
    ∙ mapped_or (λ (e : List ℕ × X). e.1) (find (λ (e : List ℕ × X). bytes_eq e.0 name) xs) (find (λ (e : List ℕ × X). bytes_eq e.0 name) ys)

-- a single entry
mapped_cond : {X Y : Type 0} (f : X → Y) (b : Bool) (x : X) → option_map f (cond b (Some x) None) ≡ cond b (Some (f x)) None
mapped_cond f true x = refl
mapped_cond f false x = refl

-- what a function gives of one element
one_entry : {X Y : Type 0} (given : Y → Option (List ℕ × X)) (y : Y) (name : List ℕ) (o : Option (List ℕ × X)) → given y ≡ o → named name (filter_map given (y ∷ [])) ≡ value_if name o
one_entry given y name None is = rw is
one_entry {X} given y name (Some e) is = rw is (mapped_cond (λ (e : List ℕ × X). e.1) (bytes_eq e.0 name) e ∙ ap (λ b. cond b (Some e.1) None) (bytes_eq-swap e.0 name))

-- the first of a name once an object is added
pub named_more : {X : Type 0} (given : Item → Option (List ℕ × X)) (items more : List (Bor Item)) (item : Bor Item) (name : List ℕ) → more ≡ items ++ item ∷ [] → named name (filter_map given (map (λ i. i.now) more)) ≡ option_or (named name (filter_map given (map (λ i. i.now) items))) (value_if name (given item.now))
named_more given items more item name is =
    ap (λ zs. named name (filter_map given (map (λ i. i.now) zs))) is
    ∙ (ap (λ zs. named name (filter_map given zs)) (map-append (λ (i : Bor Item). i.now) items (item ∷ []))
    ∙ (ap (named name) (filter_map-append given (map (λ i. i.now) items) (item.now ∷ []))
    ∙ (named_append name (filter_map given (map (λ i. i.now) items)) (filter_map given (item.now ∷ []))
    ∙ ap (option_or (named name (filter_map given (map (λ i. i.now) items)))) (one_entry given item.now name (given item.now) refl))))

-- What is asked of the parameters of a scope, by the first of a name among all that texts see.
use Rattle.std.proofs.Common.{◌≡◌, ℕ, Bool, true, false, ◌&&◌, ◌||◌, cond, List, [], ◌∷◌, map, Option, Some, None, is_some, option_map, bytes_eq, find, refl, sym, ap, ◌∙◌, inl, inr}
use Rattle.std.proofs.lemmas.Option.{none-some, same_Some}
use Rattle.std.proofs.lemmas.Slice.Eq.{bytes_eq-Decides}
use Rattle.std.specs.Prelude.{is_none, option_and_then}
use Rattle.std.specs.List.{filter, filter_map}
use Rattle.std.specs.Option.{option_map_or, option_or}
use Rattle.std.proofs.lemmas.Bool.{cases_Bool}
use Rattle.tk_types.specs.declared.value.ParamSpec.{ParamSpec}
use Rattle.tk_types.specs.declared.value.ParamType.{ParamType}
use Rattle.tk_vars.specs.declared.part.Part.{Part}
use Rattle.tk_types.specs.Names.{is_in}
use Rattle.tk_bind.specs.Scope.{declared, suits}
use Rattle.tk_types.proofs.FirstFound.{bytes_eq-swap}
use Rattle.tk_validate.specs.declared.seen.Seen.{Seen}
use Rattle.tk_validate.specs.Seen.{is_of_name, kind_seen, typed_of, untyped_of}

pub in_more : (name : List ℕ) (b : Bool) (s : Seen) (rest : List Seen) → is_in (map (λ (x : Seen). x.name) (cond b (s ∷ rest) rest)) name ≡ ((b && bytes_eq name s.name) || is_in (map (λ (x : Seen). x.name) rest) name)
in_more name true s rest = refl
in_more name false s rest = refl

both_same : (q x : Bool) → ((q && true) || (x && q)) ≡ q
both_same true x = refl
both_same false true = refl
both_same false false = refl

one_more : (e q given x : Bool) → (e ≡ true → q ≡ given) → ((q && e) || (x && given)) ≡ ((e || x) && given)
one_more true q given x same = ap (λ p. (p && true) || (x && given)) (same refl) ∙ both_same given x
one_more false true given x same = refl
one_more false false given x same = refl

is_some-cond : {X : Type 0} (b : Bool) (x : X) (o : Option X) → is_some (cond b (Some x) o) ≡ (b || is_some o)
is_some-cond true x o = refl
is_some-cond false x o = refl

pub map_or : {X Y : Type 0} (f : X → Y) (a b : Option X) → option_map f (option_or a b) ≡ option_or (option_map f a) (option_map f b)
map_or f None b = refl
map_or f (Some x) b = refl

or_true : (a b : Bool) → b ≡ true → (a || b) ≡ true
or_true true b e = refl
or_true false b e = e

pub is_some-map : {X Y : Type 0} (f : X → Y) (o : Option X) → is_some (option_map f o) ≡ is_some o
is_some-map f None = refl
is_some-map f (Some x) = refl

map-cond : {X Y : Type 0} (f : X → Y) (b : Bool) (x : X) (o : Option X) → option_map f (cond b (Some x) o) ≡ cond b (Some (f x)) (option_map f o)
map-cond f true x o = refl
map-cond f false x o = refl

or-map : {X Y Z : Type 0} (f : X → Y) (g : Y → Z) (o : Option X) (z : Z) → option_map_or (λ x. g (f x)) o z ≡ option_map_or g (option_map f o) z
or-map f g None z = refl
or-map f g (Some x) z = refl

module _ (name : List ℕ) where
  module _ (all : List Seen) where
    -- among the names of unknown type
    in_untyped : (xs : List Seen) → is_in (map (λ (s : Seen). s.name) (filter (λ (s : Seen). is_none (kind_seen all s.name)) xs)) name ≡ (is_some (find (is_of_name name) xs) && is_none (kind_seen all name))
    in_untyped [] = refl
    in_untyped (s ∷ xs) =
        let q = is_none (kind_seen all s.name) in
        let given = is_none (kind_seen all name) in
        let e = bytes_eq name s.name in
        in_more name q s (filter (λ (x : Seen). is_none (kind_seen all x.name)) xs)
        ∙ (ap (λ b. (q && e) || b) (in_untyped xs)
        ∙ (one_more e q given (is_some (find (is_of_name name) xs)) (λ same. ap (λ n. is_none (kind_seen all n)) (sym ((bytes_eq-Decides name s.name).0 same)))
        ∙ ap (λ b. b && given) (sym (is_some-cond e s (find (is_of_name name) xs)) ∙ ap (λ b. is_some (cond b (Some s) (find (is_of_name name) xs))) (bytes_eq-swap name s.name))))

  -- the type of the first of the name that has one
  abbrev kind_declared : List Seen → Option ParamType
  kind_declared xs = option_map (λ (p : ParamSpec). p.kind) (declared (filter_map typed_of xs) name)

  abbrev stepped : List ℕ → Option ParamType → Option ParamType → Option ParamType
  stepped n None rest = rest
  stepped n (Some k) rest = cond (bytes_eq n name) (Some k) rest

  step_by : (n : List ℕ) (k : Option ParamType) (xs : List Seen) → kind_declared (record { name = n; kind = k } ∷ xs) ≡ stepped n k (kind_declared xs)
  step_by n None xs = refl
  step_by n (Some k) xs = map-cond (λ (p : ParamSpec). p.kind) (bytes_eq n name) (record { name = n; kind = k; default_value = None; properties = [] }) (declared (filter_map typed_of xs) name)

  step : (s : Seen) (xs : List Seen) → kind_declared (s ∷ xs) ≡ stepped s.name s.kind (kind_declared xs)
  step s xs = step_by s.name s.kind xs

  skipped : (n : List ℕ) (k rest : Option ParamType) → bytes_eq n name ≡ false → stepped n k rest ≡ rest
  skipped n None rest apart = refl
  skipped n (Some k) rest apart = ap (λ b. cond b (Some k) rest) apart

  none_declared : (xs : List Seen) → find (is_of_name name) xs ≡ None → kind_declared xs ≡ None
  none_declared [] e = refl
  none_declared (s ∷ xs) e =
      elim (cases_Bool (bytes_eq s.name name)) [
        | inl same ↦ absurd (none-some s (sym e ∙ ap (λ b. cond b (Some s) (find (is_of_name name) xs)) same))
        | inr apart ↦ step s xs ∙ (skipped s.name s.kind (kind_declared xs) apart ∙ none_declared xs (sym (ap (λ b. cond b (Some s) (find (is_of_name name) xs)) apart) ∙ e))
      ]

  some_declared : (xs : List Seen) (s : Seen) → find (is_of_name name) xs ≡ Some s → (k : ParamType) → s.kind ≡ Some k → kind_declared xs ≡ Some k
  some_declared [] s e k is = absurd (none-some s e)
  some_declared (t ∷ xs) s e k is =
      elim (cases_Bool (bytes_eq t.name name)) [
        | inl same ↦
            let this : t ≡ s = same_Some t s (sym (ap (λ b. cond b (Some t) (find (is_of_name name) xs)) same) ∙ e) in
            step t xs ∙ (ap (λ o. stepped t.name o (kind_declared xs)) (ap (λ (x : Seen). x.kind) this ∙ is) ∙ ap (λ b. cond b (Some k) (kind_declared xs)) same)
        | inr apart ↦
            step t xs ∙ (skipped t.name t.kind (kind_declared xs) apart ∙ some_declared xs s (sym (ap (λ b. cond b (Some t) (find (is_of_name name) xs)) apart) ∙ e) k is)
      ]

  module _ (all : List Seen) where
    visible_known : (s : Seen) (k : Option ParamType) → find (is_of_name name) all ≡ Some s → s.kind ≡ k → (is_some (declared (filter_map typed_of all) name) || is_in (untyped_of all) name) ≡ true
    visible_known s None e is =
        or_true (is_some (declared (filter_map typed_of all) name)) (is_in (untyped_of all) name)
        (in_untyped all all ∙ (ap (λ o. is_some o && is_none (option_and_then (λ (x : Seen). x.kind) o)) e ∙ ap is_none is))
    visible_known s (Some k) e is =
        ap (λ b. b || is_in (untyped_of all) name) (sym (is_some-map (λ (p : ParamSpec). p.kind) (declared (filter_map typed_of all) name)) ∙ ap is_some (some_declared all s e k is))

    visible_by : (o : Option Seen) → find (is_of_name name) all ≡ o → (is_some (declared (filter_map typed_of all) name) || is_in (untyped_of all) name) ≡ is_some o
    visible_by None e =
        ap (λ b. b || is_in (untyped_of all) name) (sym (is_some-map (λ (p : ParamSpec). p.kind) (declared (filter_map typed_of all) name)) ∙ ap is_some (none_declared all e))
        ∙ (in_untyped all all ∙ ap (λ o. is_some o && is_none (kind_seen all name)) e)
    visible_by (Some s) e = visible_known s s.kind e refl

    -- a parameter is there exactly where texts see its name
    pub visible : (is_some (declared (filter_map typed_of all) name) || is_in (untyped_of all) name) ≡ is_some (find (is_of_name name) all)
    visible = visible_by (find (is_of_name name) all) refl

    module _ (selector : List Part) where
      abbrev is_typed : Bool
      is_typed = is_in (untyped_of all) name || option_map_or (λ (p : ParamSpec). suits p.kind selector) (declared (filter_map typed_of all) name) true

      typed_from : (o : Option ParamType) → kind_declared all ≡ o → option_map_or (λ (p : ParamSpec). suits p.kind selector) (declared (filter_map typed_of all) name) true ≡ option_map_or (λ k. suits k selector) o true
      typed_from o e = or-map (λ (p : ParamSpec). p.kind) (λ k. suits k selector) (declared (filter_map typed_of all) name) true ∙ ap (λ o. option_map_or (λ k. suits k selector) o true) e

      typed_known : (s : Seen) (k : Option ParamType) → find (is_of_name name) all ≡ Some s → s.kind ≡ k → is_typed ≡ option_map_or (λ k. suits k selector) k true
      typed_known s None e is =
          ap (λ b. b || option_map_or (λ (p : ParamSpec). suits p.kind selector) (declared (filter_map typed_of all) name) true)
          (in_untyped all all ∙ (ap (λ o. is_some o && is_none (option_and_then (λ (x : Seen). x.kind) o)) e ∙ ap is_none is))
      typed_known s (Some k) e is =
          ap (λ b. b || option_map_or (λ (p : ParamSpec). suits p.kind selector) (declared (filter_map typed_of all) name) true)
          (in_untyped all all ∙ (ap (λ o. is_some o && is_none (option_and_then (λ (x : Seen). x.kind) o)) e ∙ ap is_none is))
          ∙ typed_from (Some k) (some_declared all s e k is)

      typed_by : (o : Option Seen) → find (is_of_name name) all ≡ o → is_typed ≡ option_map_or (λ k. suits k selector) (option_and_then (λ (s : Seen). s.kind) o) true
      typed_by None e =
          ap (λ b. b || option_map_or (λ (p : ParamSpec). suits p.kind selector) (declared (filter_map typed_of all) name) true) (in_untyped all all ∙ ap (λ o. is_some o && is_none (kind_seen all name)) e)
          ∙ typed_from None (none_declared all e)
      typed_by (Some s) e = typed_known s s.kind e refl

      -- it is used by its type exactly where that suits the type of the first of its name, or none is known
      pub typed : is_typed ≡ option_map_or (λ k. suits k selector) (kind_seen all name) true
      typed = typed_by (find (is_of_name name) all) refl

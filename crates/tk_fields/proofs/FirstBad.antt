-- The first bad key of an object.
use Rattle.std.proofs.Common.{◌≡◌, List, [], ◌∷◌, ◌++◌, ℕ, Option, Some, None, refl, ap, ◌∙◌, ◌⊎◌, inl, inr}
use Rattle.std.specs.Option.{option_or}
use Rattle.std.specs.List.{AllByRecursion}
use Rattle.tk_types.specs.declared.fault.Fault.{Fault}
use Rattle.tk_types.specs.First.{Finding}
use Rattle.tk_types.specs.Place.{Place}
use Rattle.tk_fields.specs.declared.table.Role.{Role}
use Rattle.tk_fields.specs.declared.table.Role.TheVariants.{Used, Ignored, Refused}
use Rattle.tk_fields.specs.Keys.{Table, role_of, key_finding, first_bad_key, IsGood, IsFirstBad}

nothing_is_some : {X : Type 0} → (x : X) → let none : Option X = None in none ≡ Some x → ⊥
nothing_is_some x e = cc

some_is_nothing : {X : Type 0} → (x : X) → Some x ≡ None → ⊥
some_is_nothing x e = cc

-- a role in which nothing is found is good
good_role : (place : Place) (key : List ℕ) (role : Option Role) → key_finding place key role ≡ None → (role ≡ Some Used) ⊎ (role ≡ Some Ignored)
good_role place key None e = elim (some_is_nothing _ e) [ ]
good_role place key (Some Refused) e = elim (some_is_nothing _ e) [ ]
good_role place key (Some Used) e = inl refl
good_role place key (Some Ignored) e = inr refl

-- and nothing is found in a good one
nothing_in : (table : Table) (place : Place) (key : List ℕ) → IsGood table key → key_finding place key (role_of table key) ≡ None
nothing_in table place key (inl e) = ap (key_finding place key) e
nothing_in table place key (inr e) = ap (key_finding place key) e

-- the first bad key of some is the first of all where nothing is found at the one before
at_key : (table : Table) (place : Place) (key : List ℕ) (keys : List (List ℕ)) (fault : Fault) (finding : Finding) → key_finding place key (role_of table key) ≡ finding → (first_bad_key table place keys ≡ Some fault → IsFirstBad table place keys fault) → option_or finding (first_bad_key table place keys) ≡ Some fault → IsFirstBad table place (key ∷ keys) fault
at_key table place key keys fault None is later e =
    let rest = later e in
    record {
      before = key ∷ rest.before;
      key = rest.key;
      after = rest.after;
      split = ap (λ ks. key ∷ ks) rest.split;
      good = (good_role place key (role_of table key) is, rest.good);
      bad = rest.bad;
    }
at_key table place key keys fault (Some found) is later e = record { before = []; key = key; after = keys; split = refl; good = tt; bad = is ∙ e }

pub first_bad_key-IsFirstBad : (table : Table) (place : Place) (keys : List (List ℕ)) (fault : Fault) → first_bad_key table place keys ≡ Some fault → IsFirstBad table place keys fault
first_bad_key-IsFirstBad table place [] fault e = elim (nothing_is_some fault e) [ ]
first_bad_key-IsFirstBad table place (key ∷ keys) fault e =
    at_key table place key keys fault (key_finding place key (role_of table key)) refl (first_bad_key-IsFirstBad table place keys fault) e

pub first_bad_key-found : (table : Table) (place : Place) (before after : List (List ℕ)) (key : List ℕ) (fault : Fault) → AllByRecursion (IsGood table) before → key_finding place key (role_of table key) ≡ Some fault → first_bad_key table place (before ++ key ∷ after) ≡ Some fault
first_bad_key-found table place [] after key fault good e = rw e refl
first_bad_key-found table place (other ∷ before) after key fault good e =
    rw (nothing_in table place other good.0) (first_bad_key-found table place before after key fault good.1 e)

none_at : (table : Table) (place : Place) (key : List ℕ) (keys : List (List ℕ)) (finding : Finding) → key_finding place key (role_of table key) ≡ finding → (first_bad_key table place keys ≡ None → AllByRecursion (IsGood table) keys) → option_or finding (first_bad_key table place keys) ≡ None → AllByRecursion (IsGood table) (key ∷ keys)
none_at table place key keys None is later e = (good_role place key (role_of table key) is, later e)
none_at table place key keys (Some found) is later e = elim (some_is_nothing _ e) [ ]

pub first_bad_key-none : (table : Table) (place : Place) (keys : List (List ℕ)) → first_bad_key table place keys ≡ None → AllByRecursion (IsGood table) keys
first_bad_key-none table place [] e = tt
first_bad_key-none table place (key ∷ keys) e =
    none_at table place key keys (key_finding place key (role_of table key)) refl (first_bad_key-none table place keys) e

pub first_bad_key-good : (table : Table) (place : Place) (keys : List (List ℕ)) → AllByRecursion (IsGood table) keys → first_bad_key table place keys ≡ None
first_bad_key-good table place [] good = refl
first_bad_key-good table place (key ∷ keys) good = rw (nothing_in table place key good.0) (first_bad_key-good table place keys good.1)

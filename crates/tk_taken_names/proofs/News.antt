-- Names that differ, and names that are new, one after another.
use Rattle.std.proofs.Common.{◌≡◌, ◌≢◌, ℕ, ◌+◌, ◌<◌, List, [], ◌++◌, length, take, get_or, AllPairs, Contains, sym, subst, ◌∙◌, inl, inr, arith}
use Rattle.std.proofs.lemmas.List.{get_or-take, get_or_default, length-take-le}
use Rattle.std.proofs.lemmas.List.Elements.{Contains-append_cases}
use Rattle.tk_names.specs.Clash.{DifferBelow}
use Rattle.tk_taken_names.specs.Taken.{AreNew, IsNew}

abbrev pub Differ : List ℕ → List ℕ → Type 0
Differ a b = a ≢ b

-- by places, and pair by pair
pub pairs_differ : (names : List (List ℕ)) → DifferBelow names (length names) → AllPairs Differ names
pairs_differ names below i j d less within same =
    below i j less within (get_or_default names i [] d (omega arith) ∙ (same ∙ sym (get_or_default names j [] d within)))

pub below_differ : (names : List (List ℕ)) → AllPairs Differ names → DifferBelow names (length names)
below_differ names pairs i j less within same = pairs i j [] less within same

-- of new names, each is new behind those before it
pub next_is_new : (taken names : List (List ℕ)) → AreNew taken names → (i : ℕ) (name : List ℕ) → i < length names → name ≡ get_or names i name → IsNew (taken ++ take i names) name
next_is_new taken names new i name within is has = elim (Contains-append_cases taken (take i names) name has) [
  | inl before ↦ new.apart i name within (subst (Contains taken) is before)
  | inr (k, below, at) ↦
      let long = length-take-le i names (omega arith) in
      let less : k < i = omega arith in
      new.differ k i name less within (sym (get_or-take i names k name less) ∙ (at ∙ is))
]

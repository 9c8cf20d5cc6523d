-- One member more.
use Rattle.std.proofs.Common.{◌≡◌, ◌⊎◌, ℕ, zero, suc, List, [], ◌∷◌, ◌++◌, Some, inl, inr, subst}
use Rattle.std.specs.Prelude.{slice_get}
use Rattle.std.proofs.lemmas.Option.{same_Some}
use Rattle.tk_program_tests.specs.Each.{Each}

last_cases : {M : Type 0} (ms : List M) (m x : M) (i : ℕ) → slice_get (ms ++ m ∷ []) i ≡ Some x → (slice_get ms i ≡ Some x) ⊎ (m ≡ x)
last_cases [] m x zero at = inr (same_Some m x at)
last_cases [] m x (suc i) at = cc
last_cases (y ∷ ms) m x zero at = inl at
last_cases (y ∷ ms) m x (suc i) at = last_cases ms m x i at

pub each_none : {M : Type 0} (P : M → Type 0) → Each P []
each_none P i m at = cc

pub each_more : {M : Type 0} (P : M → Type 0) (ms : List M) (m : M) → Each P ms → P m → Each P (ms ++ m ∷ [])
each_more P ms m each here i x at = elim (last_cases ms m x i at) [ inl front ↦ each i x front | inr last ↦ subst P last here ]

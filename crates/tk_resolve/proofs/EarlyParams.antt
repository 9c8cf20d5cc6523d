-- Where no parameter is late, all are early.
use Rattle.std.proofs.Common.{◌≡◌, ℕ, Bool, true, false, not, List, [], ◌∷◌, length, map, if◌then◌else◌, refl, ap, ◌∙◌}
use Rattle.std.specs.Prelude.{◌==◌}
use Rattle.std.proofs.Math.Dec.{eqb-suc-zero}
use Rattle.std.specs.List.{filter}
use Rattle.tk_types.specs.declared.value.Param.{Param}
use Rattle.tk_types.specs.declared.task.PipelineTask.{PipelineTask}
use Rattle.tk_resolve.specs.Settled.{early_params, is_late, late_names}

abbrev names : List Param → List (List ℕ)
names params = map (λ (p : Param). p.name) params

apart : (name : List ℕ) (others : List (List ℕ)) → name ∷ others ≡ [] → ⊥
apart name others e = cc

abbrev early : List Param → List Param
early params = filter (λ p. not (is_late p)) params

-- one parameter more
one_more : (late : Bool) (p : Param) (ps : List Param) → (names (filter is_late ps) ≡ [] → early ps ≡ ps) → names (if late then p ∷ filter is_late ps else filter is_late ps) ≡ [] → (if not late then p ∷ early ps else early ps) ≡ p ∷ ps
one_more true p ps others none = absurd (apart p.name (names (filter is_late ps)) none)
one_more false p ps others none = ap (λ qs. p ∷ qs) (others none)

all_early : (ps : List Param) → names (filter is_late ps) ≡ [] → early ps ≡ ps
all_early [] none = refl
all_early (p ∷ ps) none = one_more (is_late p) p ps (all_early ps) none

pub early_is_all : (task : PipelineTask) → late_names task ≡ [] → early_params task ≡ task.params
early_is_all task none = all_early task.params none

no_true : true ≡ false → ⊥
no_true e = cc

-- a list of no length has no element
pub no_elements : {X : Type 0} (xs : List X) → true ≡ (length xs == 0) → xs ≡ []
no_elements [] is = refl
no_elements (x ∷ xs) is = absurd (no_true (is ∙ eqb-suc-zero (length xs)))

-- Exits in order, as the row of an EndPod asks for them.
use Rattle.std.proofs.Common.{◌≡◌, ℕ, zero, suc, ◌+◌, ◌<◌, List, [], ◌∷◌, ◌++◌, length, get_or, Some, None, true, false, refl, ap, ◌∙◌, subst, arith}
use Rattle.std.proofs.lemmas.Bool.{eq-eqb}
use Rattle.tk_pod.specs.Exits.{passes, continues}
use Rattle.tk_pod.specs.Walk.{passes_at, broken_from}
use Rattle.tk_pod.specs.declared.walk.Walked.TheVariants.{Broke}
use Rattle.tk_journal.specs.declared.object.Plan.{Plan}
use Rattle.tk_journal.specs.PodRows.{IsWell, IsBroke}

abbrev pub AllPassFrom : ℕ → ℕ → List ℕ → Type 0
AllPassFrom keep step [] = Unit {0}
AllPassFrom keep step (exit ∷ exits) = (passes (continues keep step) exit ≡ true) × AllPassFrom keep (suc step) exits

-- all but the last pass
abbrev pub IsWalkFrom : ℕ → ℕ → List ℕ → Type 0
IsWalkFrom keep step [] = Unit {0}
IsWalkFrom keep step (exit ∷ []) = Unit {0}
IsWalkFrom keep step (exit ∷ next ∷ exits) = (passes (continues keep step) exit ≡ true) × IsWalkFrom keep (suc step) (next ∷ exits)

pub walk_passes : (keep step : ℕ) (exits : List ℕ) → IsWalkFrom keep step exits → (k : ℕ) → k + 1 < length exits → passes_at keep (step + k) (get_or exits k 0) ≡ true
walk_passes keep step [] walk k below = absurd (omega (arith, below))
walk_passes keep step (exit ∷ []) walk k below = absurd (omega (arith, below))
walk_passes keep step (exit ∷ next ∷ exits) walk zero below =
    let here : step + 0 ≡ step = omega arith in
    ap (λ (n : ℕ). passes_at keep n exit) here ∙ walk.0
walk_passes keep step (exit ∷ next ∷ exits) walk (suc k) below =
    let on : step + suc k ≡ suc step + k = omega arith in
    ap (λ (n : ℕ). passes_at keep n (get_or (next ∷ exits) k 0)) on ∙ walk_passes keep (suc step) (next ∷ exits) walk.1 k (omega arith)

none_broken : (keep step : ℕ) (exits : List ℕ) → AllPassFrom keep step exits → broken_from keep step exits ≡ None
none_broken keep step [] all = refl
none_broken keep step (exit ∷ exits) all =
    let next : suc step ≡ step + 1 = omega arith in
    rw all.0 (none_broken keep (step + 1) exits (subst (λ (n : ℕ). AllPassFrom keep n exits) next all.1))

last_broken : (keep step : ℕ) (before : List ℕ) (exit at : ℕ) → AllPassFrom keep step before → length before + step ≡ at → passes (continues keep at) exit ≡ false → broken_from keep step (before ++ exit ∷ []) ≡ Some (Broke at exit)
last_broken keep step [] exit at all place breaks =
    let same : at ≡ step = omega (arith, place) in
    let here : passes (continues keep step) exit ≡ false = subst (λ (n : ℕ). passes (continues keep n) exit ≡ false) same breaks in
    rw here (ap (λ (n : ℕ). Some (Broke n exit)) (omega (arith, same)))
last_broken keep step (e ∷ before) exit at all place breaks =
    let next : suc step ≡ step + 1 = omega arith in
    rw all.0 (last_broken keep (step + 1) before exit at (subst (λ (n : ℕ). AllPassFrom keep n before) next all.1) (omega (arith, place)) breaks)

pub well_walked : (plan : Plan) (exits : List ℕ) → length exits ≡ length plan.orders → AllPassFrom plan.keep 0 exits → IsWell plan exits
well_walked plan exits long all =
    let none = none_broken plan.keep 0 exits all in
    let whole = eq-eqb (length exits) (length plan.orders) long in
    rw (none, whole) refl

pub broke_walked : (plan : Plan) (exits before : List ℕ) (exit at : ℕ) → exits ≡ before ++ exit ∷ [] → AllPassFrom plan.keep 0 before → length before + 0 ≡ at → passes (continues plan.keep at) exit ≡ false → IsBroke plan exits exit
broke_walked plan exits before exit at is all place breaks =
    let broke : broken_from plan.keep 0 exits ≡ Some (Broke at exit) = ap (broken_from plan.keep 0) is ∙ last_broken plan.keep 0 before exit at all place breaks in
    (at, rw broke refl)

-- Where a judged task shows what it showed, no other label changes.
use Rattle.std.proofs.Common.{◌≡◌, ◌≢◌, ℕ, ◌<◌, ◌≤◌, false, List, length, set, take, refl, sym, ◌∙◌, subst, inl, inr, arith}
use Rattle.std.proofs.lemmas.Bool.{cases_eq}
use Rattle.std.proofs.lemmas.Grind.{get_or-set_at}
use Rattle.std.proofs.lemmas.List.{get_or-set_other, get_or-take}
use Rattle.tk_types.specs.declared.run.Facts.{Facts}
use Rattle.tk_types.specs.declared.verdict.Verdict.{Verdict}
use Rattle.tk_types.specs.declared.verdict.Verdict.TheVariants.{Waits}
use Rattle.tk_verdict.specs.Labels.{verdict_line}
use Rattle.tk_verdict.specs.Verdict.{label_at}
use Rattle.tk_verdict.specs.WellFormed.{IsWellFormed}
use Rattle.tk_verdict.proofs.Locality.{parents_within, task_line_agrees}
use Rattle.tk_verdict.proofs.SameResults.{KnowsReadings}
use Rattle.tk_labels.specs.Local.{ShowsSame}
use Rattle.tk_labels.specs.Reached.{IsAgain, WasKept}
use Rattle.tk_labels.proofs.WalkStep.{judged_itself}
use Rattle.tk_labels.proofs.Walks.{again_shows, kept_line, kept_shows}

module _ (knows : KnowsReadings) (old new : Facts) (t : ℕ) (xs : List Verdict) (label : Verdict) (was : WasKept old new t xs) (formed : IsWellFormed new)
    (within : t < length new.spec.tasks) (many : length new.spec.tasks ≤ length xs) (again : IsAgain new xs (label_at xs t) t t label false) where
  abbrev pub zs : List Verdict
  zs = set xs t label

  itself : label_at zs t ≡ label
  itself = get_or-set_at xs t t label Waits refl (omega (arith, within, many))

  others : (q : ℕ) → q ≢ t → label_at zs q ≡ label_at xs q
  others q other = get_or-set_other xs t q label Waits other

  shows : (q : ℕ) → ShowsSame old new xs zs q
  shows q =
      elim (cases_eq q t) [
        | inl same ↦ subst (λ (n : ℕ). ShowsSame old new xs zs n) (sym same) (again_shows knows old new t xs was xs t label false within again refl zs itself)
        | inr other ↦ kept_shows knows old new t xs was q other zs (others q other)
      ]

  right : (p : ℕ) → p < length new.spec.tasks → label_at zs p ≡ verdict_line new zs p
  right p lt =
      elim (cases_eq p t) [
        | inl same ↦
            subst (λ (n : ℕ). label_at zs n ≡ verdict_line new zs n) (sym same)
            (judged_itself knows new formed xs zs t others within (itself ∙ again.label))
        | inr other ↦ others p other ∙ kept_line knows old new t xs was zs p lt other (λ q c. shows q)
      ]

  pub unmoved_right : (p : ℕ) → p < length new.spec.tasks → label_at (take (length new.spec.tasks) zs) p ≡ verdict_line new (take (length new.spec.tasks) zs) p
  unmoved_right p lt =
      front p lt
      ∙ (right p lt
      ∙ task_line_agrees new zs (take (length new.spec.tasks) zs) p lt
      (λ q c. sym (front q (let w = parents_within new.spec.tasks p q c in omega (arith, w)))))
    where
      front : (q : ℕ) → q < length new.spec.tasks → label_at (take (length new.spec.tasks) zs) q ≡ label_at zs q
      front q small = get_or-take (length new.spec.tasks) zs q Waits small

-- A task that is skipped has no children.
use Rattle.std.proofs.Common.{◌≡◌, ℕ, ◌<◌, Bool, true, false, List, [], ◌∷◌, Option, refl, sym, ap, ◌∙◌}
use Rattle.std.specs.Prelude.{if◌then◌else◌, is_none, ◌&&◌}
use Rattle.std.specs.List.{list_any}
use Rattle.std.specs.Option.{option_map_or}
use Rattle.tk_types.specs.declared.value.Param.{Param}
use Rattle.tk_types.specs.declared.run.Child.{Child}
use Rattle.tk_types.specs.declared.run.Facts.{Facts}
use Rattle.tk_types.specs.declared.run.Stop.{Stop}
use Rattle.tk_types.specs.declared.verdict.SkipReason.{SkipReason}
use Rattle.tk_types.specs.declared.verdict.Verdict.{Verdict}
use Rattle.tk_types.specs.declared.verdict.Verdict.TheVariants.{Ran, Runs, Wrong}
use Rattle.tk_verdict.specs.Facts.{children_of, is_running, task_total}
use Rattle.tk_verdict.specs.Labels.{label_by, verdict_line, has_exact_children}
use Rattle.tk_verdict.specs.Verdict.{is_skipped}
use Rattle.tk_verdict.proofs.Lines.{line_shape, next_by}

by_children : (children : List Child) (combinations : Option (List (List Param))) (row : Option SkipReason) (stop : Option Stop) (next : Verdict)
    → is_skipped (label_by children combinations row stop next) ≡ true → children ≡ []
by_children [] combinations row stop next skipped = refl
by_children (c ∷ cs) combinations row stop next skipped =
    let none = by_ended (list_any is_running (c ∷ cs)) (is_none row && option_map_or (has_exact_children (c ∷ cs)) combinations false) in cc
  where
    by_ended : (runs right : Bool) → is_skipped (if runs then Runs else (if right then Ran else Wrong)) ≡ false
    by_ended true right = refl
    by_ended false true = refl
    by_ended false false = refl

pub skipped_bare : (facts : Facts) (labels : List Verdict) (place : ℕ) → place < task_total facts → is_skipped (verdict_line facts labels place) ≡ true → children_of facts place ≡ []
skipped_bare facts labels place within skipped =
    let s = line_shape facts labels place within in
    by_children (children_of facts place) s.combinations s.row s.stop (next_by s.next) (ap is_skipped (sym s.is) ∙ skipped)

use Rattle.std.proofs.Common.{ap, sym, ◌∙◌, map, [], ◌∷◌}
use Rattle.std.proofs.lemmas.List.{map-append}
use Rattle.tk_script.proofs.Tables.{shown, results_yes, results_no}
use Rattle.tk_script.proofs.file_table.prepared.Goals as goal
use Rattle.tk_script.proofs.file_table.prepared.Goals.{then-is_plain+in_ok-result_of+in_ok-push, else-is_plain}

pub loop-file-preserved : goal.loop-file-preserved
loop-file-preserved c = elim c.if-is_plain.branch [
  | then-is_plain+in_ok-result_of+in_ok-push w ↦
      ap (λ v. map shown v.items) w.results-is
      ∙ (ap (map shown) w.in_ok-push.ensures.items
      ∙ (map-append shown c.loop-file.results.items (w.in_ok-result_of.field-0 ∷ [])
      ∙ results_yes _ _ c.args.files.now c.loop-file.file-index c.file-item.result (map shown c.loop-file.results.items) (shown w.in_ok-result_of.field-0) c.loop-file-test.true c.file-item.is (sym w.if-is_plain.ensures) w.in_ok-result_of.ensures c.loop-file.invariant))
  | else-is_plain w ↦
      ap (λ v. map shown v.items) w.results-is
      ∙ results_no _ _ c.args.files.now c.loop-file.file-index c.file-item.result (map shown c.loop-file.results.items) c.loop-file-test.true c.file-item.is (sym w.if-is_plain.ensures) c.loop-file.invariant
]

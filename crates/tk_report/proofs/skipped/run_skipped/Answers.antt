use Rattle.std.proofs.Common.{◌≡◌, [], length, map, ap, sym, ◌∙◌}
use Rattle.std.proofs.lemmas.Bool.{eqb-true}
use Rattle.std.proofs.lemmas.List.{nil_from_length}
use Rattle.std.specs.List.{enumerate_from}
use Rattle.serde_json.specs.View.{view}
use Rattle.tk_types.specs.Behaviour.{tasks_of}
use Rattle.tk_journal.specs.History.{facts_of}
use Rattle.tk_cache.specs.Views.{seen}
use Rattle.tk_report.specs.Words.{run_skips}
use Rattle.tk_report.proofs.NoneSkipped.{skipped_empty}
use Rattle.tk_report.proofs.skipped.run_skipped.Goals as goal

pub returns-then-is_empty : goal.returns-then-is_empty
returns-then-is_empty c =
    let run = c.args.run.now in
    let facts = facts_of (seen c.args.objects.now).view.task_run run in
    let skips = c.run_skips-skips.result.now in
    let empty : skips ≡ [] = nil_from_length skips (eqb-true (length skips) 0 (sym c.is_empty.ensures ∙ c.if-is_empty.true)) in
    let none : run_skips run ≡ [] = sym c.run_skips-skips.ensures ∙ empty in
    ap (map view) c.new.ensures.items ∙ sym (skipped_empty facts (enumerate_from 0 (tasks_of run.spec)) (run_skips run) none)

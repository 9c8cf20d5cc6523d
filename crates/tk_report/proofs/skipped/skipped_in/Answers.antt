use Rattle.std.proofs.Common.{◌≡◌, [], ◌++◌, length, ◌∙◌, map, subst, sym}
use Rattle.std.specs.Prelude.{All, flat_map}
use Rattle.std.specs.List.{enumerate_from}
use Rattle.serde_json.specs.View.{view}
use Rattle.tk_verdict.specs.Readings.{ReadsTask}
use Rattle.tk_verdict.proofs.Formed.{readable}
use Rattle.tk_report.specs.Json.{skipped_data_at}
use Rattle.tk_report.proofs.Behind.{lines_split}
use Rattle.tk_report.proofs.skipped.skipped_in.Goals as goal

pub push_all_skipped-requires-clause-reads : goal.push_all_skipped-requires-clause-reads
push_all_skipped-requires-clause-reads c =
    subst (All ReadsTask) (sym c.as_slice-tasks.ensures) (readable c.args.facts.now c.requires.formed).tasks

pub push_all_skipped-requires-2-clause-reads : goal.push_all_skipped-requires-2-clause-reads
push_all_skipped-requires-2-clause-reads c =
    subst (All ReadsTask) (sym c.as_slice-finally.ensures) (readable c.args.facts.now c.requires.formed).finals

pub returns : goal.returns
returns c =
    let skipped = skipped_data_at c.args.facts.now c.args.skips.now in
    let first : map view c.push_all_skipped.new.items.items ≡ flat_map skipped (enumerate_from 0 c.args.facts.now.spec.tasks) =
    c.in_ok-push_all_skipped.ensures ∙ (λ i. map view (c.new-items.ensures.items i) ++ flat_map skipped (enumerate_from 0 (c.as_slice-tasks.ensures i))) in
    let place : length c.as_slice-tasks.result.now ≡ length c.args.facts.now.spec.tasks = λ i. length (c.as_slice-tasks.ensures i) in
    c.in_ok-push_all_skipped-2.ensures
    ∙ (λ i. first i ++ flat_map skipped (enumerate_from (place i) (c.as_slice-finally.ensures i)))
    ∙ lines_split skipped c.args.facts.now.spec.tasks c.args.facts.now.spec.finally []

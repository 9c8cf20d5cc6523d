use Rattle.std.proofs.Common.{◌≡◌, List, ℕ, ◌++◌, length, subst, ◌∙◌, string_bytes}
use Rattle.std.specs.Prelude.{OnOk, flat_map}
use Rattle.std.specs.List.{enumerate_from}
use Rattle.tk_cache.specs.Views.{seen}
use Rattle.tk_report.specs.Report.{task_lines}
use Rattle.tk_report.proofs.Behind.{lines_split}
use Rattle.tk_report.proofs.run.write_all_tasks.Goals as goal

pub returns : goal.returns
returns c =
    let lines = task_lines (seen c.args.objects.now).view c.args.run.now in
    let first : string_bytes c.write_tasks.new.text ≡ string_bytes c.args.text.now ++ flat_map lines (enumerate_from 0 c.args.run.now.spec.tasks) =
    c.in_ok-write_tasks.ensures ∙ (λ i. string_bytes c.args.text.now ++ flat_map lines (enumerate_from 0 (c.as_slice-tasks.ensures i))) in
    let place : length c.as_slice-tasks.result.now ≡ length c.args.run.now.spec.tasks = λ i. length (c.as_slice-tasks.ensures i) in
    subst (λ (all : List ℕ). OnOk c.write_tasks-2.result (string_bytes c.write_tasks-2.new.text ≡ all))
    ((λ i. first i ++ flat_map lines (enumerate_from (place i) (c.as_slice-finally.ensures i)))
    ∙ lines_split lines c.args.run.now.spec.tasks c.args.run.now.spec.finally (string_bytes c.args.text.now))
    c.write_tasks-2.ensures

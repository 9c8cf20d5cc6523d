use Rattle.std.proofs.Common.{◌≡◌, List, ℕ, ◌++◌, length, subst, ◌∙◌, string_bytes}
use Rattle.std.specs.Prelude.{OnOk, flat_map}
use Rattle.std.specs.List.{enumerate_from}
use Rattle.tk_commands.specs.Due.{task_line}
use Rattle.tk_commands.proofs.Lines.{lines_split}
use Rattle.tk_commands.proofs.due.write_tasks.Goals as goal

pub returns : goal.returns
returns c =
    let lines = task_line c.args.labels.now in
    let first : string_bytes c.write_labels.new.text ≡ string_bytes c.args.text.now ++ flat_map lines (enumerate_from 0 c.args.facts.now.spec.tasks) =
    c.in_ok-write_labels.ensures ∙ (λ i. string_bytes c.args.text.now ++ flat_map lines (enumerate_from 0 (c.as_slice-tasks.ensures i))) in
    let place : length c.as_slice-tasks.result.now ≡ length c.args.facts.now.spec.tasks = λ i. length (c.as_slice-tasks.ensures i) in
    subst (λ (all : List ℕ). OnOk c.write_labels-2.result (string_bytes c.write_labels-2.new.text ≡ all))
    ((λ i. first i ++ flat_map lines (enumerate_from (place i) (c.as_slice.ensures i)))
    ∙ lines_split lines c.args.facts.now.spec.tasks c.args.facts.now.spec.finally (string_bytes c.args.text.now))
    c.write_labels-2.ensures

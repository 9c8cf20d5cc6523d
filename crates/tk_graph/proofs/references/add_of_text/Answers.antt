use Rattle.std.proofs.Common.{◌≡◌, ◌++◌, ◌∙◌, List, ℕ, ap, sym, subst}
use Rattle.std.specs.Prelude.{OnOk, flat_map}
use Rattle.std.proofs.lemmas.List.{append-nil}
use Rattle.tk_graph.specs.Tasks.{piece_tasks}
use Rattle.tk_graph.proofs.NoTask.{no_text_tasks}
use Rattle.tk_graph.proofs.ResultTasks.{text_read, text_unread}
use Rattle.tk_graph.proofs.references.add_of_text.Goals as goal

pub returns-in-Ok : goal.returns-in-Ok
returns-in-Ok c =
    subst (λ (ts : List (List ℕ)). OnOk c.add_of_pieces.result (c.add_of_pieces.new.names ≡ c.args.names.now ++ ts))
    (ap (flat_map piece_tasks) c.as_slice.ensures ∙ text_read c.args.text.now c.in-Ok.pieces c.one_bad_offset.ensures.good c.in-Ok.ensures.reading c.in-Ok.ensures.only_reading)
    c.add_of_pieces.ensures

pub returns-in-Err-BadReference : goal.returns-in-Err-BadReference
returns-in-Err-BadReference c =
    let bad = rw c.in-Err-BadReference.field-0-is at c.in-Err-BadReference.ensures.computed in
    sym (append-nil c.args.names.now) ∙ ap (λ (ts : List (List ℕ)). c.args.names.now ++ ts) (sym (text_unread c.args.text.now c.in-Err-BadReference.field-0-0 bad))

pub returns-then-names_no_task : goal.returns-then-names_no_task
returns-then-names_no_task c =
    sym (append-nil c.args.names.now) ∙ ap (λ (ts : List (List ℕ)). c.args.names.now ++ ts) (sym (no_text_tasks c.args.text.now (c.names_no_task.ensures.references c.if-names_no_task.true)))

use Rattle.std.proofs.Common.{length, ap, sym, ◌∙◌, arith}
use Rattle.std.proofs.lemmas.List.{length-take-le}
use Rattle.tk_verdict.specs.Labels.{labels_of}
use Rattle.tk_report.proofs.Labelled.{labels_suffice}
use Rattle.tk_report.proofs.guards.final_words.Goals as goal

pub slice_bounds-status_words-end : goal.slice_bounds-status_words-end
slice_bounds-status_words-end c =
    let many = labels_suffice c.args.facts.now c.requires.formed in
    let labels = c.as_slice.ensures ∙ c.in_ok-labels.ensures ∙ ap labels_of c.requires.same in
    let count = ap length labels in
    let tasks = c.len.ensures in
    sym (length-take-le c.len.result c.as_slice.result.now (omega (arith, many, count, tasks)))

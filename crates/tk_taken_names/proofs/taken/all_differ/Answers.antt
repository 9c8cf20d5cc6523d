use Rattle.std.proofs.Common.{sym, ◌∙◌}
use Rattle.tk_taken_names.proofs.Answers.{none_tells}
use Rattle.tk_taken_names.proofs.News.{below_differ, pairs_differ}
use Rattle.tk_taken_names.proofs.taken.all_differ.Goals as goal

pub returns : goal.returns
returns c =
    let names = c.args.names.now in
    let law = c.clash_is_the_first.ensures.none names in
    none_tells c.in_ok-clash.field-0 c.is_none.result c.is_none.ensures (
      λ none. pairs_differ names (law.0 (sym c.in_ok-clash.ensures ∙ none)),
      λ pairs. c.in_ok-clash.ensures ∙ law.1 (below_differ names pairs),
    )

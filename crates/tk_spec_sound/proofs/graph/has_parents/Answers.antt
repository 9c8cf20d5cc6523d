use Rattle.std.proofs.Common.{sym, ◌∙◌}
use Rattle.tk_graph.specs.Parents.{parent_names}
use Rattle.tk_graph.specs.Unknown.{is_known}
use Rattle.tk_spec_sound.proofs.Answers.{none_tells}
use Rattle.tk_spec_sound.proofs.Unknown.{unknown_is}
use Rattle.tk_spec_sound.proofs.graph.has_parents.Goals as goal

pub returns : goal.returns
returns c =
    let law = unknown_is (is_known c.args.names.now) (parent_names c.args.task.now) in
    none_tells c.in_ok-unknown_name.field-0 c.is_none.result c.is_none.ensures (
      λ none. law.0 (sym c.in_ok-unknown_name.ensures ∙ none),
      λ each. c.in_ok-unknown_name.ensures ∙ law.1 each,
    )

use Rattle.std.proofs.Common.{sym, ◌∙◌}
use Rattle.tk_spec_sound.proofs.Answers.{none_tells}
use Rattle.tk_spec_sound.proofs.graph.is_acyclic.Goals as goal

pub returns : goal.returns
returns c =
    let law = c.no_cycle.ensures c.args.tasks.now in
    none_tells c.in_ok-cycle.field-0 c.is_none.result c.is_none.ensures (
      λ none. law.0 (sym c.in_ok-cycle.ensures ∙ none),
      λ acyclic. c.in_ok-cycle.ensures ∙ law.1 acyclic,
    )

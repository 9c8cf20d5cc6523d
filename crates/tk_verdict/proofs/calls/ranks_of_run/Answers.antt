use Rattle.std.proofs.Common.{ap, ◌∙◌}
use Rattle.tk_graph.specs.Unknown.{first_unknown}
use Rattle.tk_verdict.proofs.Formed.{parents_known}
use Rattle.tk_verdict.proofs.calls.ranks_of_run.Goals as goal

pub ranks_of-requires-clause-known : goal.ranks_of-requires-clause-known
ranks_of-requires-clause-known c =
    let facts = c.args.facts.now in
    ap first_unknown c.as_slice.ensures ∙ (c.known_parents.ensures facts.spec.tasks).1 (parents_known facts c.requires.well_formed.parents_exist)

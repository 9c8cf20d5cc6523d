use Rattle.std.proofs.Common.{◌∙◌, ap}
use Rattle.tk_steps.specs.Paths.{result_path}
use Rattle.tk_outcome.proofs.Answered.{fetch_moves}
use Rattle.tk_outcome.proofs.fetching.fetch_result.Goals as goal

pub returns-clause-moves : goal.returns-clause-moves
returns-clause-moves g c =
    fetch_moves c.args.root.now c.args.pod.now c.args.spec.now c.as_str-2.result.now _ _ c.fetch.result c.requires.declared (c.as_str-2.ensures ∙ (c.in_ok-path.ensures ∙ ap (result_path c.args.root.now c.args.pod.now.name) c.as_str.ensures)) c.requires.holds c.fetch.ensures.told

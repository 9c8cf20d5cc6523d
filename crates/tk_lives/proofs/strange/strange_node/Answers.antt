use Rattle.std.proofs.Common.{◌∙◌}
use Rattle.tk_cache.specs.Views.{seen}
use Rattle.tk_lives.proofs.Walks.{strange_seen}
use Rattle.tk_lives.proofs.strange.strange_node.Goals as goal

pub returns : goal.returns
returns c =
    c.first_strange.ensures ∙ strange_seen c.args.nodes (seen c.in_ok-cache.cache) c.args.journal.now.history c.in_ok-cache.ensures.shows c.in_ok-cache.ensures.end

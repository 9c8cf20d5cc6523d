use Rattle.std.proofs.Common.{sym, ap, ◌∙◌}
use Rattle.std.specs.Option.{is_some}
use Rattle.tk_run_cache.proofs.Names.{place_found, place_missing}
use Rattle.tk_run_cache.proofs.follow.place_of.Goals as goal

pub returns-in-Some : goal.returns-in-Some
returns-in-Some c = place_found c.args.runs.now c.args.name.now c.get_index_of.ensures.unique c.in-Some.place (sym c.get_index_of.ensures.index ∙ c.in-Some.is)

pub returns-in-None : goal.returns-in-None
returns-in-None c = place_missing c.args.runs.now c.args.name.now (sym (ap is_some c.in-None.is) ∙ c.get_index_of.ensures.found)

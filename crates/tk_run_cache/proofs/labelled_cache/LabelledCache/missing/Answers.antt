use Rattle.std.proofs.Common.{ap, ◌∙◌}
use Rattle.std.specs.Prelude.{option_map}
use Rattle.tk_cache.specs.Views.{Kept, seen}
use Rattle.tk_run_cache.specs.Labelled.{Standing, missing_seen}
use Rattle.tk_run_cache.proofs.Standings.{seen_missing}
use Rattle.tk_run_cache.proofs.labelled_cache.LabelledCache.missing.Goals as goal

pub returns : goal.returns
returns c =
    c.missing_of.ensures
    ∙ ap (option_map (λ (s : Standing). s.missing)) (c.self.invariant.standing c.args.run.now)
    ∙ seen_missing (seen c.self.inside.cache).view c.args.run.now
    ∙ ap (λ (k : Kept). missing_seen (seen k).view c.args.run.now) c.self.view_is

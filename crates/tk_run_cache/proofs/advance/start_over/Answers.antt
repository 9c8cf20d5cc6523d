use Rattle.std.proofs.Common.{◌≡◌, ap, ◌∙◌}
use Rattle.tk_journal.specs.declared.entry.Fronts.{Fronts}
use Rattle.tk_cache.specs.Views.{seen}
use Rattle.tk_run_cache.proofs.Passed.{none_labelled}
use Rattle.tk_run_cache.proofs.advance.start_over.Goals as goal

pub advance_runs-requires-clause-labelled : goal.advance_runs-requires-clause-labelled
advance_runs-requires-clause-labelled c =
    let first : c.relist-2.new.self.fronts.runs ≡ 0 = ap (λ (f : Fronts). f.runs) c.in_ok-relist-2.ensures.fronts ∙ ap (λ (f : Fronts). f.runs) c.in_ok-relist.ensures.fronts in
    none_labelled (seen c.relist-2.new.self) c.args.journal.now.history c.in_ok-relist-2.ensures.shows first c.new.result c.new.ensures.empty

use Rattle.std.proofs.Common.{ap}
use Rattle.tk_journal.specs.declared.entry.Fronts.{Fronts}
use Rattle.tk_cache.specs.Views.{seen}
use Rattle.tk_pod_cache.proofs.Listed.{first_marked}
use Rattle.tk_pod_cache.proofs.advance.start_over.Goals as goal

pub advance_pods-requires-clause-marked : goal.advance_pods-requires-clause-marked
advance_pods-requires-clause-marked c =
    first_marked (seen c.relist.new.self) c.args.journal.now.history c.in_ok-relist.ensures.shows (ap (λ (f : Fronts). f.pods) c.in_ok-relist.ensures.fronts) c.no_marks.result

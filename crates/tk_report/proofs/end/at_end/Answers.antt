use Rattle.std.proofs.Common.{◌≡◌, ℕ, length, ap, ◌∙◌}
use Rattle.tk_types.specs.declared.scenario.Kind.TheVariants.{Runs, TaskRuns}
use Rattle.tk_cache.specs.Fronts.{listed}
use Rattle.tk_cache.specs.Views.{seen}
use Rattle.tk_report.proofs.AtEnd.{ends}
use Rattle.tk_report.proofs.end.at_end.Goals as goal

pub returns : goal.returns
returns c =
    let history = c.args.journal.now.history in
    let fronts = (seen c.fresh-objects.result).fronts in
    let runs : (seen c.relist.new.self).fronts ≡ listed Runs (length history) fronts = c.in_ok-relist.ensures.fronts ∙ ap (λ (n : ℕ). listed Runs n fronts) c.len.ensures.value in
    let both : (seen c.relist-2.new.self).fronts ≡ listed TaskRuns (length history) (listed Runs (length history) fronts) = c.in_ok-relist-2.ensures.fronts ∙ (λ i. listed TaskRuns (c.len-2.ensures.value i) (runs i)) in
    ends (seen c.relist-2.new.self) fronts history c.in_ok-relist-2.ensures.shows c.fresh-objects.ensures.pods both

use Rattle.std.proofs.Common.{rules, ◌≡◌, Option, Some, true, false, ap, sym, ◌∙◌}
use Rattle.std.specs.List.{list_any}
use Rattle.tk_types.specs.declared.run.Outcome.{Outcome}
use Rattle.tk_labels.specs.Change.{runs_at}
use Rattle.tk_run_cache.specs.Follow.{ended_in}
use Rattle.tk_run_cache.proofs.Changes.{may_end, none_running}
use Rattle.tk_run_cache.proofs.known.end_child.Goals as goal

pub returns-then-not-is_running : goal.returns-then-not-is_running
returns-then-not-is_running c =
    let none : list_any (runs_at c.args.task c.args.index) c.args.labels.now.children ≡ false = ap (list_any (runs_at c.args.task c.args.index)) (sym c.children.ensures) ∙ (sym c.is_running.ensures ∙ search rules) in
    let is : Some c.in-Some.outcome ≡ c.args.outcome = search rules in
    sym (none_running c.args.task c.args.index c.in-Some.outcome c.args.labels.now c.requires.opens none) ∙ ap (λ (o : Option Outcome). ended_in c.args.task c.args.index o c.args.labels.now) is

pub apply-requires : goal.apply-requires
apply-requires c =
    let some : list_any (runs_at c.args.task c.args.index) c.args.labels.now.children ≡ true = ap (list_any (runs_at c.args.task c.args.index)) (sym c.children.ensures) ∙ (sym c.is_running.ensures ∙ search rules) in
    may_end c.args.task c.args.index c.in-Some.outcome c.args.labels.now some

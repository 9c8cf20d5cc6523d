-- The TaskRuns of a legal history are fit.
use Rattle.std.proofs.Common.{List, arith}
use Rattle.tk_journal.specs.declared.entry.Entry.{Entry}
use Rattle.tk_journal.specs.declared.entry.Fronts.{Fronts}
use Rattle.tk_journal.specs.History.{view_at}
use Rattle.tk_journal.specs.Legal.{IsLegal}
use Rattle.tk_journal.proofs.Statements as laws_of
use Rattle.tk_taskrec.specs.Fit.{AreFit}

pub fit_at : (fronts : Fronts) (history : List Entry) → IsLegal history → AreFit (view_at fronts history)
fit_at fronts history legal name task_run is =
    let lasting = (laws_of.lasting history legal fronts.task_runs).0.task_runs name task_run is in
    let few = lasting.few in
    let sized = lasting.sized in
    record { few = omega (arith, few, sized); steps = lasting.steps; readable = lasting.readable }

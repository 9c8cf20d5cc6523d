-- The runs of a legal history are fit.
use Rattle.std.proofs.Common.{List, arith}
use Rattle.tk_verdict.proofs.GivenRight.{gives_within}
use Rattle.tk_journal.specs.declared.entry.Entry.{Entry}
use Rattle.tk_journal.specs.declared.entry.Fronts.{Fronts}
use Rattle.tk_journal.specs.History.{past, task_run_of, view_at}
use Rattle.tk_journal.specs.Legal.{IsLegal}
use Rattle.tk_journal.specs.Right.{facts_at}
use Rattle.tk_journal.proofs.RunLasts.{lasting_facts}
use Rattle.tk_journal.proofs.Statements as laws_of
use Rattle.tk_runrec.specs.Fit.{AreFit}

pub fit_at : (fronts : Fronts) (history : List Entry) → IsLegal history → AreFit (view_at fronts history)
fit_at fronts history legal name run is =
    let lasting = (laws_of.lasting history legal fronts.runs).0.runs name run is in
    let few = lasting.sound.few_tasks in
    record {
      well_formed = lasting_facts (past fronts.runs history) name run (task_run_of (past fronts.task_runs history)) lasting;
      few_tasks = omega (arith, few);
      once = lasting.once;
      parts = λ part has.
          let within = gives_within (facts_at (past fronts.runs history) run) part.task part.bindings (lasting.given part has) in
          ((lasting.exist part has).1, omega (arith, within));
    }

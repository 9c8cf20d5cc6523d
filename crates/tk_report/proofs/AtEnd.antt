-- A report's view of a history: its runs are those of a legal history.
use Rattle.std.proofs.Common.{◌≡◌, ℕ, ◌<◌, ◌≤◌, ◌^◌, List, length, Some, sym, ap, ◌∙◌, arith}
use Rattle.std.specs.Prelude.{Contains}
use Rattle.std.proofs.lemmas.List.Elements.{All-contains_itself, All-weaker, recursion_from_All}
use Rattle.tk_types.specs.declared.scenario.Kind.TheVariants.{Runs, TaskRuns}
use Rattle.tk_time.specs.Moment.{last_moment}
use Rattle.tk_verdict.proofs.GivenRight.{gives_within}
use Rattle.tk_journal.specs.declared.entry.Entry.{Entry}
use Rattle.tk_journal.specs.declared.entry.Fronts.{Fronts}
use Rattle.tk_journal.specs.declared.object.RunState.{RunState}
use Rattle.tk_journal.specs.declared.object.Scheduled.{Scheduled}
use Rattle.tk_journal.specs.History.{past, run_of, task_run_of, view_at}
use Rattle.tk_journal.specs.Legal.{IsLegal}
use Rattle.tk_journal.specs.Right.{LastingRun, facts_at}
use Rattle.tk_journal.proofs.Past.{past_whole}
use Rattle.tk_journal.proofs.RunLasts.{lasting_facts}
use Rattle.tk_journal.proofs.Statements as laws_of
use Rattle.tk_cache.specs.Fronts.{Shows, listed}
use Rattle.tk_cache.specs.Views.{Seen}
use Rattle.tk_report.specs.Objects.{ArePrintable, HasFewChildren, HasMoments, HaveFewChildren, IsPrintable, end_view}
use Rattle.tk_report.proofs.OnClock.{on_clock}

lasting_run : (history : List Entry) → IsLegal history → (name : List ℕ) (run : RunState) → (end_view history).run name ≡ Some run
    → LastingRun (past (length history) history) name run
lasting_run history legal name run is = (laws_of.lasting history legal (length history)).0.runs name run is

few_of : (history : List Entry) (name : List ℕ) (run : RunState) → LastingRun history name run → HasFewChildren run
few_of history name run lasting =
    All-weaker (Contains run.scheduled) (λ (part : Scheduled). length part.bindings < 2 ^ 32)
    (λ part has. let within = gives_within (facts_at history run) part.task part.bindings (lasting.given part has) in omega (arith, within))
    run.scheduled (All-contains_itself run.scheduled)

pub few : (history : List Entry) → IsLegal history → HaveFewChildren (end_view history)
few history legal name run is = few_of (past (length history) history) name run (lasting_run history legal name run is)

-- a run of a legal history can be printed
printable_run : (history : List Entry) → IsLegal history → HasMoments history → (name : List ℕ) (run : RunState) → (end_view history).run name ≡ Some run
    → IsPrintable (end_view history) run
printable_run history legal moments name run is =
    let lasting = lasting_run history legal name run is in
    let moments_all = recursion_from_All (λ (e : Entry). e.moment ≤ last_moment) history moments in
    let whole : run_of history name ≡ Some run = ap (λ (h : List Entry). run_of h name) (sym (past_whole (length history) history (omega arith))) ∙ is in
    record {
      few = few_of (past (length history) history) name run lasting;
      timely = on_clock history moments_all name run whole;
      formed = lasting_facts (past (length history) history) name run (task_run_of (past (length history) history)) lasting;
    }

pub printable : (history : List Entry) → IsLegal history → HasMoments history → ArePrintable (end_view history)
printable history legal moments = λ name run is. printable_run history legal moments name run is

-- what shows a history with the fronts of runs and TaskRuns at its end, and no pods
pub ends : (seen : Seen) (fronts : Fronts) (history : List Entry) → Shows seen history → fronts.pods ≡ 0
    → seen.fronts ≡ listed TaskRuns (length history) (listed Runs (length history) fronts) → seen.view ≡ end_view history
ends seen fronts history shows none at =
    shows.same ∙ ap (λ (f : Fronts). view_at f history) (at ∙ (λ i. record { runs = length history; task_runs = length history; pods = none i }))

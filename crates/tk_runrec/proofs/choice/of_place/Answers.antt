use Rattle.std.proofs.Common.{◌≡◌, List, ℕ, Option, Some, refl, ap, sym, subst, ◌∙◌}
use Rattle.std.specs.Prelude.{IfOk, option_and_then, slice_get}
use Rattle.tk_cache.specs.Views.{Kept, seen}
use Rattle.tk_journal.specs.declared.act.Act.{Act}
use Rattle.tk_journal.specs.declared.object.RunState.{RunState}
use Rattle.tk_journal.specs.History.{View}
use Rattle.tk_runrec.specs.Choice.{act_named, act_of}
use Rattle.tk_runrec.specs.Fit.{IsFit}
use Rattle.tk_runrec.proofs.choice.of_place.Goals as goal

pub of_run-requires-clause-fit : goal.of_run-requires-clause-fit
of_run-requires-clause-fit c =
    let name = c.run_name-name.result.now in
    let run = c.run_at-run.result.now in
    let there = c.run_at-run.ensures name c.run_name-name.ensures in
    subst (λ (k : Kept). IsFit (seen k).view run) (sym c.cache-shown.ensures)
    (c.requires.fit name run (subst (λ (k : Kept). (seen k).view.run name ≡ Some run) c.cache-shown.ensures there))

act_there : (view : View) (moment place : ℕ) (name : List ℕ) (run : RunState) → slice_get view.runs place ≡ Some name → view.run name ≡ Some run → act_of view moment name run ≡ option_and_then (act_named view moment) (slice_get view.runs place)
act_there view moment place name run at there = rw (at, there) refl

pub returns : goal.returns
returns c =
    let name = c.run_name-name.result.now in
    let run = c.run_at-run.result.now in
    let there = c.run_at-run.ensures name c.run_name-name.ensures in
    let same : act_of (seen c.cache-shown.result.now).view c.args.moment name run ≡ option_and_then (act_named (seen c.args.cache.now).view c.args.moment) (slice_get (seen c.args.cache.now).view.runs c.args.place)
    = act_there (seen c.cache-shown.result.now).view c.args.moment c.args.place name run c.run_name-name.ensures there
    ∙ ap (λ (k : Kept). option_and_then (act_named (seen k).view c.args.moment) (slice_get (seen k).view.runs c.args.place)) c.cache-shown.ensures in
    subst (λ (chosen : Option Act). IfOk c.of_run.result (λ (act : Option Act). act ≡ chosen)) same c.of_run.ensures

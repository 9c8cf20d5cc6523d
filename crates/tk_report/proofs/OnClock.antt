-- A run starts at the moment of an entry.
use Rattle.std.proofs.Common.{◌≡◌, ◌≤◌, ◌∙◌, ℕ, List, [], ◌∷◌, Option, Some, None, refl, sym, ap, subst, inl, inr}
use Rattle.std.specs.List.{AllByRecursion}
use Rattle.std.specs.Option.{ForSome}
use Rattle.std.proofs.lemmas.Bool.{cases_Bool}
use Rattle.std.proofs.lemmas.Option.{same_Some}
use Rattle.tk_types.specs.declared.scenario.Kind.TheVariants as kinds
use Rattle.tk_time.specs.Moment.{last_moment}
use Rattle.tk_journal.specs.declared.act.Act.{Act}
use Rattle.tk_journal.specs.declared.act.Act.TheVariants as acts
use Rattle.tk_journal.specs.declared.act.Admission.TheVariants as admissions
use Rattle.tk_journal.specs.declared.entry.Entry.{Entry}
use Rattle.tk_journal.specs.declared.object.RunState.{RunState}
use Rattle.tk_journal.specs.Effects.{writes, admitted_run, run_made, run_after}
use Rattle.tk_journal.specs.History.{run_of, run_written}

abbrev OnClock : Option ℕ → Type 0
OnClock start = ForSome start (λ (m : ℕ). m ≤ last_moment)

made_on_clock : (act : Act) (run : RunState) → run_made act ≡ Some run → OnClock run.start
made_on_clock (acts.Admit name (admissions.Run spec) pending asked root) run is m at =
    let never : None ≡ Some m = ap (λ (r : RunState). r.start) (same_Some (admitted_run spec pending asked root) run is) ∙ at in cc
made_on_clock (acts.Admit name (admissions.Task spec) pending asked root) run is m at = cc
made_on_clock (acts.Ask name status) run is m at = cc
made_on_clock (acts.Start name) run is m at = cc
made_on_clock (acts.Schedule name task bindings) run is m at = cc
made_on_clock (acts.MakeTaskRun name owner task index mark) run is m at = cc
made_on_clock (acts.Halt name stop) run is m at = cc
made_on_clock (acts.CancelTaskRun name) run is m at = cc
made_on_clock (acts.OpenAttempt name) run is m at = cc
made_on_clock (acts.MakePod name task_run attempt plan mark) run is m at = cc
made_on_clock (acts.ClaimPod name) run is m at = cc
made_on_clock (acts.EndPod name exits outcome) run is m at = cc
made_on_clock (acts.Close name closing) run is m at = cc

after_on_clock : (moment : ℕ) (act : Act) (run : RunState) → moment ≤ last_moment → OnClock run.start → OnClock (run_after moment act run).start
after_on_clock moment (acts.Start name) run within before = λ m at. subst (λ (k : ℕ). k ≤ last_moment) (same_Some moment m at) within
after_on_clock moment (acts.Admit name spec pending asked root) run within before = before
after_on_clock moment (acts.Ask name status) run within before = before
after_on_clock moment (acts.Schedule name task bindings) run within before = before
after_on_clock moment (acts.MakeTaskRun name owner task index mark) run within before = before
after_on_clock moment (acts.Halt name stop) run within before = before
after_on_clock moment (acts.CancelTaskRun name) run within before = before
after_on_clock moment (acts.OpenAttempt name) run within before = before
after_on_clock moment (acts.MakePod name task_run attempt plan mark) run within before = before
after_on_clock moment (acts.ClaimPod name) run within before = before
after_on_clock moment (acts.EndPod name exits outcome) run within before = before
after_on_clock moment (acts.Close name closing) run within before = before

written_on_clock : (e : Entry) (before : Option RunState) (run : RunState) → e.moment ≤ last_moment → ((r : RunState) → before ≡ Some r → OnClock r.start)
    → run_written e before ≡ Some run → OnClock run.start
written_on_clock e None run within earlier is = made_on_clock e.act run is
written_on_clock e (Some r) run within earlier is =
    λ m at. after_on_clock e.moment e.act r within (earlier r refl) m (ap (λ (x : RunState). x.start) (same_Some (run_after e.moment e.act r) run is) ∙ at)

-- where the moments of all entries are on the clock, the start of each run is
pub on_clock : (history : List Entry) → AllByRecursion (λ (e : Entry). e.moment ≤ last_moment) history → (name : List ℕ) (run : RunState)
    → run_of history name ≡ Some run → OnClock run.start
on_clock [] all name run is = λ m at. cc
on_clock (e ∷ older) all name run is = elim (cases_Bool (writes kinds.Runs name e)) [
  | inl hit ↦ written_on_clock e (run_of older name) run all.0 (λ r same. on_clock older all.1 name r same) (sym (rw hit refl) ∙ is)
  | inr miss ↦ on_clock older all.1 name run (sym (rw miss refl) ∙ is)
]

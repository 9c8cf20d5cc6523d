-- What a run of the machine adds to a history.
use Rattle.std.specs.Prelude.{◌≡◌, ◌≤◌, ◌+◌, List, ◌++◌, false, All}
use Rattle.tk_types.specs.declared.scenario.Event.{Event}
use Rattle.tk_journal.specs.declared.entry.Entry.{Entry}
use Rattle.tk_journal.specs.Legal.{is_admit}
use Rattle.tk_journal.specs.Weight.{weight}
use Rattle.tk_machine.specs.Hosts.{Script}
use Rattle.tk_machine.specs.Machine.{Run}
use Rattle.tk_machine.specs.State.{World}
use Rattle.tk_scenario_laws.specs.Laws.{IsTimely, count_asks}
use Rattle.tk_time.specs.Moment.{last_moment}

-- the second history begins with the first, and what it has beside admits nothing
abbrev pub AdmitsNoMore : List Entry → List Entry → Type 0
AdmitsNoMore before after = (since : List Entry) × (after ≡ since ++ before) × All (λ (e : Entry). is_admit e.act ≡ false) since

-- each moment has a text
abbrev pub AreOnClock : List Entry → Type 0
AreOnClock history = All (λ (e : Entry). e.moment ≤ last_moment) history

-- the laws

abbrev pub RunsAdmitNothing : Script → Type 0
RunsAdmitNothing script = (w after : World) (given : List Event) → Run script w given after → AdmitsNoMore w.history after.history

abbrev pub RunsAreTimely : Script → Type 0
RunsAreTimely script =
    (w after : World) (given : List Event) → All IsTimely given → w.clock ≤ last_moment → AreOnClock w.history → Run script w given after
    → (after.clock ≤ last_moment) × AreOnClock after.history

abbrev pub RunsAskThese : Script → Type 0
RunsAskThese script = (w after : World) (given : List Event) → Run script w given after → weight after.history ≤ weight w.history + count_asks given

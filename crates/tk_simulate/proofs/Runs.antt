-- What a run of the machine adds to a history.
use Rattle.std.proofs.Common.{◌≡◌, ℕ, ◌≤◌, ◌+◌, List, [], ◌∷◌, ◌++◌, false, All, sym, ◌∙◌, ap, subst, inl, inr, append_assoc, arith}
use Rattle.std.proofs.lemmas.List.Elements.{All-nil, All-cons, All-head, All-tail, All-append}
use Rattle.tk_types.specs.declared.scenario.Event.{Event}
use Rattle.tk_journal.specs.declared.entry.Entry.{Entry}
use Rattle.tk_journal.specs.Legal.{is_admit}
use Rattle.tk_journal.specs.Weight.{weight}
use Rattle.tk_machine.specs.Hosts.{Script}
use Rattle.tk_machine.specs.Machine.{Steps}
use Rattle.tk_machine.specs.State.{World}
use Rattle.tk_scenario_laws.specs.Laws.{IsTimely, count_asks}
use Rattle.tk_simulate.proofs.Added.{Adds, IsAdded, grows_step}
use Rattle.tk_simulate.proofs.Opened.{asks_first, played_run}
use Rattle.tk_simulate.specs.Runs.{AdmitsNoMore, AreOnClock, RunsAdmitNothing, RunsAreTimely, RunsAskThese}
use Rattle.tk_time.specs.Moment.{last_moment}

-- one step

abbrev IsNoAdmit : Entry → Type 0
IsNoAdmit e = is_admit e.act ≡ false

no_more : (moment most : ℕ) (before after : List Entry) → Adds (IsAdded moment most) before after → AdmitsNoMore before after
no_more moment most before after adds = elim adds [
  | inl same ↦ ([], same, All-nil IsNoAdmit)
  | inr grew ↦ (grew.0 ∷ [], grew.2, All-cons IsNoAdmit grew.0 [] grew.1.no_admit (All-nil IsNoAdmit))
]

no_more_then : (a b c : List Entry) → AdmitsNoMore a b → AdmitsNoMore b c → AdmitsNoMore a c
no_more_then a b c first second =
    (second.0 ++ first.0, second.1 ∙ (ap (λ (h : List Entry). second.0 ++ h) first.1 ∙ sym (append_assoc second.0 first.0 a)), All-append IsNoAdmit second.0 first.0 second.2 first.2)

abbrev IsOnClock : Entry → Type 0
IsOnClock e = e.moment ≤ last_moment

on_clock : (moment most : ℕ) (before after : List Entry) → moment ≤ last_moment → AreOnClock before → Adds (IsAdded moment most) before after → AreOnClock after
on_clock moment most before after timely all adds = elim adds [
  | inl same ↦ subst AreOnClock (sym same) all
  | inr grew ↦
      let at = grew.1.of_moment in
      subst AreOnClock (sym grew.2) (All-cons IsOnClock grew.0 before (omega (arith, at, timely)) all)
]

added_weight : (moment most : ℕ) (before after : List Entry) → Adds (IsAdded moment most) before after → weight after ≤ weight before + most
added_weight moment most before after adds = elim adds [
  | inl same ↦ omega (arith, ap weight same)
  | inr grew ↦ let weighs = grew.1.weighs in omega (arith, ap weight grew.2, weighs)
]

-- all of them

module _ (script : Script) where
  steps_admit : (w : World) (played : List Event) (after : World) → Steps script w played after → AdmitsNoMore w.history after.history
  steps_admit w [] after done = ([], ap (λ (x : World). x.history) done, All-nil IsNoAdmit)
  steps_admit w (event ∷ later) after done =
      no_more_then w.history done.0.history after.history (no_more w.clock (count_asks (event ∷ [])) w.history done.0.history (grows_step script w event done.0 done.1).adds) (steps_admit done.0 later after done.2)

  steps_timely : (w : World) (played : List Event) (after : World) → All IsTimely played → w.clock ≤ last_moment → AreOnClock w.history → Steps script w played after → (after.clock ≤ last_moment) × AreOnClock after.history
  steps_timely w [] after timely clock all done = subst (λ (x : World). (x.clock ≤ last_moment) × AreOnClock x.history) (sym done) (clock, all)
  steps_timely w (event ∷ later) after timely clock all done =
      let grows = grows_step script w event done.0 done.1 in
      steps_timely done.0 later after (All-tail IsTimely event later timely)
      (grows.timely (All-head IsTimely event later timely) clock)
      (on_clock w.clock (count_asks (event ∷ [])) w.history done.0.history clock all grows.adds) done.2

  steps_weigh : (w : World) (played : List Event) (after : World) → Steps script w played after → weight after.history ≤ weight w.history + count_asks played
  steps_weigh w [] after done = omega (arith, ap (λ (x : World). weight x.history) done)
  steps_weigh w (event ∷ later) after done =
      omega (arith, added_weight w.clock (count_asks (event ∷ [])) w.history done.0.history (grows_step script w event done.0 done.1).adds, steps_weigh done.0 later after done.2, asks_first event later)

pub runs_admit_nothing : (script : Script) → RunsAdmitNothing script
runs_admit_nothing script w after given run = let all = played_run script w given after run in steps_admit script w all.played after all.steps

pub runs_are_timely : (script : Script) → RunsAreTimely script
runs_are_timely script w after given timely clock on_clock run =
    let all = played_run script w given after run in
    steps_timely script w all.played after (all.timely timely) clock on_clock all.steps

pub runs_ask_these : (script : Script) → RunsAskThese script
runs_ask_these script w after given run =
    let all = played_run script w given after run in
    let asks = all.asks in
    omega (arith, steps_weigh script w all.played after all.steps, asks)

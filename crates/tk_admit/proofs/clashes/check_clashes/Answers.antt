use Rattle.std.proofs.Common.{◌≡◌, ℕ, List, map, take, Bor, ap, sym, subst, ◌∙◌}
use Rattle.std.proofs.lemmas.List.{take_all}
use Rattle.tk_types.specs.First.{Finding}
use Rattle.tk_types.specs.Place.{Place}
use Rattle.tk_types.specs.Rejected.{IsRefusal}
use Rattle.tk_admit.specs.declared.taken.Taken.{Taken}
use Rattle.tk_journal.specs.Names.{task_run_names}
use Rattle.tk_admit.specs.Names.{all_names, owners}
use Rattle.tk_admit.proofs.Owners.{clash_owned, clash_told, gathered_more}
use Rattle.tk_admit.proofs.clashes.check_clashes.Goals as goal

pub loop-run-preserved : goal.loop-run-preserved
loop-run-preserved c =
    let runs = c.args.runs.now in
    let i = c.loop-run.run-index in
    let run = c.run-item.result in
    let before : List Place = map (λ (p : Bor Place). p.now) c.loop-run.owners.items in
    let after : List Place = map (λ (p : Bor Place). p.now) c.add_run.new.owners.items in (
      gathered_more (λ (r : Taken). task_run_names r.spec) runs i run c.loop-run.names c.add_run.new.names c.loop-run-test.true c.run-item.is c.loop-run.invariant.0 c.in_ok-add_run.ensures.names,
      gathered_more (λ (r : Taken). map (λ (name : List ℕ). r.place) (task_run_names r.spec)) runs i run before after c.loop-run-test.true c.run-item.is c.loop-run.invariant.1 c.in_ok-add_run.ensures.owners,
    )

pub clashing-requires-clause-earlier : goal.clashing-requires-clause-earlier
clashing-requires-clause-earlier c =
    (clash_owned (take c.loop-run.run-index c.args.runs.now) c.as_slice.result.now c.as_slice-in-Some.result.now c.in-Some.earlier c.in-Some.later
    (c.as_slice.ensures ∙ c.loop-run.invariant.0)
    (ap (map (λ (p : Bor Place). p.now)) c.as_slice-in-Some.ensures.value ∙ c.loop-run.invariant.1)
    (sym c.in_ok-earlier.ensures ∙ c.in-Some.is)).0

pub clashing-requires-clause-later : goal.clashing-requires-clause-later
clashing-requires-clause-later c =
    (clash_owned (take c.loop-run.run-index c.args.runs.now) c.as_slice.result.now c.as_slice-in-Some.result.now c.in-Some.earlier c.in-Some.later
    (c.as_slice.ensures ∙ c.loop-run.invariant.0)
    (ap (map (λ (p : Bor Place). p.now)) c.as_slice-in-Some.ensures.value ∙ c.loop-run.invariant.1)
    (sym c.in_ok-earlier.ensures ∙ c.in-Some.is)).1

pub returns-in-Some : goal.returns-in-Some
returns-in-Some c =
    let all : take c.loop-run.run-index c.args.runs.now ≡ c.args.runs.now = take_all c.loop-run.run-index c.args.runs.now c.loop-run-test.false in
    subst (λ (finding : Finding). IsRefusal finding c.clashing.result)
    (clash_told c.args.runs.now c.as_slice.result.now (map (λ (p : Bor Place). p.now) c.as_slice-in-Some.result.now) (c.in-Some.earlier, c.in-Some.later)
    (c.as_slice.ensures ∙ (c.loop-run.invariant.0 ∙ ap all_names all))
    (ap (map (λ (p : Bor Place). p.now)) c.as_slice-in-Some.ensures.value ∙ (c.loop-run.invariant.1 ∙ ap owners all))
    (sym c.in_ok-earlier.ensures ∙ c.in-Some.is))
    c.clashing.ensures

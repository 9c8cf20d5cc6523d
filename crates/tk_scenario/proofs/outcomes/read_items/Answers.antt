use Rattle.std.proofs.Common.{◌≡◌, ◌+◌, List, [], ◌∷◌, ◌++◌, map, take, true, false, None, Some, refl, sym, ◌∙◌, arith}
use Rattle.std.specs.List.{list_any}
use Rattle.std.proofs.lemmas.Grind.{common_steps}
use Rattle.serde_json.specs.Data.{Data}
use Rattle.serde_json.specs.View.{view}
use Rattle.tk_types.specs.Fault.{bad_choice}
use Rattle.tk_types.specs.Place.{◌#◌}
use Rattle.tk_types.specs.Rejected.{IsRefusal}
use Rattle.tk_scenario.specs.Scenario.{first_bad_outcome, is_same_attempt, outcome}
use Rattle.tk_scenario.proofs.Attempts.{among-more, among-same, left-step, new_outcome-found, new_outcome-none, stood, stood_not, taken-more}
use Rattle.tk_scenario.proofs.outcomes.read_items.Goals as goal

pub returns-then-not-branch : goal.returns-then-not-branch
returns-then-not-branch c =
    let items = c.args.items.now in
    let i = c.loop-item.item-index in
    let d : Data = view c.item-item.result in
    let before : List Data = map view (take i items) in
    let at : c.len-index.result ≡ i = grind (arith, common_steps) in
    let right : outcome (c.args.place.now # i) d ≡ None = rw at at c.in_ok-outcome.ensures.0 in
    let old : list_any (is_same_attempt d) before ≡ true
    = stood _ _ _ c.in_ok-insert.ensures.added (among-same c.loop-item.seen (c.text_at.result, c.number_at.result) before d c.text_at.ensures c.number_at.ensures c.loop-item.invariant.among) c.if-not-branch.true in
    let found : first_bad_outcome c.args.place.now 0 [] (map view items) ≡ Some (bad_choice (c.args.place.now # i))
    = sym c.loop-item.invariant.left ∙ rw (left-step c.args.place.now items i c.item-item.result c.loop-item-test.true c.item-item.is, new_outcome-found before (c.args.place.now # i) d right old) refl in
    let told : IsRefusal (Some (bad_choice (c.args.place.now # i))) c.stands_before.result = rw at at c.stands_before.ensures in
    rw found told

pub loop-item-preserved : goal.loop-item-preserved
loop-item-preserved c =
    let items = c.args.items.now in
    let i = c.loop-item.item-index in
    let place = c.args.place.now in
    let d : Data = view c.item-item.result in
    let before : List Data = map view (take i items) in
    let at : c.len-index.result ≡ i = grind (arith, common_steps) in
    let right : outcome (place # i) d ≡ None = rw at at c.in_ok-outcome.ensures.0 in
    let fresh : list_any (is_same_attempt d) before ≡ false
    = stood_not _ _ _ c.in_ok-insert.ensures.added (among-same c.loop-item.seen (c.text_at.result, c.number_at.result) before d c.text_at.ensures c.number_at.ensures c.loop-item.invariant.among) c.if-not-branch.false in
    let taken : map view (take (i + 1) items) ≡ before ++ d ∷ [] = taken-more items i c.item-item.result c.loop-item-test.true c.item-item.is in
    record {
      made = grind (arith, common_steps, taken);
      among = λ task_run attempt. rw taken (among-more c.loop-item.seen c.insert.new.self (c.text_at.result, c.number_at.result) before d c.text_at.ensures c.number_at.ensures c.in_ok-insert.ensures.updates c.loop-item.invariant.among task_run attempt);
      left = sym (left-step place items i c.item-item.result c.loop-item-test.true c.item-item.is ∙ rw (new_outcome-none before (place # i) d right fresh) refl) ∙ c.loop-item.invariant.left;
    }

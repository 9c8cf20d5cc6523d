use Rattle.std.proofs.Common.{◌≡◌, List, map, length, sym, arith, Bor, ℕ}
use Rattle.std.proofs.lemmas.List.{length-map}
use Rattle.tk_scenario.proofs.WordCount.{event_by-many}
use Rattle.tk_scenario.proofs.event.of_words.Goals as goal

pub returns-in-len6-up : goal.returns-in-len6-up
returns-in-len6-up c =
    let now : Bor (List ℕ) → List ℕ = λ x. x.now in
    let words = map now c.args.words.now in
    let same : length words ≡ length c.args.words.now = length-map c.args.words.now now in
    sym (event_by-many c.args.counts c.args.reading words (omega (arith, same, c.in-len6-up.len_at_least)))

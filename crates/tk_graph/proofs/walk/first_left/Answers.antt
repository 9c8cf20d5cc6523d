use Rattle.std.proofs.Common.{◌∙◌, length, get_or, sym, arith}
use Rattle.std.proofs.lemmas.Bool.{le-leb, lt-leb}
use Rattle.std.proofs.lemmas.Option.{slice_get-get_or, slice_get_past}
use Rattle.tk_graph.specs.Removal.{is_left}
use Rattle.tk_graph.proofs.WalkSteps.{find_by_place}
use Rattle.tk_graph.proofs.walk.first_left.Goals as goal

pub returns-then-first-places-clause-first : goal.returns-then-first-places-clause-first
returns-then-first-places-clause-first c =
    let places = c.args.places.now in
    let ranks = c.args.ranks.now in
    let i = c.next_left-first.result in
    sym (find_by_place (is_left ranks) places i c.next_left-first.ensures.most
    (λ k lt. lt-leb (length ranks) (get_or ranks (get_or places k 0) 0) (c.next_left-first.ensures.passed k (omega arith) lt))
    (λ lt. le-leb (length ranks) (get_or ranks (get_or places i 0) 0) (c.next_left-first.ensures.stops lt))
    ∙ slice_get-get_or places i 0 c.if-first-places.true)

pub returns-else-first-places-clause-first : goal.returns-else-first-places-clause-first
returns-else-first-places-clause-first c =
    let places = c.args.places.now in
    let ranks = c.args.ranks.now in
    let i = c.next_left-first.result in
    sym (find_by_place (is_left ranks) places i c.next_left-first.ensures.most
    (λ k lt. lt-leb (length ranks) (get_or ranks (get_or places k 0) 0) (c.next_left-first.ensures.passed k (omega arith) lt))
    (λ lt. le-leb (length ranks) (get_or ranks (get_or places i 0) 0) (c.next_left-first.ensures.stops lt))
    ∙ slice_get_past places i c.if-first-places.false)

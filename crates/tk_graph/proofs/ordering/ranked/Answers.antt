use Rattle.std.proofs.Common.{◌≡◌, ◌<◌, ◌∙◌, Some, None, find, length, get_or, map, sym, ap, subst, arith}
use Rattle.std.specs.List.{range_with_len}
use Rattle.tk_graph.specs.Cycle.{name_at}
use Rattle.tk_graph.specs.Parents.{IsRanking}
use Rattle.tk_graph.specs.Removal.{is_left, parents_at, walked_from}
use Rattle.tk_graph.proofs.Outcome.{length_above, is_inside, ranking, some_left, cycle_of_is}
use Rattle.tk_graph.proofs.Removing.{places_exist}
use Rattle.tk_graph.proofs.ordering.ranked.Goals as goal

pub remove-requires-clause-few : goal.remove-requires-clause-few
remove-requires-clause-few c = omega (arith, length_above c.args.tasks.now c.args.above.now c.requires.parents)

pub remove-requires-clause-inside : goal.remove-requires-clause-inside
remove-requires-clause-inside c = is_inside c.args.tasks.now c.args.above.now c.requires.parents

pub first_left-requires : goal.first_left-requires
first_left-requires c = λ k d lt.
    let n = length c.args.tasks.now in
    let small = places_exist n c.as_slice.result.now (c.as_slice.ensures.value ∙ c.in_ok-all.ensures) k d lt in
    let long = c.in_ok-ranks.ensures.count in
    omega (arith, small, long, ap length c.as_slice-2.ensures.value, length_above c.args.tasks.now c.args.above.now c.requires.parents)

pub returns-in_default-clause-ranks : goal.returns-in_default-clause-ranks
returns-in_default-clause-ranks c =
    let tasks = c.args.tasks.now in
    let ranks = c.in_ok-ranks.ranks.items in
    let none : find (is_left ranks) (range_with_len 0 (length tasks)) ≡ None =
    sym (ap (λ rs. find (is_left rs) c.as_slice.result.now) c.as_slice-2.ensures.value ∙ ap (find (is_left ranks)) (c.as_slice.ensures.value ∙ c.in_ok-all.ensures))
    ∙ (sym c.first_left.ensures.first ∙ c.in_default.is) in
    subst (IsRanking tasks) (sym c.from_vec.ensures) (ranking tasks c.args.above.now c.requires.parents ranks c.in_ok-ranks.ensures none)

pub walk-requires-clause-few : goal.walk-requires-clause-few
walk-requires-clause-few c = omega (arith, length_above c.args.tasks.now c.args.above.now c.requires.parents)

pub walk-requires-clause-inside : goal.walk-requires-clause-inside
walk-requires-clause-inside c = is_inside c.args.tasks.now c.args.above.now c.requires.parents

pub walk-requires-clause-exists : goal.walk-requires-clause-exists
walk-requires-clause-exists c =
    let n = length c.args.tasks.now in
    let among = c.in-Some.ensures.among in
    let small = places_exist n c.as_slice.result.now (c.as_slice.ensures.value ∙ c.in_ok-all.ensures) among.0 c.in-Some.first among.1 in
    omega (arith, small, among.2, length_above c.args.tasks.now c.args.above.now c.requires.parents)

pub names_at-requires : goal.names_at-requires
names_at-requires c = λ k d lt.
    let cycle = c.in_ok-cycle.cycle.items in
    let small = c.in_ok-cycle.ensures.places k d (subst (λ xs. k < length xs) c.as_slice-4.ensures.value lt) in
    omega (arith, small, ap (λ xs. get_or xs k d) c.as_slice-4.ensures.value, length_above c.args.tasks.now c.args.above.now c.requires.parents)

pub returns-clause-left : goal.returns-clause-left
returns-clause-left c =
    let tasks = c.args.tasks.now in
    let ranks = c.in_ok-ranks.ranks.items in
    let is : Some c.in-Some.first ≡ find (is_left ranks) (range_with_len 0 (length tasks)) =
    c.in-Some.ensures.first
    ∙ (ap (λ rs. find (is_left rs) c.as_slice.result.now) c.as_slice-2.ensures.value ∙ ap (find (is_left ranks)) (c.as_slice.ensures.value ∙ c.in_ok-all.ensures)) in
    some_left tasks c.args.above.now c.requires.parents ranks c.in_ok-ranks.ensures c.in-Some.first is

pub returns-clause-names : goal.returns-clause-names
returns-clause-names c =
    let tasks = c.args.tasks.now in
    let above = c.args.above.now in
    let ranks = c.in_ok-ranks.ranks.items in
    let among = c.in-Some.ensures.among in
    let small = places_exist (length tasks) c.as_slice.result.now (c.as_slice.ensures.value ∙ c.in_ok-all.ensures) among.0 c.in-Some.first among.1 in
    let first : c.in-Some.first < length tasks = omega (arith, small, among.2) in
    let is : Some c.in-Some.first ≡ find (is_left ranks) (range_with_len 0 (length tasks)) =
    c.in-Some.ensures.first
    ∙ (ap (λ rs. find (is_left rs) c.as_slice.result.now) c.as_slice-2.ensures.value ∙ ap (find (is_left ranks)) (c.as_slice.ensures.value ∙ c.in_ok-all.ensures)) in
    c.in_ok-names.ensures
    ∙ ap (map (name_at tasks)) (c.as_slice-4.ensures.value ∙ (c.in_ok-cycle.ensures.walked ∙ (ap (λ rs. walked_from (parents_at above) (is_left rs) (length above) c.in-Some.first) c.as_slice-3.ensures.value ∙ cycle_of_is tasks above c.requires.parents ranks c.in_ok-ranks.ensures c.in-Some.first first is)))

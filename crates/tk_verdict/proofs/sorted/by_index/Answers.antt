use Rattle.std.proofs.Common.{◌∙◌, ap, map, rules}
use Rattle.std.proofs.lemmas.List.Sorted.{answers_always, IsNonDecreasingBy-from_sort}
use Rattle.tk_types.specs.declared.run.Child.{Child}
use Rattle.tk_verdict.specs.Available.{by_index}
use Rattle.tk_verdict.proofs.SortedFacts.{by_index-from_sort}
use Rattle.tk_verdict.proofs.sorted.by_index.Goals as goal
use denote.Bor.{Bor}

pub returns : goal.returns
returns c =
    let now = λ (child : Bor Child). child.now in
    let index = λ (child : Bor Child). child.now.index in
    let keys = answers_always _ _ _ (λ f a r next called. search rules) in
    by_index-from_sort now c.in_ok-sorted.sorted.items c.sort_by_key.new.self.items (IsNonDecreasingBy-from_sort index c.sort_by_key.new.self.items (c.in_ok-sort_by_key.ensures.sorted index keys)) (c.in_ok-sort_by_key.ensures.stable index keys)
    ∙ ap (λ children. by_index (map now children)) c.in_ok-sorted.ensures

use Rattle.std.proofs.Common.{◌∙◌, subst, eqb, IsPermutation}
use Rattle.std.proofs.lemmas.List.Filters.{dedup_is}
use Rattle.tk_graph.proofs.Ascending.{places_of_names}
use Rattle.tk_graph.proofs.above.places_of_all.Goals as goal

pub returns : goal.returns
returns c =
    let sorted = c.sort_unstable.new.self.items in
    c.from_vec.ensures
    ∙ (dedup_is eqb sorted c.dedup.new.self.items c.dedup.ensures.filtered
    ∙ places_of_names c.args.names.now c.args.wanted.now sorted (subst (λ xs. IsPermutation xs sorted) c.in_ok-places.ensures c.sort_unstable.ensures.permutation) c.sort_unstable.ensures.sorted)

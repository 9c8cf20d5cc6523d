use Rattle.std.proofs.Common.{rules}
use Rattle.std.proofs.lemmas.List.Sorted.{IsNonDecreasingBy-from_sort_by_key}
use Rattle.tk_verdict.specs.declared.sequence.Ranked.{Ranked}
use Rattle.tk_verdict.proofs.sequence.by_rank.Goals as goal

pub returns : goal.returns
returns c =
    record {
      permutation = search rules;
      sorted = IsNonDecreasingBy-from_sort_by_key (λ (r : Ranked). r.rank) _ c.sort_unstable_by_key.ensures.sorted (λ a r q k. search rules);
    }

-- The tasks in the order of their ranks.
use Rattle.std.specs.Prelude.{ℕ, List, length, map, slice_index}
use Rattle.std.specs.List.{range_with_len}
use Rattle.std.specs.List.Sorted.{IsNonDecreasingBy, IsPermutation}
use Rattle.tk_verdict.specs.declared.sequence.Ranked.{Ranked}

-- each place with its rank
abbrev pub ranked_at : List ℕ → ℕ → Ranked
ranked_at ranks place = record { rank = slice_index ranks place; place = place }

abbrev pub ranked : List ℕ → List Ranked
ranked ranks = map (ranked_at ranks) (range_with_len 0 (length ranks))

-- the sequence has each place with its rank, in the order of ranks
pub record IsSequence (ranks : List ℕ) (sequence : List Ranked) : Type 0 where
  pub permutation : IsPermutation (ranked ranks) sequence
  pub sorted : IsNonDecreasingBy (λ (r : Ranked). r.rank) sequence

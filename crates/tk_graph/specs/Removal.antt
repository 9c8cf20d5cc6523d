-- Places removed one after the other, each after its parents.
use Rattle.std.specs.Prelude.{◌≡◌, ◌⊎◌, ℕ, suc, Bool, ◌+◌, ◌<◌, ◌≤◌, nat_le, List, [], length, slice_index, slice_index_or, count_by, Contains}
use Rattle.tk_graph.specs.Cycle.{is_among, walk}

-- the parents of a place, by a list of them for each place
abbrev pub parents_at : List (List ℕ) → ℕ → List ℕ
parents_at above place = slice_index_or above place []

-- by its rank the place isn't removed
abbrev pub is_left : List ℕ → ℕ → Bool
is_left ranks place = nat_le (length ranks) (slice_index ranks place)

-- parents are places
abbrev pub IsInside : List (List ℕ) → Type 0
IsInside above = (place parent : ℕ) → Contains (parents_at above place) parent → parent < length above

-- the children of each place: the places of which it is a parent
abbrev pub AreChildren : List (List ℕ) → List (List ℕ) → Type 0
AreChildren above below = (parent child : ℕ) → parent < length above → is_among (slice_index_or below parent []) child ≡ is_among (parents_at above child) parent

-- a removed place has the rank of its removal, any other the number of places; of a place's parents as many as its cursor says are removed
pub record IsRemoving (above : List (List ℕ)) (ranks removed cursors : List ℕ) : Type 0 where
  pub ranks_count : length ranks ≡ length above
  pub cursors_count : length cursors ≡ length above
  pub counted : length removed + count_by (λ rank. nat_le (length above) rank) ranks ≡ length above
  pub places : (k : ℕ) → k < length removed → slice_index removed k < length above
  pub found : (place : ℕ) → place < length above → slice_index ranks place < length above → (slice_index ranks place < length removed) × (slice_index removed (slice_index ranks place) ≡ place)
  pub rising : (place parent : ℕ) → place < length above → slice_index ranks place < length above → Contains (parents_at above place) parent → slice_index ranks parent < slice_index ranks place
  pub bounded : (place : ℕ) → place < length above → slice_index cursors place ≤ length (parents_at above place)
  pub passed : (place k : ℕ) → place < length above → k < slice_index cursors place → slice_index ranks (slice_index (parents_at above place) k) < length above

-- the place is removed, or the parent at its cursor isn't among the first so many removed
abbrev pub Waits : List (List ℕ) → List ℕ → List ℕ → ℕ → ℕ → Type 0
Waits above ranks cursors step place =
    (slice_index ranks place < length above)
    ⊎ ((slice_index cursors place < length (parents_at above place)) × (step ≤ slice_index ranks (slice_index (parents_at above place) (slice_index cursors place))))

-- removed as far as can be: ranks rise, and what isn't removed has a parent that isn't
pub record IsRemoved (above : List (List ℕ)) (ranks : List ℕ) : Type 0 where
  pub count : length ranks ≡ length above
  pub rising : (place parent : ℕ) → place < length above → slice_index ranks place < length above → Contains (parents_at above place) parent → slice_index ranks parent < slice_index ranks place
  pub left : (place : ℕ) → place < length above → length above ≤ slice_index ranks place → (parent : ℕ) × Contains (parents_at above place) parent × (length above ≤ slice_index ranks parent)

-- the walk from a place, through as many places at most as there are, and one more
unfoldable pub walked_from : (ℕ → List ℕ) → (ℕ → Bool) → ℕ → ℕ → List ℕ
walked_from above left count place = walk above left (suc count) [] place

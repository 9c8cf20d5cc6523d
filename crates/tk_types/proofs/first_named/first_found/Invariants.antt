use Rattle.std.proofs.Common.{◌≡◌, ℕ, List, take, bytes_eq, find, option_map}
use Rattle.std.specs.HashMap.{get_by}
use Rattle.tk_types.proofs.first_named.first_found.Given as goal

-- the first thing of each name so far
abbrev pub invariant-loop-item : goal.invariant-loop-item
invariant-loop-item g l = (name : List ℕ) → option_map (λ item. item.now) (get_by (λ k. bytes_eq name k.now) l.found) ≡ find (λ item. bytes_eq (g.T.Named.name item) name) (take l.item-index l.items)

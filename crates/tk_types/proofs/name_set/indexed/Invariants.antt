use Rattle.std.proofs.Common.{◌≡◌, ℕ, List, map, take, bytes_eq, is_some}
use Rattle.std.specs.HashMap.{get_by}
use Rattle.tk_types.specs.Names.{is_in}
use Rattle.tk_types.proofs.name_set.indexed.Given as goal

-- the names so far are found
abbrev pub invariant-loop-name : goal.invariant-loop-name
invariant-loop-name l = (name : List ℕ) → is_some (get_by (λ k. bytes_eq name k.now) l.found) ≡ is_in (map (λ n. n.now) (take l.name-index l.names)) name

use Rattle.std.proofs.Common.{◌≡◌, drop, bytes_eq, find}
use Rattle.tk_types.proofs.first_named.first_named.Given as goal

-- it is among those that are left
abbrev pub invariant-loop-item : goal.invariant-loop-item
invariant-loop-item g l = find (λ item. bytes_eq (g.T.Named.name item) l.name) (drop l.item-index l.items) ≡ find (λ item. bytes_eq (g.T.Named.name item) l.name) l.items

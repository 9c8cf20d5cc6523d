use Rattle.std.proofs.Common.{◌≡◌, map, length}
use Rattle.tk_fields.specs.Keys.{role_among}
use Rattle.tk_fields.proofs.table.find_role.Given as goal

-- the role is that which the rows that are left give
abbrev pub invariant-loop-names : goal.invariant-loop-names
invariant-loop-names g l = role_among (map g.K.Key.key l.names) l.roles l.key ≡ role_among (map g.K.Key.key l.fn.names) l.fn.roles l.key

abbrev pub decreases-loop-names : goal.decreases-loop-names
decreases-loop-names g l = length l.names

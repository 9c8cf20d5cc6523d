use Rattle.std.proofs.Common.{◌≡◌, [], get_or, drop}
use Rattle.std.specs.Prelude.{filter}
use Rattle.tk_matrix.specs.Include.{stands_alone}
use Rattle.tk_matrix.proofs.choice.own_entry.Given as goal

-- the entry is looked for among those that are left
abbrev pub invariant-loop-entry : goal.invariant-loop-entry
invariant-loop-entry l =
    get_or (filter (stands_alone l.params) (drop l.entry-index l.entries)) l.left [] ≡ get_or (filter (stands_alone l.params) l.entries) l.index []

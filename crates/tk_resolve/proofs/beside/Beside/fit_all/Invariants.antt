use Rattle.std.proofs.Common.{◌≡◌, true}
use Rattle.std.specs.List.{list_all, range_with_len}
use Rattle.tk_resolve.specs.Shapes.{fit_beside, shapes_at}
use Rattle.tk_resolve.proofs.beside.Beside.fit_all.Given as goal

-- the combinations so far fit
abbrev pub invariant-loop-index : goal.invariant-loop-index
invariant-loop-index l = list_all (λ i. fit_beside l.self.0 l.self.1 (shapes_at l.known.early.items l.known.matrix i)) (range_with_len 0 l.index) ≡ true

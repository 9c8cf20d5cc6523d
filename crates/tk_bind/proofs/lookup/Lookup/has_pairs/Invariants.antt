use Rattle.std.proofs.Common.{◌≡◌, drop, is_ok}
use Rattle.std.specs.List.{list_all}
use Rattle.tk_types.specs.declared.value.Pair.{Pair}
use Rattle.tk_bind.specs.Substitute.{substituted}
use Rattle.tk_bind.proofs.lookup.Lookup.has_pairs.Given as goal

-- the pairs that are left decide
abbrev pub invariant-loop-pair : goal.invariant-loop-pair
invariant-loop-pair l = list_all (λ (p : Pair). is_ok (substituted l.self p.value)) (drop l.pair-index l.pairs) ≡ list_all (λ (p : Pair). is_ok (substituted l.self p.value)) l.pairs

use Rattle.std.proofs.Common.{◌≡◌, map, drop}
use Rattle.std.specs.List.{list_any}
use Rattle.tk_bind.specs.Lacking.{text_lacks}
use Rattle.tk_verdict.proofs.missing.lack.Given as goal

-- the texts that are left decide
abbrev pub invariant-loop-text : goal.invariant-loop-text
invariant-loop-text l = list_any (text_lacks l.lookup) (map (λ t. t.now) (drop l.text-index l.texts)) ≡ list_any (text_lacks l.lookup) (map (λ t. t.now) l.texts)

use Rattle.std.proofs.Common.{◌≡◌, drop, is_ok}
use Rattle.std.specs.List.{list_all}
use Rattle.tk_bind.specs.Substitute.{element}
use Rattle.tk_bind.proofs.lookup.Lookup.has_elements.Given as goal

-- the texts that are left decide
abbrev pub invariant-loop-text : goal.invariant-loop-text
invariant-loop-text l = list_all (λ text. is_ok (element l.self text)) (drop l.text-index l.texts) ≡ list_all (λ text. is_ok (element l.self text)) l.texts

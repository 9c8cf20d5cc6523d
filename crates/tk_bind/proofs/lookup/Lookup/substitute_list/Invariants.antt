use Rattle.std.proofs.Common.{◌≡◌, map, drop}
use Rattle.tk_bind.specs.Substitute.{element, substituted_list}
use Rattle.tk_bind.proofs.Gathering.{after, all_joined}
use Rattle.tk_bind.proofs.lookup.Lookup.substitute_list.Given as goal

-- the list so far, and what the elements that are left give, are the whole
abbrev pub invariant-loop-text : goal.invariant-loop-text
invariant-loop-text l = after l.made (all_joined (map (element l.self) (drop l.text-index l.texts))) ≡ substituted_list l.self l.texts

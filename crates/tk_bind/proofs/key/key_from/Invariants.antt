use Rattle.std.proofs.Common.{◌≡◌, ◌++◌, take, string_bytes}
use Rattle.std.specs.List.{flat_map}
use Rattle.tk_vars.specs.Target.{key_part}
use Rattle.tk_bind.proofs.KeyFacts.{dotted}
use Rattle.tk_bind.proofs.key.key_from.Given as goal

-- the first part, and the parts so far, each behind a dot
abbrev pub invariant-loop-part : goal.invariant-loop-part
invariant-loop-part l = string_bytes l.key ≡ key_part l.fn.first ++ flat_map dotted (take l.part-index l.rest)

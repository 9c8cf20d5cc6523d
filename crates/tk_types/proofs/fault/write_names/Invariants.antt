use Rattle.std.proofs.Common.{◌≡◌, ◌++◌, map, take}
use Rattle.std.specs.Prelude.{string_bytes}
use Rattle.tk_types.specs.Fault.{after_spaces, name_text}
use Rattle.tk_types.proofs.fault.write_names.Given as goal

-- the names so far stand behind what was there
abbrev pub invariant-loop-name : goal.invariant-loop-name
invariant-loop-name l = string_bytes l.line ≡ string_bytes l.fn.line ++ after_spaces (map name_text (take l.name-index l.names))

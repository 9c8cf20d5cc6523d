use Rattle.std.proofs.Common.{All, take}
use Rattle.tk_taken_names.specs.Taken.{IsNew}
use Rattle.tk_taken_names.proofs.taken.TakenNames.each_is_new.Given as goal

-- the names so far are new
abbrev pub invariant-loop-name : goal.invariant-loop-name
invariant-loop-name l = All (IsNew l.self) (take l.name-index l.names)

use Rattle.std.proofs.Common.{◌≡◌, take, reverse, option_map}
use Rattle.tk_edge.specs.Memory.{file_of}
use Rattle.tk_edge.proofs.clean_host.file_in.Given as goal

abbrev pub invariant-loop-index : goal.invariant-loop-index
invariant-loop-index l = file_of l.path (reverse (take l.index l.events)) ≡ option_map (λ b. b.now) l.found

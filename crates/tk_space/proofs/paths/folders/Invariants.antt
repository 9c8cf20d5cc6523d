use Rattle.std.proofs.Common.{◌≡◌, map, take}
use Rattle.tk_space.specs.Space.{space_folder}
use Rattle.tk_space.proofs.paths.folders.Given as goal

abbrev pub invariant-loop-space : goal.invariant-loop-space
invariant-loop-space l = l.folders ≡ map (space_folder l.root l.pod) (take l.space-index l.bound)

use Rattle.std.proofs.Common.{All, take}
use Rattle.tk_spec_sound.specs.Parts.{IsSoundBody}
use Rattle.tk_spec_sound.proofs.steps.are_sound_bodies.Given as goal

-- the bodies so far have what they need
abbrev pub invariant-loop-body : goal.invariant-loop-body
invariant-loop-body l = All (IsSoundBody l.start) (take l.body-index l.bodies)

use Rattle.std.proofs.Common.{◌≡◌, drop}
use Rattle.tk_pod.specs.Walk.{broken_from}
use Rattle.tk_pod.proofs.walk.PodWalk.broken.Given as goal

-- what is broken stands in the exits that are left
abbrev pub invariant-loop-step : goal.invariant-loop-step
invariant-loop-step l =
    broken_from l.fn.self.keep_going 0 l.fn.self.exits ≡ broken_from l.fn.self.keep_going l.step (drop l.step l.fn.self.exits)

use Rattle.std.proofs.Common.{◌≡◌, ◌++◌, cond, map, drop, None}
use Rattle.tk_validate.specs.declared.seen.Seen.{Seen}
use Rattle.tk_validate.specs.Agreed.{agrees_with}
use Rattle.tk_validate.specs.Seen.{seen}
use Rattle.tk_validate.proofs.seen.task_seen.add_agreed.Given as goal

-- what is made so far, and what those that are left give, are the whole
abbrev pub invariant-loop-one : goal.invariant-loop-one
invariant-loop-one l =
    let agreed = λ (s : Seen). seen s.name (cond (agrees_with l.index l.mixed s) s.kind None) in
    l.made ++ map agreed (drop l.one-index l.all) ≡ l.initial.made ++ map agreed l.all

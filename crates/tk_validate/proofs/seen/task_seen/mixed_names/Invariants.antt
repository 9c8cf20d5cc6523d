use Rattle.std.proofs.Common.{◌≡◌, ◌++◌, map, drop}
use Rattle.std.specs.List.{filter}
use Rattle.tk_validate.specs.declared.seen.Seen.{Seen}
use Rattle.tk_validate.specs.Agreed.{differs}
use Rattle.tk_validate.proofs.seen.task_seen.mixed_names.Given as goal

-- what is made so far, and what those that are left give, are the whole
abbrev pub invariant-loop-seen : goal.invariant-loop-seen
invariant-loop-seen l = l.names ++ map (λ (s : Seen). s.name) (filter (differs l.index) (drop l.seen-index l.all)) ≡ map (λ (s : Seen). s.name) (filter (differs l.index) l.all)

use Rattle.std.proofs.Common.{◌≡◌, ◌++◌, drop, map}
use Rattle.std.specs.Prelude.{flat_map}
use Rattle.tk_cache.specs.Views.{seen}
use Rattle.tk_report.specs.Admitted.{named}
use Rattle.tk_report.specs.Status.{status_at}
use Rattle.tk_report.proofs.objects.statuses.Given as goal

-- those so far, and those of the objects that are left
abbrev pub invariant-loop-object : goal.invariant-loop-object
invariant-loop-object l =
    l.made.items ++ flat_map (status_at (seen l.objects).view) (map named (drop l.object-index l.found)) ≡ flat_map (status_at (seen l.objects).view) (map named l.found)

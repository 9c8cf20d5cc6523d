use Rattle.std.proofs.Common.{◌≡◌, ◌++◌, map, take, drop}
use Rattle.std.specs.Prelude.{filter_map}
use Rattle.tk_types.specs.First.{first_of}
use Rattle.tk_admit.specs.Objects.{object_finding, objects_finding}
use Rattle.tk_admit.specs.Measure.{IsTallied}
use Rattle.tk_admit.specs.Taken.{behind, taken, taken_of}
use Rattle.tk_admit.proofs.objects.take_all.Given as goal

-- the runs so far and those of the objects that are left are all, and what is wrong first with these is what is wrong first with all
abbrev pub invariant-loop-index : goal.invariant-loop-index
invariant-loop-index l =
    record {
      earlier : l.earlier ≡ take l.index l.items;
      found : first_of (map object_finding (behind (take l.index l.items) (drop l.index l.items))) ≡ objects_finding l.items;
      made : l.runs.runs.items ++ filter_map taken_of (behind (take l.index l.items) (drop l.index l.items)) ≡ taken l.items;
      tallied : IsTallied l.runs;
    }

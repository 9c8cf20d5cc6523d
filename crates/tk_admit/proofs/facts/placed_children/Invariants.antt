use Rattle.std.proofs.Common.{◌≡◌, ◌++◌, drop, take}
use Rattle.std.specs.Prelude.{filter_map}
use Rattle.tk_types.specs.First.{first_from, first_in}
use Rattle.tk_admit.specs.Command.{child_finding, child_of}
use Rattle.tk_admit.specs.Taken.{behind, with_earlier}
use Rattle.tk_admit.proofs.facts.placed_children.Given as goal

-- the children so far and those that are left are all, and what is wrong first with these is what is wrong first with all
abbrev pub invariant-loop-index : goal.invariant-loop-index
invariant-loop-index l =
    record {
      stood : l.stood ≡ take l.index l.children;
      found : first_from (child_finding l.places) l.place l.index (behind (take l.index l.children) (drop l.index l.children)) ≡ first_in (child_finding l.places) l.place (with_earlier l.children);
      made : l.found ++ filter_map (child_of l.places) (drop l.index l.children) ≡ filter_map (child_of l.places) l.children;
    }

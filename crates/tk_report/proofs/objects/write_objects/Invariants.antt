use Rattle.std.proofs.Common.{◌≡◌, ◌++◌, drop, map}
use Rattle.std.specs.Prelude.{flat_map, string_bytes}
use Rattle.tk_cache.specs.Views.{seen}
use Rattle.tk_report.specs.Admitted.{named}
use Rattle.tk_report.specs.Report.{object_text}
use Rattle.tk_report.proofs.objects.write_objects.Given as goal

-- the lines so far, and those of the objects that are left
abbrev pub invariant-loop-object : goal.invariant-loop-object
invariant-loop-object l =
    string_bytes l.text ++ flat_map (object_text (seen l.objects).view) (map named (drop l.object-index l.found)) ≡ string_bytes l.fn.text ++ flat_map (object_text (seen l.objects).view) (map named l.found)

use Rattle.std.proofs.Common.{◌≡◌, ◌++◌, drop}
use Rattle.std.specs.Prelude.{flat_map, string_bytes}
use Rattle.tk_commands.specs.Due.{result_line}
use Rattle.tk_commands.proofs.due.write_results.Given as goal

-- the lines so far, and those of the results that are left
abbrev pub invariant-loop-result : goal.invariant-loop-result
invariant-loop-result l =
    string_bytes l.text ++ flat_map result_line (drop l.result-index l.results) ≡ string_bytes l.fn.text ++ flat_map result_line l.results

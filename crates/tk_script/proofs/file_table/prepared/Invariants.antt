use Rattle.std.proofs.Common.{◌≡◌, take, map}
use Rattle.std.specs.Prelude.{string_bytes}
use Rattle.tk_script.specs.ScriptHost.{results_of}
use Rattle.tk_script.proofs.file_table.prepared.Given as goal

abbrev pub invariant-loop-file : goal.invariant-loop-file
invariant-loop-file l = map (λ r. (string_bytes r.0, r.1)) l.results.items ≡ results_of l.root l.pod (take l.file-index l.files)

use Rattle.std.proofs.Common.{◌≡◌, ◌++◌, take}
use Rattle.tk_admit.specs.Apart.{Differ, pipeline_run_names}
use Rattle.tk_admit.proofs.apart.add_pipeline_runs.Given as goal

-- the names so far stand behind those that were there, and differ where those do
abbrev pub invariant-loop-run : goal.invariant-loop-run
invariant-loop-run l = record {
  names : l.names ≡ l.initial.names ++ pipeline_run_names (take l.run-index l.runs);
  differ : Differ l.initial.names → Differ l.names;
}

use Rattle.std.proofs.Common.{◌≡◌, length}
use Rattle.tk_script.specs.declared.script_host.ScriptHost.{ScriptHost}
use Rattle.tk_run.specs.Begun.{IsNewNode}
use Rattle.tk_program_tests.specs.Each.{Each}
use Rattle.tk_program_tests.proofs.bench.nodes.Given as goal

-- there are as many as rounds of the loop, each of them new
abbrev pub invariant-loop : goal.invariant-loop
invariant-loop l = record {
  count : length l.made.items ≡ l.counter;
  new : Each (IsNewNode (λ (host : ScriptHost). host.log.told)) l.made.items;
}

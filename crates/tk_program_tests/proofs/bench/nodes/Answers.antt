use Rattle.std.proofs.Common.{rules, sym, subst}
use Rattle.tk_script.specs.declared.script_host.ScriptHost.{ScriptHost}
use Rattle.tk_run.specs.Begun.{IsNewNode}
use Rattle.tk_program_tests.specs.Each.{Each}
use Rattle.tk_program_tests.proofs.Eachs.{each_more}
use Rattle.tk_program_tests.proofs.bench.nodes.Goals as goal

pub loop-preserved : goal.loop-preserved
loop-preserved c = record {
  count = search rules;
  new = subst (Each (IsNewNode (λ (host : ScriptHost). host.log.told))) (sym c.in_ok-push.ensures.items)
      (each_more (IsNewNode (λ (host : ScriptHost). host.log.told)) c.loop.made.items c.in_ok-node.node c.loop.invariant.new c.in_ok-node.ensures);
}

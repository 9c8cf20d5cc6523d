use Rattle.std.proofs.Common.{◌∙◌}
use Rattle.std.proofs.Common.{rules}
use Rattle.tk_steps.proofs.Readies.{puts_kept, scripts_then}
use Rattle.tk_steps.proofs.Moved.{moves_then}
use Rattle.tk_steps.proofs.scripts.put_scripts.Goals as goal

pub returns-in_err-put_script-clause-moves : goal.returns-in_err-put_script-clause-moves
returns-in_err-put_script-clause-moves g c = moves_then _ _ _ _ _ _ _ c.loop-place.invariant.moves c.put_script.ensures.moves

pub loop-place-preserved : goal.loop-place-preserved
loop-place-preserved g c = record {
  moves = moves_then _ _ _ _ _ _ _ c.loop-place.invariant.moves c.put_script.ensures.moves;
  quiet = c.put_script.ensures.quiet ∙ c.loop-place.invariant.quiet;
  killed = c.put_script.ensures.killed ∙ c.loop-place.invariant.killed;
  watches = c.put_script.ensures.watches ∙ c.loop-place.invariant.watches;
  plays = c.put_script.ensures.plays ∙ c.loop-place.invariant.plays;
  count = c.in_ok-put_script.ensures.count ∙ c.loop-place.invariant.count;
  scripts = scripts_then c.args.root.now c.args.pod.now.name c.args.pod.now.plan c.requires.few c.loop-place.place _ _ c.in_ok-put_script.ensures.script (search rules) c.loop-place.invariant.scripts;
  puts = λ path was. puts_kept c.args.root.now c.args.pod.now.name c.args.pod.now.plan c.requires.few c.loop-place.place _ _ c.in_ok-put_script.ensures.script (search rules) path (c.loop-place.invariant.puts path was);
}

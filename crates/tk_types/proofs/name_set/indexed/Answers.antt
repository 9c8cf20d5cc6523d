use Rattle.std.proofs.Common.{arith, []}
use Rattle.std.proofs.lemmas.Map.Text.{text_keys}
use Rattle.tk_types.proofs.NameAdded.{any_taken}
use Rattle.tk_types.proofs.name_set.indexed.Goals as goal

pub loop-name-preserved : goal.loop-name-preserved
loop-name-preserved c = λ name. grind (arith, text_keys, any_taken name c.args.names.now c.loop-name.name-index (record { ref_ptr = (0, 0); now = [] }) c.loop-name-test.true, c.loop-name.invariant name)

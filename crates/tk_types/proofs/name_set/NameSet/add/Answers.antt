use Rattle.std.proofs.Common.{arith}
use Rattle.std.proofs.lemmas.Map.Text.{text_keys}
use Rattle.tk_types.proofs.NameAdded.{any_more}
use Rattle.tk_types.proofs.name_set.NameSet.add.Goals as goal

pub invariant_of-self-else-is_err : goal.invariant_of-self-else-is_err
invariant_of-self-else-is_err c = λ name. grind (arith, text_keys, any_more name c.self.inside.names.items c.args.name, (rw c.in-Some.is at c.self.invariant) name)

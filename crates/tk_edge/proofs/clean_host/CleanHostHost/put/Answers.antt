use Rattle.std.proofs.Common.{refl}
use Rattle.tk_edge.proofs.Remembers.{file_rest, file_here}
use Rattle.tk_edge.proofs.clean_host.CleanHostHost.put.Goals as goal

pub returns-clause-others : goal.returns-clause-others
returns-clause-others c = (_, refl, λ other differ. file_rest _ _ _ c.args.path.now other _ _ c.in_ok-make_room.ensures.told c.note_put.ensures.told c.in_ok-path.ensures differ)

pub returns-clause-written : goal.returns-clause-written
returns-clause-written c = file_here _ _ c.args.path.now _ _ c.args.bytes.now c.note_put.ensures.told c.in_ok-path.ensures c.in_ok-bytes.ensures

use Rattle.std.proofs.Common.{refl}
use Rattle.tk_fields.proofs.KeysOf.{keys_of-members_view}
use Rattle.tk_fields.proofs.table.check_keys.Goals as goal

pub loop-key-init : goal.loop-key-init
loop-key-init g c = rw (keys_of-members_view c.args.object.now.entries, c.into_iter-key-iterator.ensures.into_iter_gives, c.keys-key-items.ensures.rest) refl

use Rattle.std.proofs.Common.{◌∙◌, sym}
use Rattle.tk_cache.proofs.Named.{object_named}
use Rattle.tk_cache.proofs.reads.object.Goals as goal

pub returns : goal.returns
returns g c = c.object_of.ensures ∙ sym (object_named c.args.objects.now c.args.name.now)

use Rattle.std.proofs.Common.{◌≡◌, Some, slice_get, sym}
use Rattle.std.specs.String.{string_eq}
use Rattle.indexmap.specs.IndexMap.{get}
use Rattle.tk_cache.proofs.Named.{at_named}
use Rattle.tk_cache.proofs.reads.at.Goals as goal

pub returns : goal.returns
returns g c =
    let is : slice_get c.args.objects.now.entries c.args.place ≡ Some (c.in-Some.field-0-0.now, c.in-Some.held.now) = sym c.in-Some.ensures.entry in
    let there : get string_eq c.args.objects.now c.in-Some.field-0-0.now ≡ Some c.in-Some.held.now = c.in-Some.ensures.value in
    at_named c.args.objects.now c.args.place c.in-Some.field-0-0.now c.in-Some.held.now is there

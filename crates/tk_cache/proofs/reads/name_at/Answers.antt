use Rattle.std.proofs.Common.{◌≡◌, Some, slice_get, ap, sym, ◌∙◌}
use Rattle.tk_cache.proofs.Named.{name_named}
use Rattle.tk_cache.proofs.reads.name_at.Goals as goal

pub returns : goal.returns
returns g c =
    let is : slice_get c.args.objects.now.entries c.args.place ≡ Some (c.in-Some.name.now, c.in-Some.field-0-1.now) = sym c.in-Some.ensures.entry in
    name_named c.args.objects.now c.args.place c.in-Some.name.now c.in-Some.field-0-1.now is ∙ ap Some (sym c.as_str.ensures.value)

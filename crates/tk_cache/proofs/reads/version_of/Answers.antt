use Rattle.std.proofs.Common.{rules, ◌≡◌, Some, None, sym}
use Rattle.tk_cache.specs.Objects.{held_at}
use Rattle.tk_cache.proofs.Named.{version_held}
use Rattle.tk_cache.proofs.reads.version_of.Goals as goal

pub returns-in-Some : goal.returns-in-Some
returns-in-Some g c =
    let there : held_at c.args.objects.now c.args.name.now ≡ Some c.in-Some.held.now = search rules in
    sym (version_held c.args.objects.now c.args.name.now (Some c.in-Some.held.now) there)

pub returns-in-None : goal.returns-in-None
returns-in-None g c =
    let none : held_at c.args.objects.now c.args.name.now ≡ None = search rules in
    sym (version_held c.args.objects.now c.args.name.now None none)

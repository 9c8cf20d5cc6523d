use Rattle.std.proofs.Common.{List, subst, sym}
use Rattle.tk_types.specs.declared.object.Item.{Item}
use Rattle.tk_resolve.specs.Known.{IsKnownRun}
use Rattle.std.proofs.lemmas.Map.Text.{hash_map_updates_str}
use Rattle.tk_resolve.proofs.KnownStays.{kept_known}
use Rattle.tk_resolve.proofs.resolver.Resolver.keep.Goals as goal

pub invariant_of-self-2 : goal.invariant_of-self-2
invariant_of-self-2 c = λ name x found.
    kept_known c.self.inside.earlier c.args.name.now name c.args.known _ _
    (subst (λ (items : List Item). IsKnownRun items c.args.name.now c.args.known) (sym c.self.view_is) c.requires) (c.self.invariant name)
    (hash_map_updates_str c.args.name.now c.self.inside.known c.insert.new.self _ c.in_ok-insert.ensures.updates name) x found

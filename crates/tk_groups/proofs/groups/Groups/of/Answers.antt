use Rattle.std.proofs.Common.{rules, ◌≡◌, ℕ, List, [], Option, Some, None, ap, sym, ◌∙◌}
use Rattle.std.specs.Prelude.{unwrap_or}
use Rattle.indexmap.specs.IndexMap.{get_by_text}
use Rattle.tk_groups.specs.Groups.{groups_in, names_of}
use Rattle.tk_groups.proofs.Named.{names_named}
use Rattle.tk_groups.proofs.groups.Groups.of.Goals as goal

pub returns-in-Some : goal.returns-in-Some
returns-in-Some c =
    let there : get_by_text c.self.inside.members c.args.owner.now ≡ Some c.as_slice.result.now = search rules in
    let same : names_of (groups_in c.self.inside.members) c.args.owner.now ≡ c.as_slice.result.now = names_named c.self.inside.members c.args.owner.now ∙ ap (λ (o : Option (List (List ℕ))). unwrap_or o []) there in
    sym (ap (λ g. names_of g c.args.owner.now) (sym c.self.view_is) ∙ same)

pub returns-in-None : goal.returns-in-None
returns-in-None c =
    let there : get_by_text c.self.inside.members c.args.owner.now ≡ None = search rules in
    let same : names_of (groups_in c.self.inside.members) c.args.owner.now ≡ [] = names_named c.self.inside.members c.args.owner.now ∙ ap (λ (o : Option (List (List ℕ))). unwrap_or o []) there in
    sym (ap (λ g. names_of g c.args.owner.now) (sym c.self.view_is) ∙ same)

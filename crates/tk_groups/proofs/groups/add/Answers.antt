use Rattle.std.proofs.Common.{rules, ◌≡◌, ◌∷◌, ◌++◌, [], ℕ, List, Option, Some, ap, sym, ◌∙◌}
use Rattle.std.specs.Prelude.{unwrap_or}
use Rattle.std.proofs.lemmas.Map.Text.{hash_map_updates_text}
use Rattle.indexmap.specs.IndexMap.{get_by_text}
use Rattle.tk_groups.proofs.Added.{added}
use Rattle.tk_groups.proofs.groups.add.Goals as goal

pub returns-in-Some : goal.returns-in-Some
returns-in-Some c =
    let there : get_by_text c.args.members.now c.args.owner.now ≡ Some c.in-Some.names.now = search rules in
    let more : c.push.new.self ≡ c.in-Some.names.now ++ c.args.name ∷ [] = search rules in
    added c.args.members.now (c.get_mut.follows.lender c.push.new.self) c.args.owner.now c.args.name c.push.new.self
    (more ∙ sym (ap (λ (o : Option (List (List ℕ))). unwrap_or o [] ++ c.args.name ∷ []) there))
    (λ other. hash_map_updates_text c.args.owner.now c.args.members.now (c.get_mut.follows.lender c.push.new.self) (Some c.push.new.self) ((c.get_mut.follows.holds c.push.new.self).3 (search rules)) other)

use Rattle.std.proofs.Common.{rules, ◌≡◌, ℕ, List, [], ◌∷◌, ◌++◌, Option, Some, ap, subst, sym, ◌∙◌}
use Rattle.std.specs.Prelude.{bytes_eq, string_bytes, unwrap_or, if◌then◌else◌}
use Rattle.std.proofs.lemmas.Map.Text.{hash_map_updates_text}
use Rattle.indexmap.specs.IndexMap.{get_by_text}
use Rattle.tk_groups.proofs.Added.{added}
use Rattle.tk_groups.proofs.groups.begin.Goals as goal

pub returns : goal.returns
returns c =
    let is : string_bytes c.in_ok-key.key ≡ c.args.owner.now = search rules in
    let names : c.push.new.self ≡ c.args.name ∷ [] = search rules in
    let none : unwrap_or (get_by_text c.args.members.now c.args.owner.now) [] ≡ [] = ap (λ (o : Option (List (List ℕ))). unwrap_or o []) c.requires.absent in
    added c.args.members.now c.insert.new.self c.args.owner.now c.args.name c.push.new.self
    (names ∙ sym (ap (λ (ns : List (List ℕ)). ns ++ c.args.name ∷ []) none))
    (λ other. subst (λ (bs : List ℕ). get_by_text c.insert.new.self other ≡ (if bytes_eq bs other then Some c.push.new.self else get_by_text c.args.members.now other)) is
    (hash_map_updates_text (string_bytes c.in_ok-key.key) c.args.members.now c.insert.new.self (Some c.push.new.self) c.in_ok-insert.ensures.updates other))

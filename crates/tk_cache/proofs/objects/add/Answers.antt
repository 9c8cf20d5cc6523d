use Rattle.std.proofs.Common.{rules, ◌≡◌, ℕ, List, Some, subst}
use Rattle.std.specs.Prelude.{bytes_eq, string_bytes, if◌then◌else◌}
use Rattle.std.proofs.lemmas.Map.Text.{hash_map_updates_text}
use Rattle.tk_cache.specs.Objects.{held_at}
use Rattle.tk_cache.proofs.Held.{named_last}
use Rattle.tk_cache.proofs.objects.add.Goals as goal

pub returns-clause-at : goal.returns-clause-at
returns-clause-at g c =
    let is : string_bytes c.in_ok-key.key ≡ c.args.name.now = search rules in
    λ other. subst (λ (bs : List ℕ). held_at c.insert.new.self other ≡ (if bytes_eq bs other then Some c.args.held else held_at c.args.objects.now other)) is
    (hash_map_updates_text (string_bytes c.in_ok-key.key) c.args.objects.now c.insert.new.self (Some c.args.held) c.in_ok-insert.ensures.updates other)

pub returns-clause-names : goal.returns-clause-names
returns-clause-names g c =
    let is : string_bytes c.in_ok-key.key ≡ c.args.name.now = search rules in
    named_last c.args.objects.now c.insert.new.self c.in_ok-key.key c.args.name.now c.args.held is c.requires.absent c.in_ok-insert.ensures.entries

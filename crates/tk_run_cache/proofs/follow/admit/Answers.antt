use Rattle.std.proofs.Common.{rules, ◌≡◌, ℕ, List, [], Some, ap, subst, ◌∙◌}
use Rattle.std.specs.Prelude.{bytes_eq, string_bytes, if◌then◌else◌}
use Rattle.std.proofs.lemmas.Map.Text.{hash_map_updates_text}
use Rattle.indexmap.specs.IndexMap.{get_by_text}
use Rattle.tk_types.specs.declared.run.RunSpec.{RunSpec}
use Rattle.tk_labels.specs.Kept.{fresh}
use Rattle.tk_run_cache.specs.Labelled.{Standing}
use Rattle.tk_run_cache.proofs.Names.{kept_last}
use Rattle.tk_run_cache.proofs.follow.admit.Goals as goal

abbrev new : RunSpec → Standing
new spec = record { facts = fresh spec; missing = [] }

pub returns-clause-changes : goal.returns-clause-changes
returns-clause-changes c =
    let is : string_bytes c.in_ok-key.key ≡ c.args.name.now = search rules in
    let same : c.in_ok-known.known ≡ new c.args.spec.now = c.in_ok-known.ensures ∙ ap new c.in_ok-copy.ensures in
    λ other. subst (λ (bs : List ℕ). get_by_text c.insert.new.self other ≡ (if bytes_eq bs other then Some c.in_ok-known.known else get_by_text c.args.runs.now other)) is
    (hash_map_updates_text (string_bytes c.in_ok-key.key) c.args.runs.now c.insert.new.self (Some c.in_ok-known.known) c.in_ok-insert.ensures.updates other)
    ∙ ap (λ (s : Standing). if bytes_eq c.args.name.now other then Some s else get_by_text c.args.runs.now other) same

pub returns-clause-names : goal.returns-clause-names
returns-clause-names c =
    let is : string_bytes c.in_ok-key.key ≡ c.args.name.now = search rules in
    kept_last c.args.runs.now c.insert.new.self c.in_ok-key.key c.args.name.now c.in_ok-known.known is c.requires.absent c.in_ok-insert.ensures.entries

use Rattle.std.proofs.Common.{rules, ◌≡◌, Some, ap, sym, ◌∙◌}
use Rattle.std.specs.Prelude.{map, option_map, string_bytes}
use Rattle.std.proofs.lemmas.Map.Text.{hash_map_updates_text}
use Rattle.indexmap.specs.IndexMap.{get_by_text}
use Rattle.tk_run_cache.specs.Follow.{stepped}
use Rattle.tk_run_cache.proofs.Changes.{changes_at}
use Rattle.tk_run_cache.proofs.follow.step_run.Goals as goal

pub returns-in_ok-go-clause-changes : goal.returns-in_ok-go-clause-changes
returns-in_ok-go-clause-changes c =
    let there : get_by_text c.args.runs.now c.args.name.now ≡ Some c.in-Some.known.now = search rules in
    changes_at c.args.runs.now c.args.name.now (option_map (stepped c.args.step)) (c.get_mut.follows.lender c.go.new.self) c.go.new.self
    (ap (option_map (stepped c.args.step)) there ∙ ap Some (sym c.in_ok-go.ensures))
    (λ other. hash_map_updates_text c.args.name.now c.args.runs.now (c.get_mut.follows.lender c.go.new.self) (Some c.go.new.self) ((c.get_mut.follows.holds c.go.new.self).3 (search rules)) other)

pub returns-in_ok-go-clause-names : goal.returns-in_ok-go-clause-names
returns-in_ok-go-clause-names c = ap (map string_bytes) (c.get_mut.follows.holds c.go.new.self).1

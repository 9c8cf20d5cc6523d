use Rattle.std.proofs.Common.{rules, ◌≡◌, ℕ, List, [], ◌∷◌, ◌++◌, Option, Some, None, refl, subst}
use Rattle.std.specs.Prelude.{if◌then◌else◌}
use Rattle.tk_groups.specs.Groups.{names_of}
use Rattle.tk_cache.specs.Children.{is_name}
use Rattle.tk_cache.proofs.objects.note.Goals as goal

pub returns-in_ok-add : goal.returns-in_ok-add
returns-in_ok-add c =
    let named : Some c.as_str.result.now ≡ c.args.task_run.now.run = search rules in
    λ other. subst (λ (o : Option (List ℕ)). names_of c.add.new.self other ≡ (if is_name other o then names_of c.args.owned.now other ++ c.args.name.now ∷ [] else names_of c.args.owned.now other)) named
    (c.in_ok-add.ensures other)

pub returns-in_default : goal.returns-in_default
returns-in_default c =
    let none : c.args.task_run.now.run ≡ None = search rules in
    λ other. rw none refl

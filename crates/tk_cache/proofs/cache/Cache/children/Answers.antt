use Rattle.std.proofs.Common.{◌≡◌, ◌∙◌, subst}
use Rattle.tk_groups.specs.Groups.{names_of}
use Rattle.tk_cache.specs.Children.{children_of}
use Rattle.tk_cache.specs.Views.{Kept, seen}
use Rattle.tk_cache.proofs.Owned.{owned_seen}
use Rattle.tk_cache.proofs.cache.Cache.children.Goals as goal

pub returns : goal.returns
returns c =
    c.of.ensures
    ∙ subst (λ (k : Kept). names_of c.self.inside.owned c.args.run.now ≡ children_of (seen k).view c.args.run.now) c.self.view_is
    (owned_seen c.self.inside.task_runs c.self.inside.owned c.self.invariant c.args.run.now)

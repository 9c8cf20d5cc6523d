use Rattle.std.proofs.Common.{◌≡◌, ℕ, List, subst}
use Rattle.std.specs.Prelude.{IfSome, Option}
use Rattle.std.proofs.lemmas.List.Elements.{All-pop}
use Rattle.tk_run.proofs.beginning.take_root.Goals as goal

pub returns-clause-each : goal.returns-clause-each
returns-clause-each c root all =
    let both = All-pop (λ (r : List ℕ). r ≡ root) c.args.roots.now.items c.pop.new.self.items c.pop.result c.pop.ensures.items all in
    (subst (λ (o : Option (List ℕ)). IfSome o (λ r. r ≡ root)) c.in-Some.is both.1, both.0)

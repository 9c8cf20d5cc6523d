use Rattle.std.proofs.Common.{rules, ◌≡◌, ◌⊎◌, ◌∙◌, Some, ap, sym}
use Rattle.std.specs.Prelude.{IsTrue}
use Rattle.tk_resolve.proofs.GivenAlike.{same_again}
use Rattle.tk_resolve.proofs.resolver.Resolver.bodies_again.Goals as goal

pub returns-then-has_bodies_of : goal.returns-then-has_bodies_of
returns-then-has_bodies_of c =
    let known = c.requires.known in
    let run = c.args.run.now in
    let alone : IsTrue c.args.known.now.alone ⊎ (c.args.known.now.run.now.params ≡ run.params) = c.if-has_bodies_of.ensures (search rules) in
    same_again c.args.self.now known.0 c.args.known.now run c.args.pipeline.now known.1 known.2 c.requires.alike alone ∙ ap Some (sym c.in_ok-copy.ensures)

use Rattle.std.proofs.Common.{ℕ, List, Some, None, ap}
use Rattle.tk_shape.specs.ShapeEnv.{NamedShape}
use Rattle.tk_shape.proofs.Found.{word_kind}
use Rattle.tk_shape.proofs.env.TaskShapes.kind_of_word.Goals as goal

pub returns-in-Some : goal.returns-in-Some
returns-in-Some c =
    word_kind c.args.key.now c.self.inside.words c.args.self.now.1 (Some c.in-Some.field-0) c.in-Some.ensures (ap (λ (s : List NamedShape × List (List ℕ)). s.1) c.self.view_is)

pub returns-in-None : goal.returns-in-None
returns-in-None c =
    word_kind c.args.key.now c.self.inside.words c.args.self.now.1 None c.in-None.ensures (ap (λ (s : List NamedShape × List (List ℕ)). s.1) c.self.view_is)

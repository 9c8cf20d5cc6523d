use Rattle.std.proofs.Common.{rules, ◌≡◌, ℕ, Bool, List, true, sym, subst}
use Rattle.std.specs.Prelude.{IfOk}
use Rattle.tk_gen.specs.Generate.{generated}
use Rattle.tk_commands.specs.Generate.{Generates}
use Rattle.tk_commands.proofs.generate.generated.Goals as goal

pub returns-then-wanted-clause-answer : goal.returns-then-wanted-clause-answer
returns-then-wanted-clause-answer c =
    let text : c.as_str.result.now ≡ generated c.args.wanted.number c.args.wanted.size = search rules in
    subst (λ (run : Bool). IfOk c.simulated.result (Generates run (generated c.args.wanted.number c.args.wanted.size))) (sym c.if-wanted.true)
    (subst (λ (t : List ℕ). IfOk c.simulated.result (Generates true t)) text c.simulated.ensures)

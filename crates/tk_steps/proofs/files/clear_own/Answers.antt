use Rattle.std.proofs.Common.{List, ℕ, sym, subst}
use Rattle.tk_steps.specs.May.{IsOwnFolder}
use Rattle.tk_steps.proofs.Moved.{clear_moves}
use Rattle.tk_steps.proofs.files.clear_own.Goals as goal

pub returns-clause-moves : goal.returns-clause-moves
returns-clause-moves g c =
    let own = subst (λ (p : List ℕ). IsOwnFolder c.args.root.now c.args.pod.now.name c.args.pod.now.plan p) (sym c.as_str.ensures) c.requires.own in
    clear_moves c.args.root.now c.args.pod.now c.as_str.result.now _ _ c.clear.result own c.requires.unarmed c.requires.holds c.clear.ensures.told

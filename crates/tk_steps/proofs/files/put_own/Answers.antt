use Rattle.std.proofs.Common.{List, ℕ, sym, subst}
use Rattle.tk_steps.specs.May.{IsOwnPut}
use Rattle.tk_steps.proofs.Moved.{put_moves}
use Rattle.tk_steps.proofs.files.put_own.Goals as goal

pub returns-clause-moves : goal.returns-clause-moves
returns-clause-moves g c =
    let own = subst (λ (p : List ℕ). IsOwnPut c.args.root.now c.args.pod.now.name c.args.pod.now.plan p c.args.bytes.now) (sym c.as_str.ensures) c.requires.own in
    put_moves c.args.root.now c.args.pod.now c.as_str.result.now c.args.bytes.now _ _ c.put.result own c.requires.unarmed c.requires.holds c.put.ensures.told

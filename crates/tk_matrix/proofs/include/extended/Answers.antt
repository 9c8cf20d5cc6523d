use Rattle.std.proofs.Common.{◌≡◌, IfOk, List, subst, arith}
use Rattle.tk_types.specs.declared.value.Param.{Param}
use Rattle.tk_matrix.proofs.Additions.{all_extended}
use Rattle.tk_matrix.proofs.include.extended.Goals as goal

pub returns : goal.returns
returns c =
    let P : List Param → Type 0 = λ expected. IfOk c.with_added.result (λ made. made ≡ expected) in
    subst P (all_extended c.args.entries.now c.args.combination _ c.loop-entry.entry-index (omega arith) c.loop-entry.invariant) c.with_added.ensures

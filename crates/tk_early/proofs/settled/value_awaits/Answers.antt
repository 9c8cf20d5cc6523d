use Rattle.std.proofs.Common.{All, List, subst, sym}
use Rattle.tk_types.specs.declared.value.Pair.{Pair}
use Rattle.tk_vars.specs.Reading.{HasReading}
use Rattle.tk_bind.specs.Readings.{ReadsValue}
use Rattle.tk_bind.proofs.Readings.{All-under_map}
use Rattle.tk_early.proofs.settled.value_awaits.Goals as goal

pub pairs_await-requires : goal.pairs_await-requires
pairs_await-requires c =
    let P : List Pair → Type 0 = All (λ (p : Pair). HasReading p.value) in
    subst P (sym c.as_slice-in-Obj.ensures) (All-under_map HasReading (λ (p : Pair). p.value) c.in-Obj.pairs (subst ReadsValue c.in-Obj.is c.requires))

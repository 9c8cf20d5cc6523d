use Rattle.std.proofs.Common.{List, All, sym, subst}
use Rattle.tk_types.specs.Value.{value_texts}
use Rattle.tk_types.specs.declared.value.Pair.{Pair}
use Rattle.tk_types.specs.declared.value.Value.{Value}
use Rattle.tk_vars.specs.Reading.{HasReading}
use Rattle.tk_shape.proofs.Readings.{All-under_map}
use Rattle.tk_shape.proofs.values.substituted_shape.Goals as goal

pub pairs_shape-requires : goal.pairs_shape-requires
pairs_shape-requires c =
    let P : List Pair → Type 0 = λ pairs. All (λ (p : Pair). HasReading p.value) pairs in
    let R : Value → Type 0 = λ value. All HasReading (value_texts value) in
    subst P (sym c.as_slice-in-Obj.ensures) (All-under_map HasReading (λ (p : Pair). p.value) c.in-Obj.pairs (subst R c.in-Obj.is c.requires))

use Rattle.std.proofs.Common.{List, All, IfOk, IsTrue, ◌↔◌, map, subst, sym}
use Rattle.tk_types.specs.declared.value.Pair.{Pair}
use Rattle.tk_types.specs.declared.value.Value.{Value}
use Rattle.tk_bind.specs.Readings.{ReadsValue}
use Rattle.tk_vars.specs.Reading.{HasReading}
use Rattle.tk_spec_sound.proofs.texts.value_reads.Goals as goal

pub returns-in-Obj : goal.returns-in-Obj
returns-in-Obj c =
    subst (λ (value : Value). IfOk c.pairs_read.result (λ yes. IsTrue yes ↔ ReadsValue value)) (sym c.in-Obj.is)
    (subst (λ (pairs : List Pair). IfOk c.pairs_read.result (λ yes. IsTrue yes ↔ All HasReading (map (λ (p : Pair). p.value) pairs))) c.as_slice-in-Obj.ensures c.pairs_read.ensures)

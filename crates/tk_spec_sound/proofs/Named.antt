-- The names of what is sound can be made: its matrices have readings, and each of its tasks may have few children.
use Rattle.std.proofs.Common.{ℕ, List, Option}
use Rattle.std.proofs.lemmas.List.Elements.{All-weaker}
use Rattle.tk_types.specs.Behaviour.{tasks_of}
use Rattle.tk_types.specs.declared.object.Asked.{Asked}
use Rattle.tk_journal.specs.declared.act.Admission.{Admission}
use Rattle.tk_journal.specs.declared.act.Admission.TheVariants.{Run, Task}
use Rattle.tk_journal.specs.Sound.{IsSound}
use Rattle.tk_child_names.specs.Children.{HasFewEach, ReadsItsMatrix, ReadsMatrices}
use Rattle.tk_spec_sound.specs.Parts.{IsSoundTask}
use Rattle.tk_spec_sound.proofs.Readings.{matrix_reads}
use Rattle.tk_spec_sound.proofs.Together.{parts_of}

pub sound_reads : (name : List ℕ) (asked : Option Asked) (admission : Admission) → IsSound name asked admission → ReadsMatrices admission
sound_reads name asked (Run spec) sound =
    All-weaker (IsSoundTask spec) ReadsItsMatrix (λ task each. matrix_reads task each.readable) (tasks_of spec) (parts_of name asked spec sound).tasks
sound_reads name asked (Task spec) sound = tt

pub sound_has_few : (name : List ℕ) (asked : Option Asked) (admission : Admission) → IsSound name asked admission → HasFewEach admission
sound_has_few name asked (Run spec) sound = sound.few_children
sound_has_few name asked (Task spec) sound = tt

-- What is admitted is a legal journal, each entry of which admits something sound; its root and its weight.
use Rattle.std.specs.Prelude.{◌≡◌, ◌≢◌, ℕ, ◌+◌, List, None, All, AllPairs, flat_map, reverse, sum_by}
use Rattle.tk_manifest.specs.declared.kinds.KindSet.{KindSet}
use Rattle.tk_manifest.specs.Input.{objects_of}
use Rattle.tk_journal.specs.declared.act.Act.{Act}
use Rattle.tk_journal.specs.declared.act.Act.TheVariants.{Admit}
use Rattle.tk_journal.specs.declared.entry.Entry.{Entry}
use Rattle.tk_journal.specs.Folders.{HaveRoot}
use Rattle.tk_journal.specs.Legal.{IsLegal, compared_names}
use Rattle.tk_journal.specs.Sound.{IsSound}
use Rattle.tk_journal.specs.Weight.{weight}
use Rattle.tk_admit.specs.Admit.{admitted, input_fault}
use Rattle.tk_admit.specs.Weight.{asks_of}

-- where no fault is found, the entries of what is admitted, the newest first, are a legal history
abbrev pub AdmittedIsLegal : Type 0
AdmittedIsLegal =
    (kinds : KindSet) (asks : ℕ) (root bytes : List ℕ) → input_fault kinds asks bytes ≡ None
    → IsLegal (reverse (admitted kinds asks root bytes).entries)

-- the entry admits a sound run or TaskRun
abbrev pub IsSoundAct : Act → Type 0
IsSoundAct (Admit name spec pending asked root) = IsSound name asked spec
IsSoundAct act = ⊥

-- its act does
abbrev pub IsSoundEntry : Entry → Type 0
IsSoundEntry entry = IsSoundAct entry.act

-- each of these does, and the names that their TaskRuns may have all differ
pub record AreSound (entries : List Entry) : Type 0 where
  pub sound : All IsSoundEntry entries
  pub differ : AllPairs (λ a b. a ≢ b) (flat_map (λ (entry : Entry). compared_names entry.act) entries)

-- where no fault is found, the entries of what is admitted are sound
abbrev pub AdmittedIsSound : Type 0
AdmittedIsSound =
    (kinds : KindSet) (asks : ℕ) (root bytes : List ℕ) → input_fault kinds asks bytes ≡ None
    → AreSound (admitted kinds asks root bytes).entries

-- all that is admitted has the root that was handed in
abbrev pub AdmittedHasRoot : Type 0
AdmittedHasRoot = (kinds : KindSet) (asks : ℕ) (root bytes : List ℕ) → HaveRoot root (reverse (admitted kinds asks root bytes).entries)

-- the weight that is told is that of the entries, with the asks of the caller and those of the Scenarios
abbrev pub AdmittedWeighs : Type 0
AdmittedWeighs =
    (kinds : KindSet) (asks : ℕ) (root bytes : List ℕ) → input_fault kinds asks bytes ≡ None
    → weight (reverse (admitted kinds asks root bytes).entries) + asks + sum_by asks_of (objects_of kinds bytes) ≡ (admitted kinds asks root bytes).weight

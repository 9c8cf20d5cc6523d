-- A run that is taken in, and what it was resolved to.
use Rattle.std.proofs.Common.{◌≡◌, List, Option, Some, None, option_map, refl, ap}
use Rattle.std.specs.Prelude.{option_and_then}
use Rattle.std.proofs.lemmas.Option.{none-some, same_Some}
use Rattle.tk_types.specs.declared.object.Item.{Item}
use Rattle.tk_journal.specs.declared.act.Admission.{Admission}
use Rattle.tk_admit.specs.Objects.{matrix_finding}
use Rattle.tk_admit.specs.Taken.{asked_of, is_pending, resolved, taken_of}
use Rattle.tk_admit.specs.declared.taken.Taken.{Taken}

abbrev run_of : Item → Admission → Taken
run_of item spec = record { place = item.place; pending = is_pending item.object; asked = asked_of item.object; spec = spec }

spec_from : (item : Item) (found : Option Admission) (run : Taken) → option_map (run_of item) found ≡ Some run → found ≡ Some run.spec
spec_from item None run is = absurd (none-some run is)
spec_from item (Some spec) run is = ap (λ (t : Taken). Some t.spec) (same_Some (run_of item spec) run is)

pub taken_spec : (earlier : List Item) (item : Item) (run : Taken) → taken_of (earlier, item) ≡ Some run → resolved earlier item.object ≡ Some run.spec
taken_spec earlier item run is = spec_from item (resolved earlier item.object) run is

matrix_from : (item : Item) (found : Option Admission) → option_and_then (λ (t : Taken). matrix_finding t.place t.spec) (option_map (run_of item) found) ≡ option_and_then (matrix_finding item.place) found
matrix_from item None = refl
matrix_from item (Some spec) = refl

-- what is wrong with its matrices
pub taken_matrix : (earlier : List Item) (item : Item) → option_and_then (λ (t : Taken). matrix_finding t.place t.spec) (taken_of (earlier, item)) ≡ option_and_then (matrix_finding item.place) (resolved earlier item.object)
taken_matrix earlier item = matrix_from item (resolved earlier item.object)

-- Ends of an input that is too long, and of one that is refused.
use Rattle.std.proofs.Common.{◌≡◌, ℕ, ◌<◌, true, List, [], ◌∷◌, false, length, replicate, refl, subst, sym, ap, ◌∙◌, Some, None, arith, nat_lt, Bool, inl, inr}
use Rattle.std.specs.Prelude.{Option, Result, Ok, Err, IfOk, IfSome, flat_map, if◌then◌else◌}
use Rattle.std.specs.declared.alloc.AllocError.{AllocError}
use Rattle.std.specs.List.{list_any}
use Rattle.std.proofs.lemmas.List.{length-replicate}
use Rattle.std.proofs.lemmas.Bool.Decides.{nat_tests}
use Rattle.tk_types.specs.declared.rejected.Rejected.{Rejected}
use Rattle.tk_types.specs.declared.rejected.Rejected.TheVariants.{Memory, Fault as FaultFound}
use Rattle.tk_types.specs.Rejected.{IsRefusal}
use Rattle.tk_types.specs.Fault.{too_long}
use Rattle.tk_types.specs.First.{Finding, first_of, refused_if}
use Rattle.tk_manifest.specs.declared.kinds.KindSet.{KindSet}
use Rattle.tk_manifest.specs.declared.kinds.KindSet.TheVariants.{Four, WithOutcomes, WithScenario}
use Rattle.tk_types.specs.Json.{json_of}
use Rattle.tk_manifest.specs.Input.{json_fault, objects_of}
use Rattle.tk_journal.specs.declared.admitted.Admitted.{Admitted}
use Rattle.tk_admit.specs.Admit.{admitted, input_fault, items_fault}
use Rattle.tk_types.specs.declared.run.Facts.{Facts}
use Rattle.tk_types.specs.declared.verdict.Condition.{Condition}
use Rattle.tk_verdict.specs.Condition.{condition_of}
use Rattle.tk_verdict.specs.Labels.{labels_of}
use Rattle.tk_report.specs.declared.words.Status.{Status}
use Rattle.tk_report.specs.Objects.{admitted as admitted_objects, end_view}
use Rattle.tk_report.specs.Status.{exit_of, is_false, is_unknown, status_at}
use Rattle.tk_commands.specs.declared.answer.Answer.{Answer}
use Rattle.tk_commands.specs.declared.command.Command.{Command}
use Rattle.tk_commands.specs.declared.command.Command.TheVariants.{Check, Decide, Simulate}
use Rattle.tk_commands.specs.declared.due.Due.{Due}
use Rattle.tk_commands.specs.Answer.{IsAnswer, Simulates}
use Rattle.tk_commands.specs.Due.{checked, rejected, root, status_of, IsAnswered, IsDecided, IsDecideDue, IsDueBy, IsRefusalDue}
use Rattle.tk_commands.specs.Plain.{IsReadDue, is_answer}

-- the fault of an input that is longer than the longest
pub longer_fault : (kinds : KindSet) (asks : ℕ) (bytes : List ℕ) → 8388608 < length bytes → input_fault kinds asks bytes ≡ Some too_long
longer_fault kinds asks bytes lt =
    let yes : nat_lt 8388608 (length bytes) ≡ true = grind (arith, nat_tests) in
    ap (λ (b : Bool). first_of (first_of (refused_if b too_long ∷ json_fault kinds (json_of bytes) ∷ []) ∷ items_fault kinds asks (objects_of kinds bytes) ∷ [])) yes

-- it is due whatever is accepted
longer_due : (accepted : Admitted → Due → Type 0) (kinds : KindSet) (bytes : List ℕ) (due : Due) → due ≡ rejected too_long → 8388608 < length bytes → IsDueBy accepted kinds bytes due
longer_due accepted kinds bytes due is lt = subst (λ (found : Finding). IsAnswered accepted (admitted kinds 0 root bytes) found due) (sym (longer_fault kinds 0 bytes lt)) is

longer_answer : (command : Command) (bytes : List ℕ) (answer : Answer) → answer.due ≡ rejected too_long → answer.journal.history ≡ [] → 8388608 < length bytes → IsAnswer command bytes answer
longer_answer Check bytes answer is none lt = (longer_due (λ (found : Admitted) (due : Due). due ≡ checked found.objects) Four bytes answer.due is lt, none)
longer_answer Decide bytes answer is none lt = (longer_due (λ (found : Admitted) (due : Due). IsDecided found.outcomes due) WithOutcomes bytes answer.due is lt, none)
longer_answer (Simulate json) bytes answer is none lt = subst (λ (found : Finding). Simulates json bytes found answer) (sym (longer_fault WithScenario 0 bytes lt)) (is, none)

untold_due : (command : Command) (ended : Bool) (n : ℕ) (answer : Answer) → answer.due ≡ rejected too_long → answer.journal.history ≡ [] → 8388608 < n → IsReadDue command None ended answer
untold_due command ended n answer is none lt =
    let many : 8388608 < length (replicate n 0) = subst (λ (k : ℕ). 8388608 < k) (sym (length-replicate n 0)) lt in
    (replicate n 0, tt, inr many, longer_answer command (replicate n 0) answer is none many)

pub too_long_due : (command : Command) (left : Option (List ℕ)) (ended : Bool) (answer : Answer)
    → answer.due ≡ rejected too_long → answer.journal.history ≡ [] → IfSome left (λ (bytes : List ℕ). 8388608 < length bytes) → IsReadDue command left ended answer
too_long_due command None ended answer is none lt = untold_due command ended 8388609 answer is none (omega arith)
too_long_due command (Some bytes) ended answer is none lt = (bytes, refl, inr lt, longer_answer command bytes answer is none lt)

-- what is answered for bytes that were read to the end
pub read_due : (command : Command) (left : Option (List ℕ)) (ended : Bool) (bytes : List ℕ) (answer : Answer)
    → IsAnswer command bytes answer → IfSome left (λ (all : List ℕ). bytes ≡ all) → ended ≡ true → IsReadDue command left ended answer
read_due command None ended bytes answer is told end = (bytes, tt, inl end, is)
read_due command (Some all) ended bytes answer is told end = (bytes, told, inl end, is)

-- what is due for what is admitted, and for a fault
pub admitted_due : (accepted : Admitted → Due → Type 0) (kinds : KindSet) (bytes : List ℕ) (found : Admitted) (due : Due)
    → input_fault kinds 0 bytes ≡ None → found ≡ admitted kinds 0 root bytes → accepted found due → IsDueBy accepted kinds bytes due
admitted_due accepted kinds bytes found due none is told =
    subst (λ (finding : Finding). IsAnswered accepted (admitted kinds 0 root bytes) finding due) (sym none) (subst (λ (a : Admitted). accepted a due) is told)

pub refused_due : (accepted : Admitted → Due → Type 0) (kinds : KindSet) (bytes : List ℕ) (error : Rejected) (due : Due)
    → IsRefusal (input_fault kinds 0 bytes) error → IsRefusalDue error due → IsDueBy accepted kinds bytes due
refused_due accepted kinds bytes Memory due found told = absurd told
refused_due accepted kinds bytes (FaultFound fault) due found told =
    subst (λ (finding : Finding). IsAnswered accepted (admitted kinds 0 root bytes) finding due) (sym found) told

-- and what `decide` answers so
pub decided_due : (bytes : List ℕ) (found : Admitted) (result : Result Due AllocError)
    → input_fault WithOutcomes 0 bytes ≡ None → found ≡ admitted WithOutcomes 0 root bytes → IfOk result (IsDecided found.outcomes) → IfOk result (IsDecideDue bytes)
decided_due bytes found (Ok due) none is told = admitted_due (λ (a : Admitted) (d : Due). IsDecided a.outcomes d) WithOutcomes bytes found due none is told
decided_due bytes found (Err error) none is told = told

pub refused_decision : (bytes : List ℕ) (error : Rejected) (result : Result Due AllocError)
    → IsRefusal (input_fault WithOutcomes 0 bytes) error → IfOk result (IsRefusalDue error) → IfOk result (IsDecideDue bytes)
refused_decision bytes error (Ok due) found told = refused_due (λ (a : Admitted) (d : Due). IsDecided a.outcomes d) WithOutcomes bytes error due found told
refused_decision bytes error (Err none) found told = told

-- `simulate` refuses so
pub refused_answer : (json : Bool) (bytes : List ℕ) (error : Rejected) (answer : Answer)
    → IsRefusal (input_fault WithScenario 0 bytes) error → IsRefusalDue error answer.due → answer.journal.history ≡ [] → IsAnswer (Simulate json) bytes answer
refused_answer json bytes Memory answer found told none = absurd told
refused_answer json bytes (FaultFound fault) answer found told none = subst (λ (f : Finding). Simulates json bytes f answer) (sym found) (told, none)

-- each of these answers has a status with which a whole text is printed

settled : (accepted : Admitted → Due → Type 0) (found : Admitted) (finding : Finding) (due : Due) → (accepted found due → is_answer due.status ≡ true) → IsAnswered accepted found finding due → is_answer due.status ≡ true
settled accepted found (Some fault) due all is = ap (λ (d : Due). is_answer d.status) is
settled accepted found None due all is = all is

by_holds : (holds : Bool) → is_answer (if holds then 0 else 1) ≡ true
by_holds true = refl
by_holds false = refl

condition_status : (condition : Option Condition) → is_answer (status_of condition) ≡ true
condition_status None = refl
condition_status (Some condition) = by_holds condition.holds

decided_status : (outcomes : Option Facts) (due : Due) → IsDecided outcomes due → is_answer due.status ≡ true
decided_status None due is = absurd is
decided_status (Some facts) due is = ap (λ (d : Due). is_answer d.status) is ∙ condition_status (condition_of facts (labels_of facts))

by_open : (some ends : Bool) → is_answer (if some then 7 else (if ends then 1 else 0)) ≡ true
by_open true ends = refl
by_open false true = refl
by_open false false = refl

exit_is : (statuses : List Status) → is_answer (exit_of statuses) ≡ true
exit_is statuses = by_open (list_any is_unknown statuses) (list_any is_false statuses)

simulated_status : (json : Bool) (bytes : List ℕ) (finding : Finding) (answer : Answer) → Simulates json bytes finding answer → is_answer answer.due.status ≡ true
simulated_status json bytes (Some fault) answer is = subst (λ (due : Due). is_answer due.status ≡ true) (sym is.0) refl
simulated_status json bytes None answer is =
    subst (λ (due : Due). is_answer due.status ≡ true) (sym is.1) (exit_is (flat_map (status_at (end_view answer.journal.history)) (admitted_objects answer.journal.history)))

pub answer_status : (command : Command) (bytes : List ℕ) (answer : Answer) → IsAnswer command bytes answer → is_answer answer.due.status ≡ true
answer_status Check bytes answer is =
    settled (λ (found : Admitted) (due : Due). due ≡ checked found.objects) (admitted Four 0 root bytes) (input_fault Four 0 bytes) answer.due (λ told. ap (λ (d : Due). is_answer d.status) told) is.0
answer_status Decide bytes answer is =
    settled (λ (found : Admitted) (due : Due). IsDecided found.outcomes due) (admitted WithOutcomes 0 root bytes) (input_fault WithOutcomes 0 bytes) answer.due
    (decided_status (admitted WithOutcomes 0 root bytes).outcomes answer.due) is.0
answer_status (Simulate json) bytes answer is = simulated_status json bytes (input_fault WithScenario 0 bytes) answer is

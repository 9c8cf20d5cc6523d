-- Texts of which no reference passes a test.
use Rattle.std.proofs.Common.{◌≡◌, ◌∙◌, ◌||◌, ℕ, Bool, false, List, [], ◌∷◌, None, refl, ap, filter_map}
use Rattle.std.specs.Prelude.{bytes_eq, codes}
use Rattle.std.specs.List.{list_any}
use Rattle.tk_types.specs.declared.task.PipelineTask.{PipelineTask}
use Rattle.tk_types.specs.declared.task.TaskBody.{TaskBody}
use Rattle.tk_vars.specs.declared.part.Part.{Part}
use Rattle.tk_vars.specs.declared.part.Part.TheVariants.{Name, Index, Star}
use Rattle.tk_vars.specs.declared.piece.Piece.{Piece}
use Rattle.tk_vars.specs.declared.piece.Piece.TheVariants.{Plain, Ref}
use Rattle.tk_vars.specs.declared.reference.Reference.{Reference}
use Rattle.tk_vars.specs.Reading.{pieces_of}
use Rattle.tk_vars.specs.Target.{Target, param, result, word, target_of, referenced, references_of}
use Rattle.tk_vars.specs.Task.{heads_task, names_task}
use Rattle.tk_bind.specs.Scope.{is_status}
use Rattle.tk_graph.specs.Results.{referenced_result}
use Rattle.tk_graph.proofs.NoTask.{no_result, or_first, or_second}
use Rattle.tk_early.proofs.ResultFacts.{no_result_is}
use Rattle.tk_resolve.specs.declared.due.Due.{Due}
use Rattle.tk_resolve.specs.Misuse.{is_misused, misuses, passes}
use Rattle.tk_resolve.specs.Settled.{is_to_later}

-- some piece passes a test just where some reference does
pub passes_references : (test : Reference → Bool) (pieces : List Piece) → list_any (passes test) pieces ≡ list_any test (filter_map referenced pieces)
passes_references test [] = refl
passes_references test (Plain text ∷ pieces) = passes_references test pieces
passes_references test (Ref r ∷ pieces) = ap (λ b. test r || b) (passes_references test pieces)

-- no piece of a text without a reference
pub none_passes_without : (test : Reference → Bool) (text : List ℕ) → references_of text ≡ [] → list_any (passes test) (pieces_of text) ≡ false
none_passes_without test text none = passes_references test (pieces_of text) ∙ ap (list_any test) none

-- where none of the references has what the test asks for, none passes it
none_asked : (has test : Reference → Bool) (refs : List Reference) → ((r : Reference) → has r ≡ false → test r ≡ false) → list_any has refs ≡ false → list_any test refs ≡ false
none_asked has test [] asks none = refl
none_asked has test (r ∷ refs) asks none =
    let rest = none_asked has test refs asks (or_second (has r) (list_any has refs) none) in
    rw (asks r (or_first (has r) (list_any has refs) none)) rest

-- Of the questions that ask for a task.

-- what refers to no result misuses none
no_result_misused : (tasks : List (PipelineTask × TaskBody)) (due : Due) (target : Target) → referenced_result target ≡ None → is_misused tasks due target ≡ false
no_result_misused tasks due (param name selector) none = refl
no_result_misused tasks due (result task name selector) none = cc
no_result_misused tasks due (word key) none = refl

-- nor is it a status, without the head of one
no_status : (parts : List Part) → heads_task parts ≡ false → is_status parts ≡ false
no_status [] none = refl
no_status (Index i ∷ parts) none = refl
no_status (Star ∷ parts) none = refl
no_status (Name head ∷ []) none = refl
no_status (Name head ∷ Index i ∷ parts) none = refl
no_status (Name head ∷ Star ∷ parts) none = refl
no_status (Name head ∷ Name last ∷ []) none = rw (or_first (bytes_eq head (codes "tasks")) (bytes_eq head (codes "finally")) none) refl
no_status (Name head ∷ Name task ∷ Index i ∷ parts) none = refl
no_status (Name head ∷ Name task ∷ Star ∷ parts) none = refl
no_status (Name head ∷ Name task ∷ Name last ∷ []) none = rw (or_first (bytes_eq head (codes "tasks")) (bytes_eq head (codes "finally")) none) refl
no_status (Name head ∷ Name task ∷ Name last ∷ part ∷ parts) none = refl

-- so of a text that names no task no reference is to what is known later, or misuses a result
pub none_to_later : (due : Due) (text : List ℕ) → list_any names_task (references_of text) ≡ false → list_any (is_to_later due) (references_of text) ≡ false
none_to_later due text none =
    none_asked names_task (is_to_later due) (references_of text) (λ r no. rw (no_result_is (target_of r.parts) (no_result r.parts no)) (no_status r.parts no)) none

pub none_misused : (tasks : List (PipelineTask × TaskBody)) (due : Due) (text : List ℕ) → list_any names_task (references_of text) ≡ false → list_any (misuses tasks due) (references_of text) ≡ false
none_misused tasks due text none = none_asked names_task (misuses tasks due) (references_of text) (λ r no. no_result_misused tasks due (target_of r.parts) (no_result r.parts no)) none

-- A reference that isn't to a result or a status of a task refers to no result.
use Rattle.std.proofs.Common.{◌≡◌, ℕ, List, [], ◌∷◌, map, Bool, true, false, ◌||◌, Option, Some, None, refl, ap, filter_map}
use Rattle.std.specs.Prelude.{bytes_eq, codes, if◌then◌else◌, unwrap_or}
use Rattle.std.specs.List.{list_any}
use Rattle.tk_vars.specs.declared.part.Part.{Part}
use Rattle.tk_vars.specs.declared.part.Part.TheVariants.{Name, Index, Star}
use Rattle.tk_vars.specs.declared.reference.Reference.{Reference}
use Rattle.tk_vars.specs.Offset.{bad_offset}
use Rattle.tk_vars.specs.Target.{word, target_of, param_target, result_target, key_of, references_of}
use Rattle.tk_vars.specs.Task.{is_task_head, heads_task, names_task}
use Rattle.tk_graph.specs.Results.{referenced_result, results_read, text_results, text_tasks}
use Rattle.tk_graph.specs.Tasks.{part_task}

pub or_first : (x y : Bool) → (x || y) ≡ false → x ≡ false
or_first true y e = e
or_first false y e = refl

pub or_second : (x y : Bool) → (x || y) ≡ false → y ≡ false
or_second true y e = cc
or_second false y e = e

-- the same by the tests of the head
by_head : (is_param is_task : Bool) (parts : List Part) (key : List ℕ) → is_task ≡ false
    → referenced_result (unwrap_or (if is_param then param_target parts else (if is_task then result_target parts else None)) (word key)) ≡ None
by_head true is_task [] key none = refl
by_head true is_task (part ∷ parts) key none = refl
by_head false true parts key none = cc
by_head false false parts key none = refl

pub no_result : (parts : List Part) → heads_task parts ≡ false → referenced_result (target_of parts) ≡ None
no_result [] none = refl
no_result (Index i ∷ parts) none = refl
no_result (Star ∷ parts) none = refl
no_result (Name head ∷ parts) none = by_head (bytes_eq head (codes "params")) (is_task_head head) parts (key_of (Name head ∷ parts)) none

-- the same of the task that is named
pub no_part_task : (parts : List Part) → heads_task parts ≡ false → part_task parts ≡ None
unfolding part_task
no_part_task [] none = refl
no_part_task (Index i ∷ parts) none = refl
no_part_task (Star ∷ parts) none = refl
no_part_task (Name head ∷ parts) none = rw none refl

-- of all references of a text
none_found : (references : List Reference) → list_any names_task references ≡ false → filter_map (λ (r : Reference). referenced_result (target_of r.parts)) references ≡ []
none_found [] none = refl
none_found (r ∷ rs) none = rw (no_result r.parts (or_first (names_task r) (list_any names_task rs) none)) (none_found rs (or_second (names_task r) (list_any names_task rs) none))

pub no_text_tasks : (text : List ℕ) → list_any names_task (references_of text) ≡ false → text_tasks text ≡ []
unfolding text_results
no_text_tasks text none = by_offset (bad_offset text)
  where
    by_offset : (offset : Option ℕ) → map (λ (r : List ℕ × List ℕ). r.0) (elim offset [ None ↦ results_read text | Some at ↦ [] ]) ≡ []
    by_offset None = ap (map (λ (r : List ℕ × List ℕ). r.0)) (none_found (references_of text) none)
    by_offset (Some at) = refl

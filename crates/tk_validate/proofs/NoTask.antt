-- In a text of which no reference is to a result or a status of a task, no reference is of a kind of those, and none takes a task's result.
use Rattle.std.proofs.Common.{◌≡◌, ℕ, List, [], ◌∷◌, map, Bool, true, false, Option, Some, None, option_and_then, refl, ap}
use Rattle.std.specs.Prelude.{codes, bytes_eq, if◌then◌else◌}
use Rattle.std.specs.List.{list_any}
use Rattle.std.specs.Option.{option_map_or}
use Rattle.tk_types.specs.First.{first_of}
use Rattle.tk_types.specs.Place.{Place}
use Rattle.tk_vars.specs.declared.part.Part.{Part}
use Rattle.tk_vars.specs.declared.part.Part.TheVariants.{Name, Index, Star}
use Rattle.tk_vars.specs.declared.reference.Reference.{Reference}
use Rattle.tk_vars.specs.Offset.{bad_offset}
use Rattle.tk_vars.specs.Reading.{ends_with_star}
use Rattle.tk_vars.specs.Target.{references_of}
use Rattle.tk_vars.specs.Task.{heads_task, names_task}
use Rattle.tk_graph.specs.Tasks.{part_task}
use Rattle.tk_graph.proofs.NoTask.{no_part_task, or_first, or_second}
use Rattle.tk_types.specs.Names.{is_in}
use Rattle.tk_bind.specs.Scope.{is_status}
use Rattle.tk_validate.specs.Conflicts.{if_in, taken_in_part, takes_whole}
use Rattle.tk_validate.specs.Finally.{names_no, names_result_of, refused_in_own}
use Rattle.tk_validate.specs.Named.{read_references}

-- a text without a reading names nothing
pub none_read : (kind : Reference → Bool) (text : List ℕ) → list_any kind (references_of text) ≡ false → list_any kind (read_references text) ≡ false
unfolding read_references
none_read kind text none = by_offset (bad_offset text)
  where
    by_offset : (offset : Option ℕ) → list_any kind (elim offset [ None ↦ references_of text | Some at ↦ [] ]) ≡ false
    by_offset None = none
    by_offset (Some at) = refl

-- a status has the head `tasks`
pub no_status : (parts : List Part) → heads_task parts ≡ false → is_status parts ≡ false
no_status [] none = refl
no_status (Index i ∷ parts) none = refl
no_status (Star ∷ parts) none = refl
no_status (Name head ∷ []) none = refl
no_status (Name head ∷ Index i ∷ parts) none = refl
no_status (Name head ∷ Star ∷ parts) none = refl
no_status (Name head ∷ Name task ∷ []) none = rw (or_first (bytes_eq head (codes "tasks")) (bytes_eq head (codes "finally")) none) refl
no_status (Name head ∷ Name task ∷ Index i ∷ parts) none = refl
no_status (Name head ∷ Name task ∷ Star ∷ parts) none = refl
no_status (Name head ∷ Name task ∷ Name last ∷ []) none = rw (or_first (bytes_eq head (codes "tasks")) (bytes_eq head (codes "finally")) none) refl
no_status (Name head ∷ Name task ∷ Name last ∷ part ∷ parts) none = refl

no_result_of : (lasts : List (List ℕ)) (r : Reference) → names_task r ≡ false → names_result_of lasts r ≡ false
no_result_of lasts r none = ap (λ task. option_map_or (is_in lasts) task false) (no_part_task r.parts none)

pub none_in_own : (lasts : List (List ℕ)) (may_name_status : Bool) (r : Reference) → names_task r ≡ false → refused_in_own lasts may_name_status r ≡ false
none_in_own lasts true r none = no_result_of lasts r none
none_in_own lasts false r none = rw (no_status r.parts none, no_result_of lasts r none) refl

-- a text names none of such a kind
pub any_of_kind : (kind : Reference → Bool) → ((r : Reference) → names_task r ≡ false → kind r ≡ false) → (references : List Reference) → list_any names_task references ≡ false → list_any kind references ≡ false
any_of_kind kind of_tasks [] none = refl
any_of_kind kind of_tasks (r ∷ rs) none =
    rw (of_tasks r (or_first (names_task r) (list_any names_task rs) none)) (any_of_kind kind of_tasks rs (or_second (names_task r) (list_any names_task rs) none))

pub none_of_kind : (kind : Reference → Bool) (whole : Bool) (at : Place) (text : List ℕ) → list_any kind (references_of text) ≡ false → names_no kind whole at text ≡ None
unfolding names_no
none_of_kind kind whole at text none = rw (none_read kind text none) refl

-- a text takes no result
not_taken : (names : List (List ℕ)) (r : Reference) → names_task r ≡ false → taken_in_part names r ≡ None
not_taken names r none = by_end (ends_with_star r.parts)
  where
    by_end : (star : Bool) → (if star then None else option_and_then (if_in names) (part_task r.parts)) ≡ None
    by_end true = refl
    by_end false = ap (option_and_then (if_in names)) (no_part_task r.parts none)

first_taken : (names : List (List ℕ)) (references : List Reference) → list_any names_task references ≡ false → first_of (map (taken_in_part names) references) ≡ None
first_taken names [] none = refl
first_taken names (r ∷ rs) none =
    rw (not_taken names r (or_first (names_task r) (list_any names_task rs) none)) (first_taken names rs (or_second (names_task r) (list_any names_task rs) none))

pub none_taken : (names : List (List ℕ)) (whole : Bool) (at : Place) (text : List ℕ) → list_any names_task (read_references text) ≡ false → takes_whole names whole at text ≡ None
unfolding takes_whole
none_taken names whole at text none = rw (first_taken names (read_references text) none) refl

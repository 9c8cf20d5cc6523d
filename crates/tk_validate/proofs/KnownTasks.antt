-- The tasks of whose results a text that the rules pass names one are of `tasks`.
use Rattle.std.proofs.Common.{◌≡◌, ℕ, Bool, true, false, ◌||◌, cond, List, [], ◌∷◌, ◌++◌, map, Option, Some, None, option_map, bytes_eq, refl, sym, ap, ◌∙◌, subst, inl, inr}
use Rattle.std.specs.Prelude.{All, filter_map, is_some, option_and_then}
use Rattle.std.specs.List.{cons_option, list_any}
use Rattle.std.specs.Option.{option_map_or}
use Rattle.std.proofs.lemmas.Bool.{both_ways, or_cases, or_parts}
use Rattle.std.proofs.lemmas.List.Elements.{All-nil, All-cons, All-head, All-tail, All-weaker}
use Rattle.std.proofs.lemmas.List.Folds.{list_any-append}
use Rattle.std.proofs.lemmas.Option.{none-some}
use Rattle.tk_types.specs.declared.task.PipelineTask.{PipelineTask}
use Rattle.tk_types.specs.Fault.{bad_reference, finally_rule, unknown_task, unknown_variable, wrong_type}
use Rattle.tk_types.specs.First.{first_of, refused_if}
use Rattle.tk_vars.specs.declared.reference.Reference.{Reference}
use Rattle.tk_vars.specs.Offset.{bad_offset}
use Rattle.tk_vars.specs.Target.{references_of, target_of}
use Rattle.tk_graph.specs.Results.{referenced_result, text_results, text_tasks}
use Rattle.tk_graph.specs.Tasks.{part_task}
use Rattle.tk_graph.specs.Unknown.{is_known}
use Rattle.tk_graph.proofs.ResultTasks.{part_task-is}
use Rattle.tk_bind.specs.declared.scope.Scope.{Scope}
use Rattle.tk_bind.specs.Check.{first_failing}
use Rattle.tk_types.specs.Names.{is_in}
use Rattle.tk_bind.specs.Scope.{is_visible, is_well_typed}
use Rattle.tk_validate.specs.Finally.{names_either, names_no, names_result_of, names_status, refused_in_own}
use Rattle.tk_validate.specs.Named.{read_references}
use Rattle.tk_validate.specs.Names.{names_of}
use Rattle.tk_validate.specs.Texts.{text_finding, unknown_of, unless_in}
use Rattle.tk_validate.proofs.EachText.{PassesOnly}
use Rattle.tk_validate.proofs.FirstNone.{first_none, rest_none, map_none, all_none, not_refused}

-- the tasks of a text, by its references
abbrev Named : Type 0
Named = List ℕ × List ℕ

abbrev named_by : Reference → Option Named
named_by r = referenced_result (target_of r.parts)

abbrev task_by : Reference → Option (List ℕ)
task_by r = part_task r.parts

first_task : (o : Option Named) (rest : List Named) (tasks : List (List ℕ)) → map (λ (n : Named). n.0) rest ≡ tasks
    → map (λ (n : Named). n.0) (cons_option o rest) ≡ cons_option (option_map (λ (n : Named). n.0) o) tasks
first_task None rest tasks same = same
first_task (Some x) rest tasks same = ap (λ (ts : List (List ℕ)). x.0 ∷ ts) same

tasks_by : (references : List Reference) → map (λ (n : Named). n.0) (filter_map named_by references) ≡ filter_map task_by references
tasks_by [] = refl
tasks_by (r ∷ references) =
    first_task (named_by r) (filter_map named_by references) (filter_map task_by references) (tasks_by references)
    ∙ ap (λ (o : Option (List ℕ)). cons_option o (filter_map task_by references)) (sym (part_task-is r.parts))

tasks_if_read : (o : Option ℕ) (references : List Reference)
    → map (λ (n : Named). n.0) (elim o [ None ↦ filter_map named_by references | Some offset ↦ [] ]) ≡ filter_map task_by (elim o [ None ↦ references | Some offset ↦ [] ])
tasks_if_read None references = tasks_by references
tasks_if_read (Some offset) references = refl

text_tasks-are : (text : List ℕ) → text_tasks text ≡ filter_map task_by (read_references text)
unfolding text_results read_references
text_tasks-are text = tasks_if_read (bad_offset text) (references_of text)

-- each task that a text names is one of these, and none is one of these
abbrev pub IsOf : List (List ℕ) → Reference → Type 0
IsOf names r = option_and_then (unless_in names) (part_task r.parts) ≡ None

abbrev pub IsNotOf : List (List ℕ) → Reference → Type 0
IsNotOf lasts r = names_result_of lasts r ≡ false

abbrev pub NamesOf : List (List ℕ) → List ℕ → Type 0
NamesOf names text = All (IsOf names) (read_references text)

abbrev pub NamesNoneOf : List (List ℕ) → List ℕ → Type 0
NamesNoneOf lasts text = All (IsNotOf lasts) (read_references text)

-- the first by the rule on what a text names
found_none : {X Y : Type 0} (find : X → Option Y) (xs : List X) → first_of (map find xs) ≡ None → All (λ x. find x ≡ None) xs
found_none find [] e = All-nil (λ x. find x ≡ None)
found_none find (x ∷ xs) e =
    All-cons (λ y. find y ≡ None) x xs (first_none (find x) (first_of (map find xs)) e) (found_none find xs (rest_none (find x) (first_of (map find xs)) e))

if_read : (P : Reference → Type 0) (o : Option ℕ) (references : List Reference) → All P references → All P (elim o [ None ↦ references | Some offset ↦ [] ])
if_read P None references all = all
if_read P (Some offset) references all = All-nil P

pub names_of_scope : (firsts : List (List ℕ)) (scope : Scope) → PassesOnly (text_finding firsts scope) (NamesOf scope.tasks)
unfolding text_finding read_references
names_of_scope firsts scope whole at text e =
    let found =
    all_none
    (option_map (bad_reference at) (bad_offset text)
    ∷ option_map (unknown_variable at) (first_failing (is_visible scope) text)
    ∷ option_map (unknown_task at) (first_of (map (unknown_of firsts scope) (references_of text)))
    ∷ refused_if (is_some (first_failing (is_well_typed scope whole) text)) (wrong_type at)
    ∷ [])
    e in
    if_read (IsOf scope.tasks) (bad_offset text) (references_of text)
    (All-weaker (λ r. unknown_of firsts scope r ≡ None) (IsOf scope.tasks) (λ r. first_none (option_and_then (unless_in scope.tasks) (part_task r.parts)) _) (references_of text)
    (found_none (unknown_of firsts scope) (references_of text) (map_none (unknown_task at) (first_of (map (unknown_of firsts scope) (references_of text))) found.1.1.0)))

-- the second by the rule on `finally`
none_such : (kind : Reference → Bool) (P : Reference → Type 0) → ((r : Reference) → kind r ≡ false → P r) → (references : List Reference) → list_any kind references ≡ false → All P references
none_such kind P holds [] e = All-nil P
none_such kind P holds (r ∷ references) e =
    let parts = or_parts (kind r) (list_any kind references) e in
    All-cons P r references (holds r parts.0) (none_such kind P holds references parts.1)

names_none : (lasts : List (List ℕ)) (kind : Reference → Bool) → ((r : Reference) → kind r ≡ false → IsNotOf lasts r) → PassesOnly (names_no kind) (NamesNoneOf lasts)
unfolding names_no
names_none lasts kind holds whole at text e =
    none_such kind (IsNotOf lasts) holds (read_references text) (not_refused (list_any kind (read_references text)) (finally_rule at) e)

not_either : (lasts : List (List ℕ)) (r : Reference) → names_either lasts r ≡ false → IsNotOf lasts r
not_either lasts r e = (or_parts (names_status r) (names_result_of lasts r) e).1

not_in_own : (lasts : List (List ℕ)) (is_last : Bool) (r : Reference) → refused_in_own lasts is_last r ≡ false → IsNotOf lasts r
not_in_own lasts true r e = e
not_in_own lasts false r e = not_either lasts r e

pub names_neither : (lasts : List (List ℕ)) → PassesOnly (names_no (names_either lasts)) (NamesNoneOf lasts)
names_neither lasts = names_none lasts (names_either lasts) (not_either lasts)

pub names_no_own : (lasts : List (List ℕ)) (is_last : Bool) → PassesOnly (names_no (refused_in_own lasts is_last)) (NamesNoneOf lasts)
names_no_own lasts is_last = names_none lasts (refused_in_own lasts is_last) (not_in_own lasts is_last)

-- a name is among those of some tasks where one of them has it
pub known_in : (tasks : List PipelineTask) (name : List ℕ) → is_in (names_of tasks) name ≡ is_known tasks name
known_in [] name = refl
known_in (task ∷ tasks) name = ap (λ b. bytes_eq name task.name || b) (known_in tasks name)

in_names : (names : List (List ℕ)) (name : List ℕ) (b : Bool) → is_in names name ≡ b → unless_in names name ≡ None → is_in names name ≡ true
in_names names name true is e = is
in_names names name false is e = absurd (none-some name (sym e ∙ ap (λ b. cond b None (Some name)) is))

module _ (firsts lasts : List PipelineTask) where
  abbrev pub IsKnown : List ℕ → Type 0
  IsKnown name = is_known firsts name ≡ true

  -- of both lists of tasks, and not of the second: of the first
  of_first : (name : List ℕ) → unless_in (names_of firsts ++ names_of lasts) name ≡ None → is_in (names_of lasts) name ≡ false → IsKnown name
  of_first name e apart =
      let both : (is_in (names_of firsts) name || is_in (names_of lasts) name) ≡ true
      = sym (list_any-append (bytes_eq name) (names_of firsts) (names_of lasts)) ∙ in_names (names_of firsts ++ names_of lasts) name (is_in (names_of firsts ++ names_of lasts) name) refl e in
      elim (or_cases (is_in (names_of firsts) name) (is_in (names_of lasts) name) both) [
        | inl there ↦ sym (known_in firsts name) ∙ there
        | inr last ↦ absurd (both_ways (is_in (names_of lasts) name) apart last)
      ]

  more_known : (o : Option (List ℕ)) (rest : List (List ℕ)) → option_and_then (unless_in (names_of firsts ++ names_of lasts)) o ≡ None → option_map_or (is_in (names_of lasts)) o false ≡ false → All IsKnown rest → All IsKnown (cons_option o rest)
  more_known None rest e apart all = all
  more_known (Some name) rest e apart all = All-cons IsKnown name rest (of_first name e apart) all

  all_known : (references : List Reference) → All (IsOf (names_of firsts ++ names_of lasts)) references → All (IsNotOf (names_of lasts)) references → All IsKnown (filter_map task_by references)
  all_known [] are apart = All-nil IsKnown
  all_known (r ∷ references) are apart =
      more_known (task_by r) (filter_map task_by references)
      (All-head (IsOf (names_of firsts ++ names_of lasts)) r references are)
      (All-head (IsNotOf (names_of lasts)) r references apart)
      (all_known references (All-tail (IsOf (names_of firsts ++ names_of lasts)) r references are) (All-tail (IsNotOf (names_of lasts)) r references apart))

  pub known_tasks : (text : List ℕ) → NamesOf (names_of firsts ++ names_of lasts) text → NamesNoneOf (names_of lasts) text → All IsKnown (text_tasks text)
  known_tasks text are apart = subst (All IsKnown) (sym (text_tasks-are text)) (all_known (read_references text) are apart)

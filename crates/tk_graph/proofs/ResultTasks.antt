-- The tasks of the results that texts refer to.
use Rattle.std.proofs.Common.{◌≡◌, ℕ, Bool, true, false, ◌&&◌, ◌||◌, cond, List, [], ◌∷◌, ◌++◌, map, Some, None, refl, sym, ap, ◌∙◌, subst, append_assoc}
use Rattle.std.specs.Prelude.{Option, flat_map, filter_map, option_map, option_to_list, bytes_eq, codes, unwrap_or}
use Rattle.std.specs.List.{cons_option}
use Rattle.std.proofs.lemmas.Grind.{flat_map-append}
use Rattle.std.proofs.lemmas.List.{append-nil}
use Rattle.std.proofs.lemmas.List.Folds.{flat_map-map}
use Rattle.std.proofs.lemmas.Slice.Eq.{bytes_eq-Decides}
use Rattle.tk_types.specs.declared.value.Pair.{Pair}
use Rattle.tk_types.specs.declared.value.Param.{Param}
use Rattle.tk_types.specs.declared.value.Value.{Value}
use Rattle.tk_types.specs.declared.value.Value.TheVariants.{Str, Arr, Obj}
use Rattle.tk_types.specs.declared.task.Matrix.{Matrix}
use Rattle.tk_types.specs.declared.task.PipelineTask.{PipelineTask}
use Rattle.tk_types.specs.declared.task.When.{When}
use Rattle.tk_types.specs.Value.{value_texts}
use Rattle.tk_vars.specs.declared.part.Part.{Part}
use Rattle.tk_vars.specs.declared.part.Part.TheVariants.{Name, Index, Star}
use Rattle.tk_vars.specs.declared.piece.Piece.{Piece}
use Rattle.tk_vars.specs.declared.piece.Piece.TheVariants.{Plain, Ref}
use Rattle.tk_vars.specs.declared.reference.Reference.{Reference}
use Rattle.tk_vars.specs.Offset.{bad_offset}
use Rattle.tk_vars.specs.Reading.{Reads, HasReading, pieces_of}
use Rattle.tk_vars.specs.Target.{Target, result, word, key_of, key_part, param_target, result_target, target_of, referenced}
use Rattle.tk_graph.specs.Parents.{parent_names}
use Rattle.tk_graph.specs.Results.{guards_texts, matrix_texts, params_texts, referenced_result, result_tasks, results_read, text_results, text_tasks, when_texts}
use Rattle.tk_graph.specs.Tasks.{entry_tasks, guard_tasks, matrix_tasks, param_tasks, part_task, piece_tasks, task_behind, value_tasks}

abbrev Named : Type 0
Named = List ℕ × List ℕ

-- the task of the result that a reference with these parts refers to
abbrev target_task : List Part → Option (List ℕ)
target_task parts = option_map (λ (r : Named). r.0) (referenced_result (target_of parts))

-- a reference with this key is to no result
abbrev no_result : List ℕ → Target
no_result key = word key

abbrev task_or : List ℕ → Option Target → Option (List ℕ)
task_or key found = option_map (λ (r : Named). r.0) (referenced_result (unwrap_or found (no_result key)))

param_task : (parts : List Part) (key : List ℕ) → (let none : Option (List ℕ) = None in none) ≡ task_or key (param_target parts)
param_task [] key = refl
param_task (p ∷ parts) key = refl

last_field : (b : Bool) (task : List ℕ) → cond (b && false) (Some task) None ≡ (let none : Option (List ℕ) = None in none)
last_field true task = refl
last_field false task = refl

next_field : (b : Bool) (task key : List ℕ) (p : Part) (parts : List Part)
    → cond (b && true) (Some task) None ≡ task_or key (cond b (Some (result task (key_part p) parts)) None)
next_field true task key p parts = refl
next_field false task key p parts = refl

behind_task : (parts : List Part) (key : List ℕ) → task_behind parts ≡ task_or key (result_target parts)
behind_task [] key = refl
behind_task (Index i ∷ parts) key = refl
behind_task (Star ∷ parts) key = refl
behind_task (Name task ∷ []) key = refl
behind_task (Name task ∷ Index i ∷ parts) key = refl
behind_task (Name task ∷ Star ∷ parts) key = refl
behind_task (Name task ∷ Name field ∷ []) key = last_field (bytes_eq field (codes "results")) task
behind_task (Name task ∷ Name field ∷ p ∷ parts) key = next_field (bytes_eq field (codes "results")) task key p parts

by_head : (is_param is_task : Bool) (parts : List Part) (key : List ℕ) → (is_param ≡ true → is_task ≡ false)
    → cond is_task (task_behind parts) None ≡ task_or key (cond is_param (param_target parts) (cond is_task (result_target parts) None))
by_head true is_task parts key apart = ap (λ b. cond b (task_behind parts) None) (apart refl) ∙ param_task parts key
by_head false true parts key apart = behind_task parts key
by_head false false parts key apart = refl

heads_apart : (head : List ℕ) → bytes_eq head (codes "params") ≡ true → (bytes_eq head (codes "tasks") || bytes_eq head (codes "finally")) ≡ false
heads_apart head is = ap (λ (h : List ℕ). bytes_eq h (codes "tasks") || bytes_eq h (codes "finally")) ((bytes_eq-Decides head (codes "params")).0 is)

-- part by part it is the task of what the reference refers to
pub part_task-is : (parts : List Part) → part_task parts ≡ target_task parts
unfolding part_task
part_task-is [] = refl
part_task-is (Index i ∷ parts) = refl
part_task-is (Star ∷ parts) = refl
part_task-is (Name head ∷ parts) =
    by_head (bytes_eq head (codes "params")) (bytes_eq head (codes "tasks") || bytes_eq head (codes "finally")) parts (key_of (Name head ∷ parts)) (heads_apart head)

-- the tasks of the results that references refer to
abbrev found_results : List Piece → List Named
found_results pieces = filter_map (λ (r : Reference). referenced_result (target_of r.parts)) (filter_map referenced pieces)

found_first : (o : Option Named) (rest : List Named) (tasks : List (List ℕ)) → tasks ≡ map (λ (r : Named). r.0) rest
    → option_to_list (option_map (λ (r : Named). r.0) o) ++ tasks ≡ map (λ (r : Named). r.0) (cons_option o rest)
found_first None rest tasks same = same
found_first (Some x) rest tasks same = ap (λ (ts : List (List ℕ)). x.0 ∷ ts) same

tasks_found : (pieces : List Piece) → flat_map piece_tasks pieces ≡ map (λ (r : Named). r.0) (found_results pieces)
tasks_found [] = refl
tasks_found (Plain text ∷ pieces) = tasks_found pieces
tasks_found (Ref r ∷ pieces) =
    ap (λ (o : Option (List ℕ)). option_to_list o ++ flat_map piece_tasks pieces) (part_task-is r.parts)
    ∙ found_first (referenced_result (target_of r.parts)) (found_results pieces) (flat_map piece_tasks pieces) (tasks_found pieces)

-- those of a text with a reading, and of one without
pub text_read : (text : List ℕ) (pieces : List Piece) → ((all : List ℕ) → HasReading all → bad_offset all ≡ None) → Reads text pieces → pieces ≡ pieces_of text
    → flat_map piece_tasks pieces ≡ text_tasks text
unfolding text_results
text_read text pieces none reads is =
    let reading : HasReading text = subst (λ (ps : List Piece). Reads text ps) is reads in
    let good : bad_offset text ≡ None = none text reading in
    tasks_found pieces ∙ (ap (λ (ps : List Piece). map (λ (r : Named). r.0) (found_results ps)) is
    ∙ sym (ap (λ (o : Option ℕ). map (λ (r : Named). r.0) (elim o [ None ↦ results_read text | Some offset ↦ [] ])) good))

pub text_unread : (text : List ℕ) (offset : ℕ) → bad_offset text ≡ Some offset → text_tasks text ≡ []
unfolding text_results
text_unread text offset bad = ap (λ (o : Option ℕ). map (λ (r : Named). r.0) (elim o [ None ↦ results_read text | Some offset ↦ [] ])) bad

-- The tasks of what holds texts, part by part.

value_tasks-is : (value : Value) → value_tasks value ≡ result_tasks (value_texts value)
value_tasks-is (Str text) = sym (append-nil (text_tasks text))
value_tasks-is (Arr texts) = refl
value_tasks-is (Obj pairs) = sym (flat_map-map text_tasks (λ (p : Pair). p.value) pairs)

params_tasks-is : (params : List Param) → flat_map param_tasks params ≡ result_tasks (params_texts params)
params_tasks-is [] = refl
params_tasks-is (p ∷ params) =
    (λ i. value_tasks-is p.value i ++ params_tasks-is params i) ∙ sym (flat_map-append text_tasks (value_texts p.value) (params_texts params))

entries_tasks-is : (entries : List (List Param)) → flat_map entry_tasks entries ≡ result_tasks (flat_map params_texts entries)
entries_tasks-is [] = refl
entries_tasks-is (e ∷ entries) =
    (λ i. params_tasks-is e i ++ entries_tasks-is entries i) ∙ sym (flat_map-append text_tasks (params_texts e) (flat_map params_texts entries))

matrix_tasks-is : (matrix : Option Matrix) → matrix_tasks matrix ≡ result_tasks (matrix_texts matrix)
matrix_tasks-is None = refl
matrix_tasks-is (Some matrix) =
    (λ i. params_tasks-is matrix.params i ++ entries_tasks-is matrix.include i)
    ∙ sym (flat_map-append text_tasks (params_texts matrix.params) (flat_map params_texts matrix.include))

guards_tasks-is : (guards : List When) → flat_map guard_tasks guards ≡ result_tasks (guards_texts guards)
guards_tasks-is [] = refl
guards_tasks-is (g ∷ guards) =
    ap (λ (ts : List (List ℕ)). guard_tasks g ++ ts) (guards_tasks-is guards) ∙ sym (flat_map-append text_tasks (when_texts g) (guards_texts guards))

-- the names of a task's parents, part by part
pub parent_names-is : (task : PipelineTask) (names : List (List ℕ))
    → names ≡ (((let none : List (List ℕ) = [] in none) ++ flat_map param_tasks task.params) ++ matrix_tasks task.matrix) ++ task.run_after
    → names ++ flat_map guard_tasks task.when ≡ parent_names task
parent_names-is task names so_far =
    let front : flat_map param_tasks task.params ++ matrix_tasks task.matrix ≡ result_tasks (params_texts task.params ++ matrix_texts task.matrix)
    = (λ i. params_tasks-is task.params i ++ matrix_tasks-is task.matrix i) ∙ sym (flat_map-append text_tasks (params_texts task.params) (matrix_texts task.matrix)) in
    ap (λ (ns : List (List ℕ)). ns ++ flat_map guard_tasks task.when) so_far
    ∙ (append_assoc (flat_map param_tasks task.params ++ matrix_tasks task.matrix) task.run_after (flat_map guard_tasks task.when)
    ∙ (λ i. front i ++ (task.run_after ++ guards_tasks-is task.when i))
    ∙ sym (append_assoc (result_tasks (params_texts task.params ++ matrix_texts task.matrix)) task.run_after (result_tasks (guards_texts task.when))))

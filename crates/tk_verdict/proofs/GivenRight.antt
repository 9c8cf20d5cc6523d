-- What the rules give is right: a task that has just that isn't Wrong, and it is at least one binding, and not too many.
use Rattle.std.proofs.Common.{◌≡◌, ◌≢◌, ℕ, zero, suc, ◌+◌, ◌-◌, ◌*◌, ◌<◌, ◌≤◌, Bool, true, false, ◌||◌, not, List, [], ◌∷◌, ◌++◌, map, length, Option, Some, None, refl, sym, ap, ◌∙◌, subst, arith}
use Rattle.std.specs.Prelude.{Contains, if◌then◌else◌, slice_get, option_map, option_and_then, filter, nat_le}
use Rattle.std.specs.List.{list_any, list_all, range_with_len}
use Rattle.std.specs.Option.{option_map_or}
use Rattle.std.proofs.lemmas.Bool.{or_parts, leb-true, le-leb}
use Rattle.std.proofs.lemmas.List.{length-map, append-nil}
use Rattle.std.proofs.lemmas.List.Elements.{Contains-append_left, Contains-append_right}
use Rattle.std.proofs.lemmas.List.FromFn.{length-map-range_with_len}
use Rattle.std.proofs.lemmas.Option.{slice_get_within, same_Some, cond_some}
use Rattle.std.proofs.lemmas.Slice.Eq.{bytes_eq-Decides}
use Rattle.tk_types.specs.declared.value.Pair.{Pair}
use Rattle.tk_types.specs.declared.value.Param.{Param}
use Rattle.tk_types.specs.declared.task.Matrix.{Matrix}
use Rattle.tk_types.specs.declared.task.PipelineTask.{PipelineTask}
use Rattle.tk_types.specs.declared.run.Facts.{Facts}
use Rattle.tk_types.specs.declared.run.Child.{Child}
use Rattle.tk_types.specs.declared.run.Stop.{Stop}
use Rattle.tk_types.specs.declared.verdict.Binding.{Binding}
use Rattle.tk_types.specs.declared.verdict.SkipReason.{SkipReason}
use Rattle.tk_types.specs.declared.verdict.SkipReason.TheVariants.{Parent, Missing, Broken, When, EmptyMatrix}
use Rattle.tk_types.specs.declared.verdict.Verdict.{Verdict}
use Rattle.tk_types.specs.declared.verdict.Verdict.TheVariants.{Ran, Runs, Wrong}
use Rattle.tk_types.specs.Lists.{is_empty, all_some, first_row}
use Rattle.tk_bind.specs.declared.env.Env.{Env}
use Rattle.tk_bind.specs.Params.{list_in, params_in, matrix_in}
use Rattle.tk_matrix.specs.Product.{list_of, product_count}
use Rattle.tk_matrix.specs.Include.{stands_alone}
use Rattle.tk_matrix.specs.Combinations.{has_empty_list, combination_count, combination, combinations}
use Rattle.tk_matrix.specs.Task.{task_combination_count, task_combinations}
use Rattle.tk_graph.specs.Parents.{IsAcyclic}
use Rattle.tk_verdict.specs.Available.{with_child, by_index, available_results}
use Rattle.tk_verdict.specs.Bindings.{few_combinations, combinations_in, is_broken, is_refused, has_no_combination}
use Rattle.tk_verdict.specs.Facts.{all_tasks, task_total, children_of, is_running, first_stop, first_late_stop}
use Rattle.tk_verdict.specs.Gives.{label_of, first_labels, Gives, to_task, to_final, HasExactly, HasEntries, has_entry}
use Rattle.tk_verdict.specs.Labels.{labels_of, labelled_parents, has_exact_children, label_by, bindings_in}
use Rattle.tk_verdict.specs.Rows.{is_good_parent, own_rows, lacks_result, lacks_any_result, task_row, finally_row}
use Rattle.tk_verdict.specs.Verdict.{blocks}
use Rattle.tk_early.specs.Words.{first_env, task_words}
use Rattle.tk_verdict.specs.Words.{task_env, env_with, finally_env, status_words}
use Rattle.tk_verdict.proofs.Elements.{all_at, front_get, back_get}
use Rattle.tk_verdict.proofs.GoodStays.{task_in}
use Rattle.tk_verdict.proofs.HasValues.{same_matrix}
use Rattle.tk_verdict.proofs.Lines.{next_by, none_not_wrong, task_label, final_label}

abbrev bind : List Param → Binding
bind params = record { params = params }

-- the parts of what is given

bindings_parts : (o : Option (List (List Param))) (bindings : List Binding) → option_map (map bind) o ≡ Some bindings → (made : List (List Param)) × (o ≡ Some made) × (bindings ≡ map bind made)
bindings_parts None bindings is = cc
bindings_parts (Some made) bindings is = (made, refl, sym (same_Some (map bind made) bindings is))

few_parts : (own : List Param) (matrix : Option Matrix) (made : List (List Param)) → few_combinations own matrix ≡ Some made → (task_combination_count matrix ≤ 256) × (made ≡ task_combinations own matrix)
few_parts own matrix made is =
    let parts = cond_some (nat_le (task_combination_count matrix) 256) (task_combinations own matrix) made is in
    (leb-true (task_combination_count matrix) 256 parts.0, sym parts.1)

count_is : (own : List Param) (matrix : Option Matrix) → length (task_combinations own matrix) ≡ task_combination_count matrix
count_is own None = refl
count_is own (Some matrix) = length-map (combinations matrix) (λ (c : List Param). own ++ c) ∙ length-map-range_with_len (combination matrix) 0 (combination_count matrix)

pub record Counted (env : Env) (task : PipelineTask) (bindings : List Binding) : Type 0 where
  pub matrix : Option Matrix
  pub made : matrix_in env task.matrix ≡ Some matrix
  pub few : task_combination_count matrix ≤ 256
  pub counted : length bindings ≡ task_combination_count matrix

counted_by : (own_in : Option (List Param)) (matrix_found : Option (Option Matrix)) (made : List (List Param))
    → option_and_then (λ own. option_and_then (few_combinations own) matrix_found) own_in ≡ Some made
    → (matrix : Option Matrix) × (matrix_found ≡ Some matrix) × (task_combination_count matrix ≤ 256) × (length made ≡ task_combination_count matrix)
counted_by None found made is = cc
counted_by (Some own) None made is = cc
counted_by (Some own) (Some matrix) made is =
    let parts = few_parts own matrix made is in
    (matrix, refl, parts.0, ap length parts.1 ∙ count_is own matrix)

pub counted : (env : Env) (task : PipelineTask) (bindings : List Binding) → bindings_in env task ≡ Some bindings → Counted env task bindings
counted env task bindings is =
    let parts = bindings_parts (combinations_in env task) bindings is in
    let found = counted_by _ (matrix_in env task.matrix) parts.0 parts.1 in
    record {
      matrix = found.0;
      made = found.1;
      few = found.2;
      counted = ap length parts.2 ∙ (length-map parts.0 bind ∙ found.3);
    }

-- at least one, where the matrix has an entry

product_some : (params : List Param) → has_empty_list params ≡ false → 0 < product_count params
product_some [] full = omega arith
product_some (p ∷ ps) full =
    let parts = or_parts (is_empty (list_of p.value)) (has_empty_list ps) full in
    let rest = product_some ps parts.1 in
    let here = some_texts (list_of p.value) parts.0 in
    pos_mul (length (list_of p.value)) (product_count ps) here rest
  where
    some_texts : (texts : List (List ℕ)) → is_empty texts ≡ false → 0 < length texts
    some_texts [] is = cc
    some_texts (t ∷ ts) is = omega arith

    pos_mul : (m n : ℕ) → 0 < m → 0 < n → 0 < m * n
    pos_mul m n a b = grind arith

all_alone : (entries : List (List Param)) → length (filter (stands_alone []) entries) ≡ length entries
all_alone [] = refl
all_alone (e ∷ entries) = ap suc (all_alone entries)

some_combination : (params : List Param) (include : List (List Param)) → has_empty_list params ≡ false → (not (is_empty params) || not (is_empty include)) ≡ true
    → 0 < combination_count (record { params = params; include = include })
some_combination [] [] full some = cc
some_combination [] (e ∷ include) full some = omega (arith, all_alone (e ∷ include))
some_combination (p ∷ ps) include full some = rw full (omega (arith, product_some (p ∷ ps) full))

all_some_empty : {X : Type 0} (os : List (Option X)) (xs : List X) → all_some os ≡ Some xs → is_empty xs ≡ is_empty os
all_some_empty [] xs is = sym (ap is_empty (same_Some [] xs is))
all_some_empty (None ∷ os) xs is = cc
all_some_empty (Some x ∷ os) xs is = some_first x (all_some os) xs is
  where
    some_first : {X : Type 0} (x : X) (o : Option (List X)) (xs : List X) → elim o [ None ↦ None | Some ys ↦ Some (x ∷ ys) ] ≡ Some xs → is_empty xs ≡ false
    some_first x None xs is = cc
    some_first x (Some ys) xs is = sym (ap is_empty (same_Some (x ∷ ys) xs is))

map_empty : {X Y : Type 0} (f : X → Y) (xs : List X) → is_empty (map f xs) ≡ is_empty xs
map_empty f [] = refl
map_empty f (x ∷ xs) = refl

abbrev is_some_matrix : Option Matrix → Bool
is_some_matrix matrix = option_map_or (λ (m : Matrix). not (is_empty m.params) || not (is_empty m.include)) matrix true

entry_by : (a : Option (List Param)) (b : Option (List (List Param))) (made : Option Matrix)
    → option_and_then (λ params. option_map (λ include. Some (record { params = params; include = include })) b) a ≡ Some made
    → (params : List Param) × (include : List (List Param)) × (a ≡ Some params) × (b ≡ Some include) × (made ≡ Some (record { params = params; include = include }))
entry_by None b made is = cc
entry_by (Some params) None made is = cc
entry_by (Some params) (Some include) made is = (params, include, refl, refl, sym (same_Some _ made is))

-- substitution keeps what a matrix has
entry_kept : (env : Env) (matrix made : Option Matrix) → matrix_in env matrix ≡ Some made → is_some_matrix matrix ≡ true → is_some_matrix made ≡ true
entry_kept env None made is some = ap is_some_matrix (sym (same_Some None made is))
entry_kept env (Some matrix) made is some =
    let parts = entry_by (all_some (map (list_in env) matrix.params)) (all_some (map (params_in env) matrix.include)) made is in
    let params : is_empty parts.0 ≡ is_empty matrix.params = all_some_empty (map (list_in env) matrix.params) parts.0 parts.2 ∙ map_empty (list_in env) matrix.params in
    let include : is_empty parts.1 ≡ is_empty matrix.include = all_some_empty (map (params_in env) matrix.include) parts.1 parts.3 ∙ map_empty (params_in env) matrix.include in
    ap is_some_matrix parts.4 ∙ ((λ i. not (params i) || not (include i)) ∙ some)

some_by : (matrix : Option Matrix) → is_some_matrix matrix ≡ true → option_map_or (λ (m : Matrix). has_empty_list m.params) matrix false ≡ false → 0 < task_combination_count matrix
some_by None some full = omega arith
some_by (Some matrix) some full = some_combination matrix.params matrix.include full some

-- where no row holds none of its own rows does

first_none : {X : Type 0} (a b c : Bool) (x y z : X) → first_row ((a, x) ∷ (b, y) ∷ (c, z) ∷ []) ≡ None → (a ≡ false) × (b ≡ false) × (c ≡ false)
first_none false false false x y z is = (refl, refl, refl)
first_none true b c x y z is = cc
first_none false true c x y z is = cc
first_none false false true x y z is = cc

pub behind_none : {X : Type 0} (a : Bool) (x : X) (rows : List (Bool × X)) → first_row ((a, x) ∷ rows) ≡ None → (a ≡ false) × (first_row rows ≡ None)
behind_none true x rows is = cc
behind_none false x rows is = (refl, is)

pub record NoOwnRow (facts : Facts) (env : Env) (place : ℕ) (task : PipelineTask) : Type 0 where
  pub not_broken : is_broken facts env place task ≡ false
  pub not_refused : is_refused env task ≡ false
  pub some : has_no_combination env task ≡ false

own_none : (facts : Facts) (env : Env) (place : ℕ) (task : PipelineTask) → first_row (own_rows facts env place task) ≡ None → NoOwnRow facts env place task
own_none facts env place task is =
    let parts = first_none (is_broken facts env place task) (is_refused env task) (has_no_combination env task) Broken When EmptyMatrix is in
    record { not_broken = parts.0; not_refused = parts.1; some = parts.2 }

good_rows : (all : Bool) (own : List (Bool × SkipReason)) → all ≡ true → first_row (if all then own else []) ≡ first_row own
good_rows true own is = refl
good_rows false own is = cc

pub task_none : (facts : Facts) (parents : List (ℕ × Verdict)) (env : Env) (place : ℕ) (task : PipelineTask) → list_all (is_good_parent facts) parents ≡ true → task_row facts parents env place task ≡ None
    → NoOwnRow facts env place task
task_none facts parents env place task good is =
    let own = (lacks_result facts parents task, Missing) ∷ own_rows facts env place task in
    let behind = behind_none (list_any (λ (p : ℕ × Verdict). blocks p.1) parents) Parent (if list_all (is_good_parent facts) parents then own else []) is in
    let rows = behind_none (lacks_result facts parents task) Missing (own_rows facts env place task) (sym (good_rows (list_all (is_good_parent facts) parents) own good) ∙ behind.1) in
    own_none facts env place task rows.1

pub final_none : (facts : Facts) (env : Env) (place : ℕ) (task : PipelineTask) → finally_row facts env place task ≡ None → NoOwnRow facts env place task
final_none facts env place task is =
    let rows = behind_none (lacks_any_result env task) Missing (own_rows facts env place task) is in
    own_none facts env place task rows.1

-- the laws

some_of : (env : Env) (facts : Facts) (place : ℕ) (task : PipelineTask) (bindings : List Binding) → has_entry task ≡ true → NoOwnRow facts env place task → bindings_in env task ≡ Some bindings → 0 < length bindings
some_of env facts place task bindings entry row bound =
    let c = counted env task bindings bound in
    let full : option_map_or (λ (m : Matrix). has_empty_list m.params) c.matrix false ≡ false
    = sym (ap (λ (o : Option (Option Matrix)). option_map_or (λ (matrix : Option Matrix). option_map_or (λ (m : Matrix). has_empty_list m.params) matrix false) o false) c.made) ∙ row.some in
    let some = some_by c.matrix (entry_kept env task.matrix c.matrix c.made entry) full in
    rw c.counted some

entry_of : (facts : Facts) (task : PipelineTask) → HasEntries facts → Contains (all_tasks facts) task → has_entry task ≡ true
entry_of facts task entries c = all_at has_entry (all_tasks facts) task entries c

pub gives_some : (facts : Facts) (place : ℕ) (bindings : List Binding) → HasEntries facts → Gives facts place bindings → 0 < length bindings
gives_some facts place bindings entries (to_task {task} g) =
    some_of (task_env facts task) facts place task bindings
    (entry_of facts task entries (Contains-append_left facts.spec.tasks facts.spec.finally task (task_in facts.spec.tasks place task g.of_tasks)))
    (task_none facts (labelled_parents facts (labels_of facts) place) (task_env facts task) place task g.good g.no_row) g.bound
gives_some facts place bindings entries (to_final {task} g) =
    let env = finally_env facts (first_labels facts) task in
    some_of env facts place task bindings
    (entry_of facts task entries (Contains-append_right facts.spec.tasks facts.spec.finally task (task_in facts.spec.finally (place - length facts.spec.tasks) task g.of_finally)))
    (final_none facts env place task g.no_row) g.bound

pub gives_place : (facts : Facts) (place : ℕ) (bindings : List Binding) → Gives facts place bindings → place < task_total facts
gives_place facts place bindings (to_task {task} g) = let within = slice_get_within facts.spec.tasks place task g.of_tasks in omega arith
gives_place facts place bindings (to_final {task} g) =
    let within = slice_get_within facts.spec.finally (place - length facts.spec.tasks) task g.of_finally in
    let past = g.past in
    omega arith

pub gives_within : (facts : Facts) (place : ℕ) (bindings : List Binding) → Gives facts place bindings → length bindings ≤ 256
gives_within facts place bindings (to_task {task} g) = let c = counted (task_env facts task) task bindings g.bound in rw c.counted c.few
gives_within facts place bindings (to_final {task} g) = let c = counted (finally_env facts (first_labels facts) task) task bindings g.bound in rw c.counted c.few

-- as many as the task's matrix counts, where it has a value before any child ended

counted_as : (env : Env) (task : PipelineTask) (bindings : List Binding) (matrix : Option Matrix) → bindings_in env task ≡ Some bindings → matrix_in env task.matrix ≡ Some matrix → length bindings ≡ task_combination_count matrix
counted_as env task bindings matrix bound is =
    let c = counted env task bindings bound in
    c.counted ∙ ap task_combination_count (same_Some c.matrix matrix (sym c.made ∙ is))

task_counted : (facts : Facts) (task : PipelineTask) (bindings : List Binding) (matrix : Option Matrix) → bindings_in (task_env facts task) task ≡ Some bindings → matrix_in (first_env facts.spec task) task.matrix ≡ Some matrix
    → length bindings ≡ task_combination_count matrix
task_counted facts task bindings matrix bound is =
    let seen : matrix_in (env_with facts (task_words facts.spec task ++ [])) task.matrix ≡ Some matrix = same_matrix facts.spec.params (task_words facts.spec task) [] (available_results facts) task.matrix matrix is in
    counted_as (task_env facts task) task bindings matrix bound
    (subst (λ (words : List Pair). matrix_in (env_with facts words) task.matrix ≡ Some matrix) (append-nil (task_words facts.spec task)) seen)

final_counted : (facts : Facts) (task : PipelineTask) (bindings : List Binding) (matrix : Option Matrix) → bindings_in (finally_env facts (first_labels facts) task) task ≡ Some bindings
    → matrix_in (first_env facts.spec task) task.matrix ≡ Some matrix → length bindings ≡ task_combination_count matrix
final_counted facts task bindings matrix bound is =
    counted_as (finally_env facts (first_labels facts) task) task bindings matrix bound
    (same_matrix facts.spec.params (task_words facts.spec task) (status_words facts (first_labels facts)) (available_results facts) task.matrix matrix is)

pub gives_counted : (facts : Facts) (place : ℕ) (task : PipelineTask) (bindings : List Binding) (matrix : Option Matrix) → slice_get (all_tasks facts) place ≡ Some task
    → matrix_in (first_env facts.spec task) task.matrix ≡ Some matrix → Gives facts place bindings → length bindings ≡ task_combination_count matrix
gives_counted facts place task bindings matrix at is (to_task {task = found} g) =
    let same : found ≡ task = same_Some found task (sym (front_get facts.spec.tasks facts.spec.finally place found g.of_tasks) ∙ at) in
    task_counted facts found bindings matrix g.bound (subst (λ (t : PipelineTask). matrix_in (first_env facts.spec t) t.matrix ≡ Some matrix) (sym same) is)
gives_counted facts place task bindings matrix at is (to_final {task = found} g) =
    let same : found ≡ task = same_Some found task (sym g.of_finally ∙ (sym (back_get facts.spec.tasks facts.spec.finally place g.past) ∙ at)) in
    final_counted facts found bindings matrix g.bound (subst (λ (t : PipelineTask). matrix_in (first_env facts.spec t) t.matrix ≡ Some matrix) (sym same) is)

-- children in order of index are so already

sorted : (a n : ℕ) (cs : List Child) → map (λ (c : Child). c.index) cs ≡ range_with_len a n → by_index cs ≡ cs
sorted a n [] is = refl
sorted a zero (c ∷ cs) is = cc
sorted a (suc n) (c ∷ cs) is =
    ap (with_child c) (sorted (a + 1) n cs (list_tail is)) ∙ in_front c cs a n (list_head is) (list_tail is)
  where
    list_head : {x y : ℕ} {xs ys : List ℕ} → x ∷ xs ≡ y ∷ ys → x ≡ y
    list_head e = cc

    list_tail : {x y : ℕ} {xs ys : List ℕ} → x ∷ xs ≡ y ∷ ys → xs ≡ ys
    list_tail e = cc

    in_front : (c : Child) (cs : List Child) (a n : ℕ) → c.index ≡ a → map (λ (d : Child). d.index) cs ≡ range_with_len (a + 1) n → with_child c cs ≡ c ∷ cs
    in_front c [] a n here is = refl
    in_front c (d ∷ ds) a zero here is = cc
    in_front c (d ∷ ds) a (suc n) here is =
        let next : d.index ≡ a + 1 = list_head is in
        rw (le-leb c.index d.index (omega arith)) refl

exact : (children : List Child) (made : List (List Param)) (bindings : List Binding) → bindings ≡ map bind made → map (λ (c : Child). c.index) children ≡ range_with_len 0 (length bindings)
    → has_exact_children children made ≡ true
exact children made bindings are is =
    let long : length bindings ≡ length made = ap length are ∙ length-map made bind in
    (bytes_eq-Decides (map (λ (c : Child). c.index) (by_index children)) (range_with_len 0 (length made))).1
    (ap (map (λ (c : Child). c.index)) (sorted 0 (length bindings) children is) ∙ (is ∙ ap (range_with_len 0) long))

right_by : (children : List Child) (made : List (List Param)) (stop : Option Stop) (b : Bool) → has_exact_children children made ≡ true → label_by children (Some made) None stop (next_by b) ≡ Wrong → ⊥
right_by [] made stop b is wrong = none_not_wrong (Some made) None stop b wrong
right_by (c ∷ cs) made stop b is wrong = ended_right (list_any is_running (c ∷ cs)) (has_exact_children (c ∷ cs) made) is wrong
  where
    ended_right : (runs right : Bool) → right ≡ true → (if runs then Runs else (if right then Ran else Wrong)) ≡ Wrong → ⊥
    ended_right true right is wrong = cc
    ended_right false true is wrong = cc
    ended_right false false is wrong = cc

pub given_is_right : (facts : Facts) (place : ℕ) (bindings : List Binding) → IsAcyclic facts.spec.tasks → Gives facts place bindings → HasExactly facts place (length bindings) → label_of facts place ≢ Wrong
given_is_right facts place bindings acyclic (to_task {task} g) exactly wrong =
    let parts = bindings_parts (combinations_in (task_env facts task) task) bindings g.bound in
    let line = task_label facts acyclic place task g.of_tasks in
    let b : Bool = list_all (is_good_parent facts) (labelled_parents facts (labels_of facts) place) in
    right_by (children_of facts place) parts.0 (first_stop facts) b (exact (children_of facts place) parts.0 bindings parts.2 exactly)
    (sym (λ i. label_by (children_of facts place) (parts.1 i) (g.no_row i) (first_stop facts) (next_by b)) ∙ (sym line ∙ wrong))
given_is_right facts place bindings acyclic (to_final {task} g) exactly wrong =
    let env = finally_env facts (first_labels facts) task in
    let parts = bindings_parts (combinations_in env task) bindings g.bound in
    let line : label_of facts place ≡ label_by (children_of facts place) (combinations_in env task) (finally_row facts env place task) (first_late_stop facts) (next_by true)
    = final_label facts acyclic place task g.past g.of_finally ∙ rw g.done refl in
    right_by (children_of facts place) parts.0 (first_late_stop facts) true (exact (children_of facts place) parts.0 bindings parts.2 exactly)
    (sym (λ i. label_by (children_of facts place) (parts.1 i) (g.no_row i) (first_late_stop facts) (next_by true)) ∙ (sym line ∙ wrong))

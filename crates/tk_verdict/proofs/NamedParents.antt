-- The tasks whose results a task refers to: they are its parents, and of `tasks`.
use Rattle.std.proofs.Common.{◌≡◌, ℕ, zero, suc, ◌<◌, Bool, true, false, cond, List, [], ◌∷◌, ◌++◌, length, get_or, Option, Some, sym, ap, ◌∙◌, subst, inl, inr, arith, zero-add}
use Rattle.std.specs.Prelude.{◌≢◌, Contains, AllPairs, flat_map, filter, slice_get, bytes_eq}
use Rattle.std.specs.List.{enumerate_from}
use Rattle.std.specs.Option.{option_map_or}
use Rattle.std.proofs.lemmas.Bool.{cases_order}
use Rattle.std.proofs.lemmas.Grind.{flat_map-append}
use Rattle.std.proofs.lemmas.List.{get_or_append_left, length-append}
use Rattle.std.proofs.lemmas.List.Elements.{Contains-append_left, Contains-append_right, Contains-append_cases}
use Rattle.std.proofs.lemmas.List.FromFn.{length-enumerate_from, get_or-enumerate_from}
use Rattle.std.proofs.lemmas.Option.{slice_get_within, get_or_from_slice_get}
use Rattle.std.proofs.lemmas.Slice.Eq.{bytes_eq-Decides}
use Rattle.tk_types.specs.declared.task.PipelineTask.{PipelineTask}
use Rattle.tk_types.specs.Lists.{places_where}
use Rattle.tk_graph.specs.Parents.{parent_names, is_parent, parents}
use Rattle.tk_graph.specs.Results.{params_texts, matrix_texts, guards_texts, text_results, text_tasks, task_results, result_tasks}
use Rattle.tk_graph.specs.Unknown.{is_known}
use Rattle.tk_verdict.proofs.Elements.{same_default, map_in, next_in, first_in, any_at, any_found}

abbrev Named : Type 0
Named = List ℕ × List ℕ

-- lists

pub flat_in : {X Y : Type 0} (f : X → List Y) (xs : List X) (x : X) (y : Y) → Contains xs x → Contains (f x) y → Contains (flat_map f xs) y
flat_in f [] x y c d = absurd (omega (arith, c.1))
flat_in f (z ∷ xs) x y (zero, lt, is) d = Contains-append_left (f z) (flat_map f xs) y (subst (λ w. Contains (f w) y) (sym is) d)
flat_in f (z ∷ xs) x y (suc k, lt, is) d = Contains-append_right (f z) (flat_map f xs) y (flat_in f xs x y (k, omega (arith, lt), is) d)

kept : {X : Type 0} (b : Bool) (x y : X) (xs : List X) → Contains xs x → Contains (cond b (y ∷ xs) xs) x
kept true x y xs c = next_in x y xs c
kept false x y xs c = c

filter_in : {X : Type 0} (test : X → Bool) (xs : List X) (x : X) → Contains xs x → test x ≡ true → Contains (filter test xs) x
filter_in test [] x c pass = absurd (omega (arith, c.1))
filter_in test (y ∷ xs) x (zero, lt, is) pass =
    subst (λ b. Contains (cond b (y ∷ filter test xs) (filter test xs)) x) (sym (ap test is ∙ pass)) (subst (λ z. Contains (z ∷ filter test xs) x) (sym is) (first_in x (filter test xs)))
filter_in test (y ∷ xs) x (suc k, lt, is) pass = kept (test y) x y (filter test xs) (filter_in test xs x (k, omega (arith, lt), is) pass)

place_in : {X : Type 0} (xs : List X) (q : ℕ) (x : X) → slice_get xs q ≡ Some x → Contains (enumerate_from 0 xs) (q, x)
place_in xs q x is =
    let within : q < length xs = slice_get_within xs q x is in (
      q,
      subst (λ n. q < n) (sym (length-enumerate_from 0 xs)) within,
      get_or-enumerate_from 0 xs q (q, x) within ∙ (λ i. (zero-add q i, get_or_from_slice_get xs q x x is i)),
    )

pub places_in : {X : Type 0} (test : X → Bool) (xs : List X) (q : ℕ) (x : X) → slice_get xs q ≡ Some x → test x ≡ true → Contains (places_where test xs) q
places_in {X} test xs q x is pass =
    map_in (λ (e : ℕ × X). e.0) (filter (λ (e : ℕ × X). test e.1) (enumerate_from 0 xs)) (q, x)
    (filter_in (λ (e : ℕ × X). test e.1) (enumerate_from 0 xs) (q, x) (place_in xs q x is) pass)

-- the task of each result that texts refer to is named by them
in_tasks : (texts : List (List ℕ)) (named : Named) → Contains (flat_map text_results texts) named → Contains (result_tasks texts) named.0
in_tasks [] named c = absurd (omega (arith, c.1))
in_tasks (text ∷ texts) named c =
    elim (Contains-append_cases (text_results text) (flat_map text_results texts) named c) [
      | inl here ↦ Contains-append_left (text_tasks text) (result_tasks texts) named.0 (map_in (λ (r : Named). r.0) (text_results text) named here)
      | inr later ↦ Contains-append_right (text_tasks text) (result_tasks texts) named.0 (in_tasks texts named later)
    ]

pub in_parent_names : (task : PipelineTask) (named : Named) → Contains (task_results task) named → Contains (parent_names task) named.0
in_parent_names task named c =
    let front = params_texts task.params ++ matrix_texts task.matrix in
    let back = guards_texts task.when in
    let all : Contains (result_tasks (front ++ back)) named.0 = in_tasks (front ++ back) named c in
    let parted : Contains (result_tasks front ++ result_tasks back) named.0 = subst (λ (names : List (List ℕ)). Contains names named.0) (flat_map-append text_tasks front back) all in
    elim (Contains-append_cases (result_tasks front) (result_tasks back) named.0 parted) [
      | inl here ↦ Contains-append_left (result_tasks front ++ task.run_after) (result_tasks back) named.0 (Contains-append_left (result_tasks front) task.run_after named.0 here)
      | inr later ↦ Contains-append_right (result_tasks front ++ task.run_after) (result_tasks back) named.0 later
    ]

-- a task whose name another lists is its parent
pub is_parent_named : (parent task : PipelineTask) (name : List ℕ) → Contains (parent_names task) name → parent.name ≡ name → is_parent parent task ≡ true
is_parent_named parent task name c is =
    any_at (λ (n : List ℕ). bytes_eq n parent.name) (parent_names task) name ((bytes_eq-Decides name parent.name).1 (sym is)) c

pub parent_in : (tasks : List PipelineTask) (place q : ℕ) (task parent : PipelineTask) → slice_get tasks place ≡ Some task → slice_get tasks q ≡ Some parent → is_parent parent task ≡ true
    → Contains (parents tasks place) q
parent_in tasks place q task parent here there is =
    subst (λ (found : Option PipelineTask). Contains (option_map_or (λ (t : PipelineTask). places_where (λ p. is_parent p t) tasks) found []) q) (sym here)
    (places_in (λ p. is_parent p task) tasks q parent there is)

-- of tasks whose names differ, that of a name that one of the first has is this one
pub among_first : (tasks more : List PipelineTask) (q : ℕ) (task : PipelineTask) (name : List ℕ)
    → AllPairs (λ (a b : PipelineTask). a.name ≢ b.name) (tasks ++ more) → is_known tasks name ≡ true → slice_get (tasks ++ more) q ≡ Some task → task.name ≡ name
    → q < length tasks
among_first tasks more q task name differ known is named =
    let found = any_found (λ (t : PipelineTask). bytes_eq name t.name) tasks known in
    let k : ℕ = found.1.0 in
    let within : k < length tasks = found.1.1 in
    let long = length-append tasks more in
    let inside : k < length (tasks ++ more) = omega arith in
    let there : q < length (tasks ++ more) = slice_get_within (tasks ++ more) q task is in
    let first : get_or (tasks ++ more) k task ≡ found.0 = same_default (tasks ++ more) k task found.0 inside ∙ (get_or_append_left tasks more found.0 k within ∙ found.1.2) in
    let second : get_or (tasks ++ more) q task ≡ task = get_or_from_slice_get (tasks ++ more) q task task is in
    let same : found.0.name ≡ task.name = sym ((bytes_eq-Decides name found.0.name).0 found.2) ∙ sym named in
    let here : (get_or (tasks ++ more) k task).name ≡ (get_or (tasks ++ more) q task).name = ap (λ (t : PipelineTask). t.name) first ∙ (same ∙ sym (ap (λ (t : PipelineTask). t.name) second)) in
    elim (cases_order k q) [
      | inl equal ↦ omega arith
      | inr other ↦ elim other [
        | inl less ↦ absurd (differ k q task less there here)
        | inr more_than ↦ omega arith
      ]
    ]

-- The first unknown name of what is left of some tasks.
use Rattle.std.proofs.Common.{◌≡◌, ℕ, ◌+◌, ◌<◌, Bool, true, false, cond, not, List, [], ◌∷◌, map, length, get_or, drop, Option, Some, None, refl, sym, ap, ◌∙◌}
use Rattle.std.specs.Prelude.{option_map, find, IsTrue}
use Rattle.std.specs.List.{All, enumerate_from}
use Rattle.std.specs.Option.{option_or}
use Rattle.std.proofs.lemmas.List.{at_drop_more}
use Rattle.std.proofs.lemmas.List.Elements.{All-nil, All-cons, All-head, All-tail}
use Rattle.std.proofs.lemmas.Option.{none-some}
use Rattle.tk_types.specs.declared.task.PipelineTask.{PipelineTask}
use Rattle.tk_types.specs.First.{first_of}
use Rattle.tk_graph.specs.Parents.{parent_names}
use Rattle.tk_graph.specs.Unknown.{is_known, unknown_name, first_unknown}

-- the same as `first_unknown`, for the tasks from a place on
abbrev pub unknown_from : List PipelineTask → ℕ → List PipelineTask → Option (ℕ × List ℕ)
unknown_from all n tasks = first_of (map (λ (e : ℕ × PipelineTask). option_map (λ name. (e.0, name)) (unknown_name all e.1)) (enumerate_from n tasks))

next : (all tasks : List PipelineTask) (i : ℕ) (task : PipelineTask) → i < length tasks → task ≡ get_or tasks i task
    → unknown_from all i (drop i tasks) ≡ option_or (option_map (λ name. (i, name)) (unknown_name all task)) (unknown_from all (i + 1) (drop (i + 1) tasks))
next all tasks i task lt is =
    at_drop_more (unknown_from all i) tasks i task lt
    ∙ ap (λ t. option_or (option_map (λ name. (i, name)) (unknown_name all t)) (unknown_from all (i + 1) (drop (i + 1) tasks))) (sym is)

pub passes : (all tasks : List PipelineTask) (i : ℕ) (task : PipelineTask) → i < length tasks → task ≡ get_or tasks i task → None ≡ unknown_name all task
    → unknown_from all i (drop i tasks) ≡ unknown_from all (i + 1) (drop (i + 1) tasks)
passes all tasks i task lt is none =
    next all tasks i task lt is ∙ ap (λ o. option_or (option_map (λ name. (i, name)) o) (unknown_from all (i + 1) (drop (i + 1) tasks))) (sym none)

pub stops : (all tasks : List PipelineTask) (i : ℕ) (task : PipelineTask) (name : List ℕ) → i < length tasks → task ≡ get_or tasks i task → Some name ≡ unknown_name all task
    → unknown_from all i (drop i tasks) ≡ Some (i, name)
stops all tasks i task name lt is some =
    next all tasks i task lt is ∙ ap (λ o. option_or (option_map (λ name. (i, name)) o) (unknown_from all (i + 1) (drop (i + 1) tasks))) (sym some)

-- all names are known
abbrev pub KnowsAll : List PipelineTask → PipelineTask → Type 0
KnowsAll all task = All (λ name. IsTrue (is_known all name)) (parent_names task)

known_cond : (b : Bool) (name : List ℕ) (found : Option (List ℕ)) → cond (not b) (Some name) found ≡ None → (b ≡ true) × (found ≡ None)
known_cond true name found e = (refl, e)
known_cond false name found e = absurd (none-some name (sym e))

all_known : (all : List PipelineTask) (names : List (List ℕ)) → find (λ name. not (is_known all name)) names ≡ None → All (λ name. IsTrue (is_known all name)) names
all_known all [] e = All-nil (λ name. IsTrue (is_known all name))
all_known all (name ∷ names) e =
    let parts = known_cond (is_known all name) name (find (λ other. not (is_known all other)) names) e in
    All-cons (λ other. IsTrue (is_known all other)) name names parts.0 (all_known all names parts.1)

none_found : (all : List PipelineTask) (names : List (List ℕ)) → All (λ name. IsTrue (is_known all name)) names → find (λ name. not (is_known all name)) names ≡ None
none_found all [] known = refl
none_found all (name ∷ names) known =
    ap (λ b. cond (not b) (Some name) (find (λ other. not (is_known all other)) names)) (All-head (λ other. IsTrue (is_known all other)) name names known)
    ∙ none_found all names (All-tail (λ other. IsTrue (is_known all other)) name names known)

or_none : (place : ℕ) (found : Option (List ℕ)) (rest : Option (ℕ × List ℕ)) → option_or (option_map (λ name. (place, name)) found) rest ≡ None → (found ≡ None) × (rest ≡ None)
or_none place None rest e = (refl, e)
or_none place (Some name) rest e = absurd (none-some (place, name) (sym e))

known_from : (all : List PipelineTask) (n : ℕ) (tasks : List PipelineTask) → unknown_from all n tasks ≡ None → All (KnowsAll all) tasks
known_from all n [] e = All-nil (KnowsAll all)
known_from all n (task ∷ tasks) e =
    let parts = or_none n (unknown_name all task) (unknown_from all (n + 1) tasks) e in
    All-cons (KnowsAll all) task tasks (all_known all (parent_names task) parts.0) (known_from all (n + 1) tasks parts.1)

none_from : (all : List PipelineTask) (n : ℕ) (tasks : List PipelineTask) → All (KnowsAll all) tasks → unknown_from all n tasks ≡ None
none_from all n [] known = refl
none_from all n (task ∷ tasks) known =
    ap (λ o. option_or (option_map (λ name. (n, name)) o) (unknown_from all (n + 1) tasks)) (none_found all (parent_names task) (All-head (KnowsAll all) task tasks known))
    ∙ none_from all (n + 1) tasks (All-tail (KnowsAll all) task tasks known)

pub known_where_none : (tasks : List PipelineTask) → first_unknown tasks ≡ None → All (KnowsAll tasks) tasks
known_where_none tasks e = known_from tasks 0 tasks e

pub none_where_known : (tasks : List PipelineTask) → All (KnowsAll tasks) tasks → first_unknown tasks ≡ None
none_where_known tasks known = none_from tasks 0 tasks known

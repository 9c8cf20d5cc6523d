-- Tasks that the rule on names passes have names that all differ.
use Rattle.std.proofs.Common.{◌≡◌, ◌≢◌, ℕ, ◌+◌, ◌<◌, false, ◌||◌, List, [], ◌∷◌, ◌++◌, length, get_or, Option, Some, None, bytes_eq, refl, sym, ap, ◌∙◌, subst, append_assoc, arith}
use Rattle.std.specs.Prelude.{AllPairs, codes, filter_map}
use Rattle.std.specs.List.{list_any}
use Rattle.std.proofs.lemmas.Bool.{false≢true}
use Rattle.std.proofs.lemmas.List.{append-nil, length-append, map-append, take_at}
use Rattle.std.proofs.lemmas.List.Folds.{list_any_at}
use Rattle.std.proofs.lemmas.List.Quantifiers.{all_pairs_push}
use Rattle.std.proofs.lemmas.Slice.Eq.{bytes_eq-Decides}
use Rattle.tk_types.specs.declared.task.PipelineTask.{PipelineTask}
use Rattle.tk_types.specs.declared.object.PipelineSpec.{PipelineSpec}
use Rattle.tk_types.specs.Fault.{duplicate}
use Rattle.tk_types.specs.First.{Finding, first_if_there}
use Rattle.tk_types.specs.Place.{Place, ◌▸◌, ◌#◌}
use Rattle.tk_types.specs.Names.{is_in}
use Rattle.tk_validate.specs.Names.{differ_from, names_before, names_of, pipeline_names, task_names, tasks_differ, told_before}
use Rattle.tk_validate.proofs.FirstNone.{first_none, rest_none, not_refused}
use Rattle.tk_validate.proofs.InOrder.{entry_finding, found_from}

abbrev pub Differ : PipelineTask → PipelineTask → Type 0
Differ a b = a.name ≢ b.name

abbrev name_of : PipelineTask → Option (List ℕ)
name_of task = Some task.name

-- a name that isn't among those of some tasks is that of none of them
named_in : (name : List ℕ) (tasks : List PipelineTask) → is_in (names_of tasks) name ≡ list_any (λ (t : PipelineTask). bytes_eq name t.name) tasks
named_in name [] = refl
named_in name (task ∷ tasks) = ap (λ b. bytes_eq name task.name || b) (named_in name tasks)

new_name : (task : PipelineTask) (tasks : List PipelineTask) → is_in (names_of tasks) task.name ≡ false → (k : ℕ) (d : PipelineTask) → k < length tasks → Differ (get_or tasks k d) task
new_name task tasks new k d lt =
    λ same.
    false≢true
    (sym new
    ∙ (named_in task.name tasks
    ∙ list_any_at (λ (t : PipelineTask). bytes_eq task.name t.name) tasks k d lt ((bytes_eq-Decides task.name (get_or tasks k d).name).1 (sym same))))

-- the names before a task
names_are : (tasks : List PipelineTask) → filter_map name_of tasks ≡ names_of tasks
names_are [] = refl
names_are (task ∷ tasks) = ap (λ names. task.name ∷ names) (names_are tasks)

before_are : (first before rest : List PipelineTask) (n : ℕ) → length before ≡ n → names_before (names_of first) name_of (before ++ rest) n ≡ names_of (first ++ before)
before_are first before rest n long =
    ap (λ tasks. names_of first ++ filter_map name_of tasks) (take_at before rest n long)
    ∙ (ap (λ names. names_of first ++ names) (names_are before) ∙ sym (map-append (λ (t : PipelineTask). t.name) first before))

module _ (first : List PipelineTask) (at : Place) where
  abbrev finding : List PipelineTask → ℕ × PipelineTask → Finding
  finding all e = entry_finding (names_of first) name_of task_names at all e

  -- those so far differ, and each that is left differs from all before it
  differ_from_here : (all before rest : List PipelineTask) (n : ℕ) → all ≡ before ++ rest → length before ≡ n → AllPairs Differ (first ++ before) → found_from (finding all) n rest ≡ None → AllPairs Differ (first ++ all)
  differ_from_here all before [] n is long so_far e = subst (λ tasks. AllPairs Differ (first ++ tasks)) (sym (is ∙ append-nil before)) so_far
  differ_from_here all before (task ∷ rest) n is long so_far e =
      let here = first_none (finding all (n, task)) (found_from (finding all) (n + 1) rest) e in
      let told = first_none (first_if_there (told_before (names_before (names_of first) name_of all n) (at # n)) (name_of task)) _ here in
      let new : is_in (names_of (first ++ before)) task.name ≡ false
      = ap (λ names. is_in names task.name) (sym (ap (λ tasks. names_before (names_of first) name_of tasks n) is ∙ before_are first before (task ∷ rest) n long))
      ∙ not_refused (is_in (names_before (names_of first) name_of all n) task.name) (duplicate (at # n) task.name) told in
      differ_from_here all (before ++ task ∷ []) rest (n + 1)
      (is ∙ sym (append_assoc before (task ∷ []) rest))
      (length-append before (task ∷ []) ∙ ap (λ m. m + 1) long)
      (subst (AllPairs Differ) (append_assoc first before (task ∷ [])) (all_pairs_push Differ (first ++ before) task so_far (new_name task (first ++ before) new)))
      (rest_none (finding all (n, task)) (found_from (finding all) (n + 1) rest) e)

  more_differ : (tasks : List PipelineTask) → AllPairs Differ first → tasks_differ (names_of first) at tasks ≡ None → AllPairs Differ (first ++ tasks)
  unfolding differ_from
  more_differ tasks so_far e = differ_from_here tasks [] tasks 0 refl refl (subst (AllPairs Differ) (sym (append-nil first)) so_far) e

none_differ : AllPairs Differ []
none_differ i j d before inside = let nowhere : ⊥ = omega arith in absurd nowhere

pub tasks_differ_all : (at : Place) (pipeline : PipelineSpec) → pipeline_names at pipeline ≡ None → AllPairs Differ (pipeline.tasks ++ pipeline.finally)
unfolding pipeline_names
tasks_differ_all at pipeline e =
    let found = rest_none _ _ e in
    more_differ pipeline.tasks (at ▸ codes "finally") pipeline.finally
    (more_differ [] (at ▸ codes "tasks") pipeline.tasks none_differ (first_none _ _ found))
    (first_none _ _ (rest_none _ _ found))

-- Names differ below their end exactly where those of the tasks do, pair by pair.
use Rattle.std.proofs.Common.{◌≢◌, ℕ, ◌<◌, List, [], ◌∷◌, map, length, AllPairs, sym, ◌∙◌, arith}
use Rattle.std.proofs.lemmas.List.{get_or-map, length-map}
use Rattle.tk_types.specs.declared.task.PipelineTask.{PipelineTask}
use Rattle.tk_names.specs.Clash.{DifferBelow}

abbrev pub Differ : PipelineTask → PipelineTask → Type 0
Differ a b = a.name ≢ b.name

abbrev pub names_of : List PipelineTask → List (List ℕ)
names_of tasks = map (λ (task : PipelineTask). task.name) tasks

pub pairs_differ : (tasks : List PipelineTask) → DifferBelow (names_of tasks) (length (names_of tasks)) → AllPairs Differ tasks
pairs_differ tasks below i j d less within same =
    let long = length-map tasks (λ (task : PipelineTask). task.name) in
    below i j less (omega arith)
    (get_or-map (λ (task : PipelineTask). task.name) tasks i d [] (omega arith) ∙ (same ∙ sym (get_or-map (λ (task : PipelineTask). task.name) tasks j d [] within)))

pub below_differ : (tasks : List PipelineTask) → AllPairs Differ tasks → DifferBelow (names_of tasks) (length (names_of tasks))
below_differ [] pairs i j less within same = absurd (omega (arith, length-map [] (λ (task : PipelineTask). task.name)))
below_differ (task ∷ tasks) pairs i j less within same =
    let all : List PipelineTask = task ∷ tasks in
    let long = length-map all (λ (t : PipelineTask). t.name) in
    let last : j < length all = omega arith in
    pairs i j task less last
    (sym (get_or-map (λ (t : PipelineTask). t.name) all i task [] (omega arith)) ∙ (same ∙ get_or-map (λ (t : PipelineTask). t.name) all j task [] last))

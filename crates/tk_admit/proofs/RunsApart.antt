-- Runs whose own names show that no two of their TaskRuns share a name.
use Rattle.std.proofs.Common.{◌≡◌, ◌≢◌, ℕ, ◌<◌, ◌≤◌, List, [], ◌∷◌, ◌++◌, map, length, take, get_or, All, flat_map, true, None, nat_le, option_map, refl, sym, ap, subst, ◌∙◌, ◌⊎◌, inl, inr, append_assoc, length-append, arith}
use Rattle.std.proofs.lemmas.Bool.{false≢true}
use Rattle.std.proofs.lemmas.Bool.Decides.{nat_tests}
use Rattle.std.proofs.lemmas.List.Elements.{All-cons, All-head, All-nil, All-tail}
use Rattle.tk_types.specs.Behaviour.{tasks_of}
use Rattle.tk_types.specs.Names.{is_in}
use Rattle.tk_types.specs.declared.run.RunSpec.{RunSpec}
use Rattle.tk_types.specs.declared.task.PipelineTask.{PipelineTask}
use Rattle.tk_names.specs.Children.{child_names, shortened, whole_child_name}
use Rattle.tk_names.proofs.ClashLaw.{clash-none_is}
use Rattle.tk_early.specs.Possible.{possible_children}
use Rattle.tk_journal.specs.Names.{task_names, task_run_names}
use Rattle.tk_journal.specs.declared.act.Admission.{Admission}
use Rattle.tk_journal.specs.declared.act.Admission.TheVariants.{Run, Task}
use Rattle.tk_admit.specs.Apart.{AreApart, Differ, HasNoFront, HasWholeName, HasWholeNames, pipeline_run_name, standalone_name, pipeline_run_names}
use Rattle.tk_admit.specs.Names.{all_names, clash_of, names_finding, owners}
use Rattle.tk_admit.specs.Sound.{IsSound, IsTaken}
use Rattle.tk_admit.specs.Taken.{run_name}
use Rattle.tk_admit.specs.declared.taken.Taken.{Taken}
use Rattle.tk_admit.proofs.NamesAdded.{found_there}
use Rattle.tk_admit.proofs.Pairs.{AllAcross, all_pieces, pairs_joined, pairs_mapped, pairs_pieces}

-- two texts differ
abbrev Differs : List ℕ → List ℕ → Type 0
Differs a b = a ≢ b

-- the name of a child that is whole
abbrev whole : List ℕ → List ℕ → List ℕ
whole run task = run ++ 45 ∷ task

-- ---- one text that is cut before a `-` at two places: the shorter front is one of the longer
abbrev GoesOn : List ℕ → List ℕ → Type 0
GoesOn front text = (rest : List ℕ) × (text ≡ whole front rest)

-- the heads of two equal lists, and what follows
heads : {x y : ℕ} {xs ys : List ℕ} → x ∷ xs ≡ y ∷ ys → x ≡ y
heads e = cc

tails : {x y : ℕ} {xs ys : List ℕ} → x ∷ xs ≡ y ∷ ys → xs ≡ ys
tails e = cc

goes_on_more : (c d : ℕ) (a b : List ℕ) → c ≡ d → GoesOn a b → GoesOn (c ∷ a) (d ∷ b)
goes_on_more c d a b same (rest, is) = (rest, cc)

fronts : (a b x y : List ℕ) → whole a x ≡ whole b y → (a ≡ b) ⊎ (GoesOn a b ⊎ GoesOn b a)
fronts [] [] x y e = inl refl
fronts [] (d ∷ b) x y e = inr (inl (b, let head : 45 ≡ d = heads e in cc))
fronts (c ∷ a) [] x y e = inr (inr (a, let head : c ≡ 45 = heads e in cc))
fronts (c ∷ a) (d ∷ b) x y e =
    let head : c ≡ d = heads e in
    elim (fronts a b x y (tails e)) [
      | inl same ↦ inl (let is : a ≡ b = same in cc)
      | inr (inl on) ↦ inr (inl (goes_on_more c d a b head on))
      | inr (inr on) ↦ inr (inr (goes_on_more d c b a (sym head) on))
    ]

same_rest : (a x y : List ℕ) → whole a x ≡ whole a y → x ≡ y
same_rest [] x y e = tails e
same_rest (c ∷ a) x y e = same_rest a x y (tails e)

-- ---- a front of a name that ends before a `-`
dash_there : (a rest : List ℕ) → get_or (whole a rest) (length a) 0 ≡ 45
dash_there [] rest = refl
dash_there (c ∷ a) rest = dash_there a rest

front_taken : (a rest : List ℕ) → take (length a) (whole a rest) ≡ a
front_taken [] rest = refl
front_taken (c ∷ a) rest = ap (λ xs. c ∷ xs) (front_taken a rest)

-- no name of which it is said goes on from one of the names
goes_on_not : (names : List (List ℕ)) (front name : List ℕ) → HasNoFront names name → is_in names front ≡ true → GoesOn front name → ⊥
goes_on_not names front name free is (rest, on) =
    let long = length-append front (45 ∷ rest) in
    let inside : length front < length (whole front rest) = omega arith in
    let none = subst (HasNoFront names) on free (length front) inside (dash_there front rest) in
    false≢true (sym none ∙ (ap (is_in names) (front_taken front rest) ∙ is))

-- ---- the names of a run's children
stays : (text : List ℕ) → length text ≤ 63 → shortened text ≡ text
stays text short =
    let yes : nat_le (length text) 63 ≡ true = grind (arith, nat_tests) in rw yes refl

one_name : (spec : RunSpec) (task : PipelineTask) → HasWholeName spec.name task → task_names spec task ≡ whole spec.name task.name ∷ []
one_name spec task (none, short) =
    let one : possible_children spec task ≡ None = rw none refl in
    ap (child_names spec.name task.name) one
    ∙ ap (λ name. name ∷ []) (stays (whole_child_name spec.name task.name None) short ∙ append_assoc spec.name (45 ∷ []) task.name)

whole_names : (spec : RunSpec) (tasks : List PipelineTask) → All (HasWholeName spec.name) tasks → flat_map (task_names spec) tasks ≡ map (λ (task : PipelineTask). whole spec.name task.name) tasks
whole_names spec [] all = refl
whole_names spec (task ∷ tasks) all =
    ap (λ front. front ++ flat_map (task_names spec) tasks) (one_name spec task (All-head (HasWholeName spec.name) task tasks all))
    ∙ ap (λ rest. whole spec.name task.name ∷ rest) (whole_names spec tasks (All-tail (HasWholeName spec.name) task tasks all))

each_whole : (run : List ℕ) (tasks : List PipelineTask) → All (GoesOn run) (map (λ (task : PipelineTask). whole run task.name) tasks)
each_whole run [] = All-nil (GoesOn run)
each_whole run (task ∷ tasks) =
    All-cons (GoesOn run) (whole run task.name) (map (λ (t : PipelineTask). whole run t.name) tasks) (task.name, refl) (each_whole run tasks)

-- ---- one run
own_differ : (spec : Admission) → IsSound spec → HasWholeNames spec → Differ (task_run_names spec)
own_differ (Run spec) sound all =
    subst Differ (sym (whole_names spec (tasks_of spec) all))
    (pairs_mapped Differs (λ (task : PipelineTask). whole spec.name task.name) (tasks_of spec)
    (λ i j d less within same. sound.names_differ i j d less within (same_rest spec.name (get_or (tasks_of spec) i d).name (get_or (tasks_of spec) j d).name same)))
own_differ (Task spec) sound all = λ i j d less within. absurd (omega arith)

-- ---- two runs
-- what is known of a run beside the names of all PipelineRuns
record Known (names : List (List ℕ)) (spec : Admission) : Type 0 where
  whole : HasWholeNames spec
  own : All (λ name. is_in names name ≡ true) (pipeline_run_name spec)
  no_front : HasNoFront names (run_name spec)

children_go_on : (spec : RunSpec) → HasWholeNames (Run spec) → All (GoesOn spec.name) (task_run_names (Run spec))
children_go_on spec all =
    subst (All (GoesOn spec.name)) (sym (whole_names spec (tasks_of spec) all)) (each_whole spec.name (tasks_of spec))

own_is_in : (names : List (List ℕ)) (spec : RunSpec) → Known names (Run spec) → is_in names spec.name ≡ true
own_is_in names spec known = All-head (λ name. is_in names name ≡ true) spec.name [] known.own

-- a child of one PipelineRun isn't one of another
children_apart : (names : List (List ℕ)) (a b : RunSpec) → Known names (Run a) → Known names (Run b) → a.name ≢ b.name → (x y : List ℕ) → GoesOn a.name x → GoesOn b.name y → x ≢ y
children_apart names a b known_a known_b differ x y (rest, on_a) (more, on_b) same =
    elim (fronts a.name b.name rest more (sym on_a ∙ (same ∙ on_b))) [
      | inl one ↦ differ one
      | inr (inl on) ↦ goes_on_not names a.name b.name known_b.no_front (own_is_in names a known_a) on
      | inr (inr on) ↦ goes_on_not names b.name a.name known_a.no_front (own_is_in names b known_b) on
    ]

-- nor a standalone TaskRun
child_is_not : (names : List (List ℕ)) (a : RunSpec) (name : List ℕ) → Known names (Run a) → HasNoFront names name → (x : List ℕ) → GoesOn a.name x → x ≢ name
child_is_not names a name known free x (rest, on) same =
    goes_on_not names a.name name free (own_is_in names a known) (rest, sym same ∙ on)

across : (names : List (List ℕ)) (a b : Admission) → Known names a → Known names b → AllAcross Differs (pipeline_run_name a) (pipeline_run_name b) → AllAcross Differs (standalone_name a) (standalone_name b) → AllAcross Differs (task_run_names a) (task_run_names b)
across names (Run a) (Run b) known_a known_b runs standalone = λ k d within i e inside.
    let differ = All-head (Differs a.name) b.name [] (All-head (λ z. All (Differs z) (b.name ∷ [])) a.name [] runs) in
    children_apart names a b known_a known_b differ _ _ (children_go_on a known_a.whole k d within) (children_go_on b known_b.whole i e inside)
across names (Run a) (Task b) known_a known_b runs standalone = λ k d within.
    let child = get_or (task_run_names (Run a)) k d in
    All-cons (Differs child) b.name [] (child_is_not names a b.name known_a known_b.no_front child (children_go_on a known_a.whole k d within)) (All-nil (Differs child))
across names (Task a) (Run b) known_a known_b runs standalone =
    All-cons (λ z. All (Differs z) (task_run_names (Run b))) a.name []
    (λ i e inside same. child_is_not names b a.name known_b known_a.no_front (get_or (task_run_names (Run b)) i e) (children_go_on b known_b.whole i e inside) (sym same))
    (All-nil (λ z. All (Differs z) (task_run_names (Run b))))
across names (Task a) (Task b) known_a known_b runs standalone = standalone

-- ---- all runs
known_each : (runs : List Taken) → AreApart runs → All (λ (run : Taken). Known (pipeline_run_names runs) run.spec) runs
known_each runs apart k d within =
    let names = pipeline_run_names runs in record {
      whole = apart.whole k d within;
      own = all_pieces (λ name. is_in names name ≡ true) (λ (run : Taken). pipeline_run_name run.spec) runs (λ i e inside. found_there names i e (get_or names i e) inside refl) k d within;
      no_front = apart.no_fronts k d within;
    }

all_differ : (runs : List Taken) → All IsTaken runs → AreApart runs → Differ (all_names runs)
all_differ runs taken apart =
    pairs_joined Differs (λ (run : Taken). task_run_names run.spec) runs
    (λ k d within. own_differ (get_or runs k d).spec (taken k d within).sound (apart.whole k d within))
    (λ i j d less within.
    across (pipeline_run_names runs) (get_or runs i d).spec (get_or runs j d).spec
    (known_each runs apart i d (omega arith))
    (known_each runs apart j d within)
    (pairs_pieces Differs (λ (run : Taken). pipeline_run_name run.spec) runs apart.pipeline_runs_differ i j d less within)
    (pairs_pieces Differs (λ (run : Taken). standalone_name run.spec) runs apart.standalone_differ i j d less within))

-- no name stands twice
pub no_clash : (runs : List Taken) → All IsTaken runs → AreApart runs → names_finding runs ≡ None
no_clash runs taken apart =
    ap (option_map (clash_of (owners runs))) ((clash-none_is (all_names runs)).1 (λ i j less within. all_differ runs taken apart i j [] less within))

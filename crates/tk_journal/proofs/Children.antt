-- The TaskRun under a child's name is that child: all names that are compared differ.
use Rattle.std.proofs.Common.{◌≡◌, ℕ, zero, suc, ◌<◌, ◌+◌, List, [], ◌∷◌, ◌++◌, length, map, Option, Some, None, sym, ◌∙◌, ap, subst, arith, inl, inr, Contains, AllPairs, get_or, length-append}
use Rattle.std.specs.Prelude.{slice_get, option_map, unwrap_or, flat_map}
use Rattle.std.specs.List.{range_with_len}
use Rattle.std.specs.Option.{option_map_or}
use Rattle.std.proofs.lemmas.Bool.{cases_lt}
use Rattle.std.proofs.lemmas.Option.{same_Some, slice_get_cases, slice_get_within, get_or_from_slice_get}
use Rattle.tk_types.specs.declared.task.Matrix.{Matrix}
use Rattle.tk_types.specs.declared.task.PipelineTask.{PipelineTask}
use Rattle.tk_types.specs.declared.run.RunSpec.{RunSpec}
use Rattle.tk_types.specs.Behaviour.{tasks_of}
use Rattle.tk_types.specs.Limits.{most_combinations}
use Rattle.tk_names.specs.Children.{child_name, child_names}
use Rattle.tk_verdict.proofs.GoodStays.{task_in}
use Rattle.tk_journal.specs.declared.act.Admission.TheVariants as admissions
use Rattle.tk_journal.specs.declared.act.Act.{Act}
use Rattle.tk_journal.specs.declared.act.Act.TheVariants as acts
use Rattle.tk_journal.specs.declared.entry.Entry.{Entry}
use Rattle.tk_journal.specs.declared.object.RunState.{RunState}
use Rattle.tk_journal.specs.declared.object.Scheduled.{Scheduled}
use Rattle.tk_journal.specs.Names.{child_name_of, name_of_child, possible_count, possible_of, task_at, task_names, task_run_names}
use Rattle.tk_early.specs.Possible.{settled_count}
use Rattle.tk_journal.specs.Legal.{IsLegal, all_compared, compared_names}
use Rattle.tk_journal.specs.Right.{AreOwnChildren, LastingRun, facts_at}
use Rattle.tk_journal.proofs.Apart.{AdmitsRun, Differ, WasAdmittedRun, all_run_compared, children_apart, compared_apart, pairs_across, pairs_left, run_compared, run_was_admitted}
use Rattle.tk_journal.proofs.Induction.{lasting}
use Rattle.tk_journal.proofs.Possible.{flat_has, name_among, within_possible}

-- pairs of lists

pub pairs_right : {X : Type 0} (R : X → X → Type 0) (xs ys : List X) → AllPairs R (xs ++ ys) → AllPairs R ys
pairs_right R [] ys pairs = pairs
pairs_right R (x ∷ xs) ys pairs = pairs_right R xs ys (λ i j d less below. pairs (suc i) (suc j) d (omega arith) (omega arith))

pairs_get : {X : Type 0} (R : X → X → Type 0) (xs : List X) → AllPairs R xs → (i j : ℕ) (a b : X) → i < j → slice_get xs i ≡ Some a → slice_get xs j ≡ Some b → R a b
pairs_get R xs pairs i j a b less at_a at_b =
    subst (λ x. R x b) (get_or_from_slice_get xs i a a at_a)
    (subst (R (get_or xs i a)) (get_or_from_slice_get xs j b a at_b) (pairs i j a less (slice_get_within xs j b at_b)))

pairs_flat : {X Y : Type 0} (R : Y → Y → Type 0) (f : X → List Y) (xs : List X) → AllPairs R (flat_map f xs) → (i j : ℕ) (x y : X) (a b : Y) → i < j → slice_get xs i ≡ Some x → slice_get xs j ≡ Some y → Contains (f x) a → Contains (f y) b → R a b
pairs_flat R f [] pairs i j x y a b less at_x at_y has_a has_b = cc
pairs_flat R f (z ∷ zs) pairs i zero x y a b less at_x at_y has_a has_b = absurd (omega (arith, less))
pairs_flat R f (z ∷ zs) pairs zero (suc j) x y a b less at_x at_y has_a has_b =
    pairs_across R (f z) (flat_map f zs) a b pairs (subst (λ w. Contains (f w) a) (sym (same_Some z x at_x)) has_a) (flat_has f zs y b (task_in zs j y at_y) has_b)
pairs_flat R f (z ∷ zs) pairs (suc i) (suc j) x y a b less at_x at_y has_a has_b =
    pairs_flat R f zs (pairs_right R (f z) (flat_map f zs) pairs) i j x y a b (omega (arith, less)) at_x at_y has_a has_b

pairs_inside : {X Y : Type 0} (R : Y → Y → Type 0) (f : X → List Y) (xs : List X) → AllPairs R (flat_map f xs) → (i : ℕ) (x : X) → slice_get xs i ≡ Some x → AllPairs R (f x)
pairs_inside R f [] pairs i x at = cc
pairs_inside R f (z ∷ zs) pairs zero x at = subst (λ w. AllPairs R (f w)) (same_Some z x at) (pairs_left R (f z) (flat_map f zs) pairs)
pairs_inside R f (z ∷ zs) pairs (suc i) x at = pairs_inside R f zs (pairs_right R (f z) (flat_map f zs) pairs) i x at

-- names of one task

named_from : {Y : Type 0} (g : ℕ → Y) (first n i : ℕ) → i < n → slice_get (map g (range_with_len first n)) i ≡ Some (g (first + i))
named_from g first zero i below = absurd (omega (arith, below))
named_from g first (suc n) zero below = let same : first ≡ first + 0 = omega arith in ap (λ k. Some (g k)) same
named_from g first (suc n) (suc i) below =
    let same : first + 1 + i ≡ first + suc i = omega arith in
    named_from g (first + 1) n i (omega (arith, below)) ∙ ap (λ k. Some (g k)) same

named_at : {Y : Type 0} (g : ℕ → Y) (n i : ℕ) → i < n → slice_get (map g (range_with_len 0 n)) i ≡ Some (g i)
named_at g n i below = let same : 0 + i ≡ i = omega arith in named_from g 0 n i below ∙ ap (λ k. Some (g k)) same

same_index : (run name : List ℕ) (count : Matrix → ℕ) (matrix : Option Matrix) (i j : ℕ) → AllPairs Differ (child_names run name (option_map count matrix))
    → i < unwrap_or (option_map count matrix) 1 → j < unwrap_or (option_map count matrix) 1
    → child_name run name (option_map (λ (m : Matrix). i) matrix) ≡ child_name run name (option_map (λ (m : Matrix). j) matrix) → i ≡ j
same_index run name count None i j pairs few_i few_j same = omega (arith, few_i, few_j)
same_index run name count (Some m) i j pairs few_i few_j same = elim (cases_lt i j) [
  | inl less ↦ absurd (pairs_get Differ (map g (range_with_len 0 (count m))) pairs i j (g i) (g j) less (named_at g (count m) i few_i) (named_at g (count m) j few_j) same)
  | inr more ↦ elim (cases_lt j i) [
    | inl less ↦ absurd (pairs_get Differ (map g (range_with_len 0 (count m))) pairs j i (g j) (g i) less (named_at g (count m) j few_j) (named_at g (count m) i few_i) (sym same))
    | inr other ↦ omega (arith, more, other)
  ]
]
  where
    g : ℕ → List ℕ
    g k = child_name run name (Some k)

-- names of one run

module _ (spec : RunSpec) (pairs : AllPairs Differ (task_run_names (admissions.Run spec))) where
  name_has : (task : PipelineTask) (index : ℕ) → index < possible_of spec task → Contains (task_names spec task) (name_of_child spec index task)
  name_has task index few = name_among spec.name task.name (λ (m : Matrix). unwrap_or (settled_count spec task) most_combinations) task.matrix index few

  of_one : (place index other : ℕ) (task : PipelineTask) → task_at spec place ≡ Some task → index < possible_of spec task → other < possible_of spec task → name_of_child spec index task ≡ name_of_child spec other task → index ≡ other
  of_one place index other task at few few_other same =
      same_index spec.name task.name (λ (m : Matrix). unwrap_or (settled_count spec task) most_combinations) task.matrix index other
      (pairs_inside Differ (task_names spec) (tasks_of spec) pairs place task at) few few_other same

  of_two : (p q i j : ℕ) (t u : PipelineTask) → task_at spec p ≡ Some t → task_at spec q ≡ Some u → i < possible_of spec t → j < possible_of spec u → name_of_child spec i t ≡ name_of_child spec j u → (p ≡ q) × (i ≡ j)
  of_two p q i j t u at_p at_q few_i few_j same = elim (cases_lt p q) [
    | inl less ↦ absurd (pairs_flat Differ (task_names spec) (tasks_of spec) pairs p q t u (name_of_child spec i t) (name_of_child spec j u) less at_p at_q (name_has t i few_i) (name_has u j few_j) same)
    | inr more ↦ elim (cases_lt q p) [
      | inl less ↦ absurd (pairs_flat Differ (task_names spec) (tasks_of spec) pairs q p u t (name_of_child spec j u) (name_of_child spec i t) less at_q at_p (name_has u j few_j) (name_has t i few_i) (sym same))
      | inr other ↦
          let here : p ≡ q = omega (arith, more, other) in
          let task : t ≡ u = same_Some t u (sym at_p ∙ (ap (task_at spec) here ∙ at_q)) in
          (here, of_one q i j u at_q (subst (λ (x : PipelineTask). i < possible_of spec x) task few_i) few_j (subst (λ (x : PipelineTask). name_of_child spec i x ≡ name_of_child spec j u) task same))
    ]
  ]

  pub same_place : (p q i j : ℕ) → p < length (tasks_of spec) → q < length (tasks_of spec) → i < possible_count spec p → j < possible_count spec q → child_name_of spec p i ≡ child_name_of spec q j → (p ≡ q) × (i ≡ j)
  same_place p q i j in_p in_q few_i few_j same = elim (slice_get_cases (tasks_of spec) p).1 [
    | inl t ↦ elim (slice_get_cases (tasks_of spec) q).1 [
      | inl u ↦
          of_two p q i j t.0 u.0 t.2 u.2 (subst (λ (o : Option PipelineTask). i < option_map_or (possible_of spec) o 0) t.2 few_i)
          (subst (λ (o : Option PipelineTask). j < option_map_or (possible_of spec) o 0) u.2 few_j)
          (ap (λ (o : Option PipelineTask). option_map_or (name_of_child spec i) o []) (sym t.2) ∙ (same ∙ ap (λ (o : Option PipelineTask). option_map_or (name_of_child spec j) o []) u.2))
      | inr past ↦ absurd (omega (arith, past.0, in_q))
    ]
    | inr past ↦ absurd (omega (arith, past.0, in_p))
  ]

-- names of all runs

run_pairs : (act : Act) (spec : RunSpec) → AdmitsRun act spec → AllPairs Differ (compared_names act) → AllPairs Differ (task_run_names (admissions.Run spec))
run_pairs (acts.Admit name (admissions.Run admitted) pending asked root) spec same pairs = subst (λ (s : RunSpec). AllPairs Differ (task_run_names (admissions.Run s))) same pairs
run_pairs (acts.Admit name (admissions.Task admitted) pending asked root) spec same pairs = absurd same
run_pairs _ spec same pairs = absurd same

same_spec : (act : Act) (a b : RunSpec) → AdmitsRun act a → AdmitsRun act b → a ≡ b
same_spec (acts.Admit name (admissions.Run admitted) pending asked root) a b is_a is_b = sym is_a ∙ is_b
same_spec (acts.Admit name (admissions.Task admitted) pending asked root) a b is_a is_b = absurd is_a
same_spec _ a b is_a is_b = absurd is_a

-- a child that admission counts
pub record IsCounted (spec : RunSpec) (task index : ℕ) : Type 0 where
  pub within : task < length (tasks_of spec)
  pub few : index < possible_count spec task

abbrev AreSame : RunSpec → RunSpec → ℕ → ℕ → ℕ → ℕ → Type 0
AreSame a b p q i j = (a ≡ b) × (p ≡ q) × (i ≡ j)

same_child : (history : List Entry) → AllPairs Differ (all_compared history) → (a b : RunSpec) (p q i j : ℕ) → WasAdmittedRun history a → WasAdmittedRun history b → IsCounted a p i → IsCounted b q j → child_name_of a p i ≡ child_name_of b q j → AreSame a b p q i j
same_child [] pairs a b p q i j was_a was_b counted_a counted_b same = absurd was_a
same_child (e ∷ older) pairs a b p q i j was_a was_b counted_a counted_b same = elim was_a [
  | inl here ↦ elim was_b [
    | inl also ↦
        let spec : b ≡ a = same_spec e.act b a also here in
        let own : IsCounted a q j = subst (λ (s : RunSpec). IsCounted s q j) spec counted_b in
        let name : child_name_of a p i ≡ child_name_of a q j = same ∙ ap (λ (s : RunSpec). child_name_of s q j) spec in
        let found = same_place a (run_pairs e.act a here (pairs_right Differ (all_compared older) (compared_names e.act) pairs)) p q i j counted_a.within own.within counted_a.few own.few name in
        (sym spec, found.0, found.1)
    | inr before ↦ absurd (pairs_across Differ (all_compared older) (compared_names e.act) (child_name_of b q j) (child_name_of a p i) pairs (all_run_compared older b q j before counted_b.within counted_b.few) (run_compared e.act a p i here counted_a.within counted_a.few) (sym same))
  ]
  | inr before ↦ elim was_b [
    | inl here ↦ absurd (pairs_across Differ (all_compared older) (compared_names e.act) (child_name_of a p i) (child_name_of b q j) pairs (all_run_compared older a p i before counted_a.within counted_a.few) (run_compared e.act b q j here counted_b.within counted_b.few) same)
    | inr also ↦ same_child older (pairs_left Differ (all_compared older) (compared_names e.act) pairs) a b p q i j before also counted_a counted_b same
  ]
]

counted : (history : List Entry) (name : List ℕ) (run : RunState) → LastingRun history name run → (part : Scheduled) → Contains run.scheduled part → (index : ℕ) → index < length part.bindings → IsCounted run.spec part.task index
counted history name run last part has index below =
    let few = within_possible (facts_at history run) part.task part.bindings (last.given part has) in
    record { within = omega (arith, (last.exist part has).1, length-append run.spec.tasks run.spec.finally); few = omega (arith, below, few) }

pub own_children : (history : List Entry) → IsLegal history → AreOwnChildren history
own_children history legal name run there part has index below task_run at =
    let last = lasting history legal in
    let own = last.runs name run there in
    let child = children_apart history legal name run there part has index below task_run at in
    let its = (last.task_runs (child_name_of run.spec part.task index) task_run at).child child.0 child.1 in
    let owner = last.runs child.0 its.it its.is in
    let within = slice_get_within its.has.part.bindings task_run.index task_run.binding its.has.at in
    let counted_its = subst (λ (t : ℕ). IsCounted its.it.spec t task_run.index) its.has.of_task (counted history child.0 its.it owner its.has.part its.has.scheduled task_run.index within) in
    let same = same_child history (compared_apart history legal) run.spec its.it.spec part.task task_run.task index task_run.index (run_was_admitted history legal name run there) (run_was_admitted history legal child.0 its.it its.is)
    (counted history name run own part has index below) counted_its its.has.named in
    let names : name ≡ child.0 = sym own.named ∙ (ap (λ (s : RunSpec). s.name) same.0 ∙ owner.named) in
    (child.1 ∙ ap Some (sym names), sym same.1, sym same.2)

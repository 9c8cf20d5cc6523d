-- The labels of a run's tasks as one list.
use Rattle.std.proofs.Common.{◌≡◌, ◌≢◌, ℕ, zero, suc, ◌+◌, ◌-◌, ◌<◌, ◌≤◌, List, [], ◌∷◌, ◌++◌, length, get_or, map, take, drop, Option, Some, None, Bool, true, refl, sym, ◌∙◌, ap, subst, inl, inr, arith, Contains}
use Rattle.std.specs.Prelude.{◌&&◌, ◌||◌}
use Rattle.std.specs.List.{list_any, range_with_len}
use Rattle.std.proofs.lemmas.Bool.{cases_Bool, and_parts}
use Rattle.std.proofs.lemmas.Option.{same_Some}
use Rattle.std.proofs.lemmas.List.Elements.{Contains-get_or}
use Rattle.tk_types.specs.declared.run.Facts.{Facts}
use Rattle.tk_types.specs.declared.verdict.Verdict.{Verdict}
use Rattle.tk_types.specs.declared.verdict.Verdict.TheVariants as labels
use Rattle.tk_verdict.specs.Facts.{task_total}
use Rattle.tk_verdict.specs.Gives.{label_of}
use Rattle.tk_verdict.specs.Labels.{labels_of}
use Rattle.tk_verdict.specs.Verdict.{is_ready}
use Rattle.tk_verdict.proofs.Lines.{labels_length}
use Rattle.tk_journal.specs.RunRows.{skips_from, skips_of, skip_of}
use Rattle.tk_runrec.specs.Labels.{skips_in, first_ready}
use Rattle.tk_runrec.proofs.Meaning.{take_count, drop_count}

-- one label for each task

each_at : (f : ℕ → Verdict) (first : ℕ) (xs : List Verdict) → ((i : ℕ) → i < length xs → f (first + i) ≡ get_or xs i labels.Waits) → xs ≡ map f (range_with_len first (length xs))
each_at f first [] same = refl
each_at f first (x ∷ xs) same =
    let z : first + 0 ≡ first = omega arith in
    let here : f first ≡ x = ap f (sym z) ∙ same 0 (omega arith) in
    let rest = each_at f (first + 1) xs (λ i below. let e : first + 1 + i ≡ first + suc i = omega arith in ap f e ∙ same (suc i) (omega (arith, below))) in
    ap (λ (ys : List Verdict). x ∷ ys) rest ∙ ap (λ (y : Verdict). y ∷ map f (range_with_len (first + 1) (length xs))) (sym here)

pub labels_are : (facts : Facts) → labels_of facts ≡ map (label_of facts) (range_with_len 0 (task_total facts))
labels_are facts =
    each_at (label_of facts) 0 (labels_of facts) (λ i below. let z : 0 + i ≡ i = omega arith in ap (label_of facts) z)
    ∙ ap (λ (n : ℕ). map (label_of facts) (range_with_len 0 n)) (labels_length facts)

-- each task's label is among them
pub label_in : (facts : Facts) (task : ℕ) → task < task_total facts → Contains (labels_of facts) (label_of facts task)
label_in facts task below = Contains-get_or (labels_of facts) task labels.Waits (subst (λ (n : ℕ). task < n) (sym (labels_length facts)) below)

-- those of `tasks`, and those of `finally`
pub first_part : (facts : Facts) → take (length facts.spec.tasks) (labels_of facts) ≡ map (label_of facts) (range_with_len 0 (length facts.spec.tasks))
first_part facts = ap (take (length facts.spec.tasks)) (labels_are facts) ∙ take_count (label_of facts) 0 (length facts.spec.tasks) (length facts.spec.finally)

pub last_part : (facts : Facts) → drop (length facts.spec.tasks) (labels_of facts) ≡ map (label_of facts) (range_with_len (length facts.spec.tasks) (length facts.spec.finally))
last_part facts =
    let z : 0 + length facts.spec.tasks ≡ length facts.spec.tasks = omega arith in
    ap (drop (length facts.spec.tasks)) (labels_are facts) ∙ (rw z at (drop_count (label_of facts) 0 (length facts.spec.tasks) (length facts.spec.finally)))

skips_same_from : (facts : Facts) (first n : ℕ) → skips_in first (map (label_of facts) (range_with_len first n)) ≡ skips_from facts first n
skips_same_from facts first zero = refl
skips_same_from facts first (suc n) =
    let e : first + 1 ≡ suc first = omega arith in
    ap (λ rest. skip_of first (label_of facts first) ++ rest) (ap (λ (k : ℕ). skips_in (suc first) (map (label_of facts) (range_with_len k n))) e ∙ skips_same_from facts (suc first) n)

-- the skipped tasks, read off the labels
pub skips_same : (facts : Facts) → skips_in 0 (labels_of facts) ≡ skips_of facts
skips_same facts = ap (skips_in 0) (labels_are facts) ∙ skips_same_from facts 0 (task_total facts)

pub ready_is : (label : Verdict) → is_ready label ≡ true → label ≡ labels.Ready
ready_is labels.Ready is = refl
ready_is label is = absurd (cc (is))

-- a task that was found
pub record IsFoundReady (label : ℕ → Verdict) (may : ℕ → Bool) (first n task : ℕ) : Type 0 where
  pub ready : label task ≡ labels.Ready
  pub may_go : may task ≡ true
  pub from : first ≤ task
  pub below : task < first + n

pub ready_from : (label : ℕ → Verdict) (may : ℕ → Bool) (first n task : ℕ) → first_ready may first (map label (range_with_len first n)) ≡ Some task → IsFoundReady label may first n task
ready_from label may first zero task is = absurd (cc (is))
ready_from label may first (suc n) task is = elim (cases_Bool (is_ready (label first) && may first)) [
  | inl hit ↦
      let now : Some first ≡ Some task = rw hit at is in
      let same = same_Some first task now in
      let parts = and_parts (is_ready (label first)) (may first) hit in
      record {
        ready = subst (λ (t : ℕ). label t ≡ labels.Ready) same (ready_is (label first) parts.0);
        may_go = subst (λ (t : ℕ). may t ≡ true) same parts.1;
        from = omega (arith, same);
        below = omega (arith, same);
      }
  | inr miss ↦
      let e : first + 1 ≡ suc first = omega arith in
      let later : first_ready may (suc first) (map label (range_with_len (first + 1) n)) ≡ Some task = rw miss at is in
      let rest = ready_from label may (suc first) n task (subst (λ (k : ℕ). first_ready may (suc first) (map label (range_with_len k n)) ≡ Some task) e later) in
      let from = rest.from in
      let below = rest.below in
      record { ready = rest.ready; may_go = rest.may_go; from = omega (arith, from); below = omega (arith, below) }
]

-- of the labels of facts
pub ready_found : (facts : Facts) (may : ℕ → Bool) (task : ℕ) → first_ready may 0 (labels_of facts) ≡ Some task → IsFoundReady (label_of facts) may 0 (task_total facts) task
ready_found facts may task is = ready_from (label_of facts) may 0 (task_total facts) task (subst (λ (l : List Verdict). first_ready may 0 l ≡ Some task) (labels_are facts) is)

-- the tasks from one on
pub any_next : (test : ℕ → Bool) (task count : ℕ) → task < count → list_any test (range_with_len task (count - task)) ≡ (test task || list_any test (range_with_len (task + 1) (count - (task + 1))))
any_next test task count below = let e : count - task ≡ suc (count - (task + 1)) = omega arith in rw e refl

-- no task is Ready
pub none_ready : (facts : Facts) (may : ℕ → Bool) → ((task : ℕ) → label_of facts task ≢ labels.Ready) → first_ready may 0 (labels_of facts) ≡ None
none_ready facts may none = by (first_ready may 0 (labels_of facts)) refl
  where
    by : (o : Option ℕ) → first_ready may 0 (labels_of facts) ≡ o → first_ready may 0 (labels_of facts) ≡ None
    by None is = is
    by (Some task) is = absurd (none task (ready_found facts may task is).ready)

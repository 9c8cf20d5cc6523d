-- What a change of one task's children leaves as it was.
use Rattle.std.proofs.Common.{◌≡◌, ◌≢◌, ℕ, zero, suc, ◌+◌, Bool, true, false, cond, List, [], ◌∷◌, ◌++◌, length, map, Option, None, refl, sym, ap, ◌∙◌, inl, inr, arith, nat_eq}
use Rattle.std.specs.Prelude.{◌⊎◌, ◌||◌, Contains, slice_get}
use Rattle.std.specs.List.{list_any, range_with_len}
use Rattle.std.proofs.lemmas.Bool.{cases_Bool}
use Rattle.std.proofs.lemmas.List.{append-nil}
use Rattle.std.proofs.lemmas.List.Elements.{filter-append}
use Rattle.tk_types.specs.declared.task.PipelineTask.{PipelineTask}
use Rattle.tk_types.specs.declared.run.Child.{Child}
use Rattle.tk_types.specs.declared.run.Facts.{Facts}
use Rattle.tk_types.specs.declared.run.Outcome.{Outcome}
use Rattle.tk_types.specs.declared.verdict.Verdict.{Verdict}
use Rattle.tk_verdict.specs.Facts.{all_tasks, all_ended, children_at, is_good, is_running}
use Rattle.tk_verdict.specs.Labels.{labels_of}
use Rattle.tk_verdict.specs.WellFormed.{IsWellFormed}
use Rattle.tk_labels.specs.Change.{child_at, children_with, once_ended}
use Rattle.tk_labels.specs.Kept.{of_run, MayHave}
use Rattle.tk_labels.specs.Reached.{WasKept}
use Rattle.tk_labels.proofs.Changes.{ended_task, nat_differ, nat_is, nat_same, other_stays}
use Rattle.tk_labels.proofs.SameFaces.{none_passes, running_not_good}
use Rattle.tk_labels.proofs.WithStop.{bare_not_good}

-- an element in a filtered list

left_out : {X : Type 0} (b : Bool) (x y : X) (xs ys : List X) → b ≡ false → xs ≡ ys → cond b (x ∷ xs) xs ≡ cond b (y ∷ ys) ys
left_out true x y xs ys miss same = cc
left_out false x y xs ys miss same = same

-- the children of the other tasks, once one of a task ended
others_ended : (t k : ℕ) (o : Outcome) (q : ℕ) (cs : List Child) → q ≢ t → children_at (map (once_ended t k o) cs) q ≡ children_at cs q
others_ended t k o q [] other = refl
others_ended t k o q (c ∷ cs) other = at_head (cases_Bool (nat_eq c.task q)) (others_ended t k o q cs other)
  where
    at_head : (nat_eq c.task q ≡ true) ⊎ (nat_eq c.task q ≡ false) → children_at (map (once_ended t k o) cs) q ≡ children_at cs q
        → children_at (map (once_ended t k o) (c ∷ cs)) q ≡ children_at (c ∷ cs) q
    at_head (inl pos) rest =
        let stays : once_ended t k o c ≡ c = other_stays t k o c (λ task index. other (sym (nat_is c.task q pos) ∙ task)) in
        λ i. cond (nat_eq (stays i).task q) (stays i ∷ rest i) (rest i)
    at_head (inr neg) rest =
        ap (λ (n : ℕ). cond (nat_eq n q) (once_ended t k o c ∷ children_at (map (once_ended t k o) cs) q) (children_at (map (once_ended t k o) cs) q)) (ended_task t k o c)
        ∙ left_out (nat_eq c.task q) (once_ended t k o c) c (children_at (map (once_ended t k o) cs) q) (children_at cs q) neg rest

-- and once a task got some
none_new : (t : ℕ) (os : List (Option Outcome)) (q a m : ℕ) → q ≢ t → children_at (map (child_at t os) (range_with_len a m)) q ≡ []
none_new t os q a zero other = refl
none_new t os q a (suc m) other = rw (nat_differ t q (λ same. other (sym same))) (none_new t os q (a + 1) m other)

pub others_given : (t : ℕ) (os : List (Option Outcome)) (q : ℕ) (cs : List Child) → q ≢ t → children_at (cs ++ children_with t os) q ≡ children_at cs q
others_given t os q cs other =
    filter-append (λ (c : Child). nat_eq c.task q) cs (children_with t os)
    ∙ (ap (λ (ds : List Child). children_at cs q ++ ds) (none_new t os q 0 (length os) other) ∙ append-nil (children_at cs q))

-- a task with a child that runs isn't good

or_true : (b : Bool) → (b || true) ≡ true
or_true true = refl
or_true false = refl

runs_among : (t k : ℕ) (cs : List Child) → Contains cs (record { task = t; index = k; outcome = None }) → list_any is_running (children_at cs t) ≡ true
runs_among t k [] c = absurd (omega (arith, c.1))
runs_among t k (d ∷ cs) (zero, lt, is) =
    let here : nat_eq d.task t ≡ true = nat_same d.task t (ap (λ (e : Child). e.task) is) in
    let running : is_running d ≡ true = ap is_running is in
    rw here (by_running running)
  where
    by_running : is_running d ≡ true → list_any is_running (d ∷ children_at cs t) ≡ true
    by_running running = rw running refl
runs_among t k (d ∷ cs) (suc n, lt, is) = behind (nat_eq d.task t) (runs_among t k cs (n, omega (arith, lt), is))
  where
    behind : (b : Bool) → list_any is_running (children_at cs t) ≡ true → list_any is_running (cond b (d ∷ children_at cs t) (children_at cs t)) ≡ true
    behind true rest = rw rest (or_true (is_running d))
    behind false rest = rest

module _ (facts : Facts) (formed : IsWellFormed facts) (labels : List Verdict) (is : labels ≡ labels_of facts) where
  pub end_kept : (t k : ℕ) (o : Outcome) → Contains facts.children (record { task = t; index = k; outcome = None })
      → WasKept facts (of_run facts (map (once_ended t k o) facts.children)) t labels
  end_kept t k o c =
      record {
        formed = formed;
        labelled = is;
        spec = refl;
        stop = refl;
        others = λ q other. others_ended t k o q facts.children other;
        bad = none_passes (λ (task : PipelineTask). all_ended (is_good task) (children_at facts.children t)) (slice_get (all_tasks facts) t)
            (λ task. running_not_good (is_good task) (children_at facts.children t) (runs_among t k facts.children c));
      }

  pub given_kept : (t : ℕ) (os : List (Option Outcome)) → MayHave facts t (length os) → WasKept facts (of_run facts (facts.children ++ children_with t os)) t labels
  given_kept t os may =
      record {
        formed = formed;
        labelled = is;
        spec = refl;
        stop = refl;
        others = λ q other. others_given t os q facts.children other;
        bad = bare_not_good facts t may.none;
      }

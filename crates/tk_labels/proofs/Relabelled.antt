-- Right labels of `tasks`, of which not all are done, with those of `finally` behind them, which wait.
use Rattle.std.proofs.Common.{◌≡◌, ℕ, zero, suc, ◌+◌, ◌-◌, ◌<◌, ◌≤◌, true, false, List, [], ◌∷◌, ◌++◌, length, get_or, take, refl, sym, ap, ◌∙◌, arith, inl, inr, nat_eq, length-append, rules}
use Rattle.std.specs.Prelude.{◌⊎◌, nat_le, replicate}
use Rattle.std.specs.List.{list_all, list_any}
use Rattle.std.proofs.lemmas.Bool.{cases_Bool, cases_lt, or_parts}
use Rattle.std.proofs.lemmas.List.{get_or-append_right, get_or_append_left}
use Rattle.std.proofs.Math.Seq.{take-append_seam}
use Rattle.tk_types.specs.declared.run.Child.{Child}
use Rattle.tk_types.specs.declared.run.Facts.{Facts}
use Rattle.tk_types.specs.declared.verdict.Verdict.{Verdict}
use Rattle.tk_types.specs.declared.verdict.Verdict.TheVariants.{Waits}
use Rattle.tk_verdict.specs.Facts.{children_at}
use Rattle.tk_verdict.specs.Labels.{verdict_line, IsRight}
use Rattle.tk_verdict.specs.Verdict.{is_done, label_at}
use Rattle.tk_verdict.proofs.Locality.{parents_within, task_line_agrees}
use Rattle.tk_labels.proofs.Changes.{nat_is}
use Rattle.tk_labels.proofs.LineCases.{early_line}

waits_at : (m k : ℕ) → get_or (replicate m Waits) k Waits ≡ Waits
waits_at zero k = refl
waits_at (suc m) zero = refl
waits_at (suc m) (suc k) = waits_at m k

waits_count : (m : ℕ) → length (replicate m Waits) ≡ m
waits_count zero = refl
waits_count (suc m) = ap suc (waits_count m)

waits_behind : (m : ℕ) → replicate m Waits ++ Waits ∷ [] ≡ replicate (suc m) Waits
waits_behind zero = refl
waits_behind (suc m) = ap (λ ls. Waits ∷ ls) (waits_behind m)

pub waits_more : (m : ℕ) → replicate m Waits ++ Waits ∷ [] ≡ replicate (m + 1) Waits
waits_more m = let next : suc m ≡ m + 1 = omega arith in waits_behind m ∙ ap (λ n. replicate n Waits) next

not_late : (n m : ℕ) → nat_le n m ≡ false → n ≤ m → ⊥
not_late n m low late = let high : nat_le n m ≡ true = search rules in cc

-- where no child is of a task from a place on, none is of those behind it
none_late : (n p : ℕ) (cs : List Child) → n ≤ p → list_any (λ (c : Child). nat_le n c.task) cs ≡ false → children_at cs p ≡ []
none_late n p [] le none = refl
none_late n p (c ∷ cs) le none =
    at_head (or_parts (nat_le n c.task) (list_any (λ (c : Child). nat_le n c.task) cs) none).0 (cases_Bool (nat_eq c.task p))
    (none_late n p cs le (or_parts (nat_le n c.task) (list_any (λ (c : Child). nat_le n c.task) cs) none).1)
  where
    at_head : nat_le n c.task ≡ false → (nat_eq c.task p ≡ true) ⊎ (nat_eq c.task p ≡ false) → children_at cs p ≡ [] → children_at (c ∷ cs) p ≡ []
    at_head low (inl pos) rest = let same = nat_is c.task p pos in absurd (not_late n c.task low (omega (arith, same, le)))
    at_head low (inr neg) rest = rw neg rest

pub early_right : (facts : Facts) (labels : List Verdict) → length labels ≡ length facts.spec.tasks
    → ((place : ℕ) → place < length facts.spec.tasks → label_at labels place ≡ verdict_line facts labels place)
    → list_any (λ (c : Child). nat_le (length facts.spec.tasks) c.task) facts.children ≡ false → list_all is_done labels ≡ false
    → IsRight facts (labels ++ replicate (length facts.spec.finally) Waits)
early_right facts labels long right none undone =
    let n = length facts.spec.tasks in
    let ws = replicate (length facts.spec.finally) Waits in
    record {
      count = length-append labels ws ∙ (λ i. long i + waits_count (length facts.spec.finally) i);
      each = λ place lt.
          elim (cases_lt place n) [
            | inl within ↦
                get_or_append_left labels ws Waits place (omega (arith, within, long))
                ∙ (right place within
                ∙ task_line_agrees facts labels (labels ++ ws) place within
                (λ p c. sym (get_or_append_left labels ws Waits p (let w = parents_within facts.spec.tasks place p c in omega (arith, w, long)))))
            | inr past ↦
                get_or-append_right labels ws n place Waits long past
                ∙ (waits_at (length facts.spec.finally) (place - n)
                ∙ sym (early_line facts (labels ++ ws) place past lt (none_late n place facts.children past none)
                (ap (λ m. list_all is_done (take m (labels ++ ws))) (sym long) ∙ (ap (list_all is_done) (take-append_seam labels ws) ∙ undone))))
          ];
    }

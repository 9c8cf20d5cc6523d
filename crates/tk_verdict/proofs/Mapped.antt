-- Values of a function at the numbers from 0 on.
use Rattle.std.proofs.Common.{◌≡◌, ℕ, ◌≤◌, Bool, false, List, map, get_or, sym, ap, ◌∙◌, zero-add, arith, inl, inr}
use Rattle.std.specs.List.{range_with_len}
use Rattle.std.specs.Option.{option_map_or}
use Rattle.std.proofs.lemmas.Bool.{cases_lt}
use Rattle.std.proofs.lemmas.List.{get_or_past, length-append}
use Rattle.std.proofs.lemmas.List.FromFn.{length-map-range_with_len, get_or-map-range_with_len}
use Rattle.std.proofs.lemmas.Option.{slice_get_past}
use Rattle.tk_types.specs.declared.task.PipelineTask.{PipelineTask}
use Rattle.tk_types.specs.declared.run.Facts.{Facts}
use Rattle.tk_verdict.specs.Facts.{all_ended, all_tasks, children_of, is_good, task_total}
use Rattle.tk_verdict.specs.Good.{is_good_at, AreGood}

-- all tasks were asked
pub all_asked : (facts : Facts) (good : List Bool) (n : ℕ) → good ≡ map (is_good_at facts) (range_with_len 0 n) → task_total facts ≤ n → AreGood facts good
all_asked facts good n is all = λ place.
    elim (cases_lt place n) [
      | inl lt ↦ ap (λ gs. get_or gs place false) is ∙ get_or-map-range_with_len (is_good_at facts) 0 n place place false lt (zero-add place)
      | inr past ↦
          ap (λ gs. get_or gs place false) is
          ∙ (get_or_past (map (is_good_at facts) (range_with_len 0 n)) place false (rw (length-map-range_with_len (is_good_at facts) 0 n) past)
          ∙ sym (ap (λ o. option_map_or (λ (task : PipelineTask). all_ended (is_good task) (children_of facts place)) o false) (slice_get_past (all_tasks facts) place (omega (arith, length-append facts.spec.tasks facts.spec.finally)))))
    ]

-- Right labels of `tasks` with those of `finally` behind them are right.
use Rattle.std.proofs.Common.{◌≡◌, ℕ, zero, suc, ◌+◌, ◌-◌, ◌<◌, ◌≤◌, List, [], ◌∷◌, ◌++◌, map, length, get_or, take, refl, sym, ap, ◌∙◌, zero-add, arith, inl, inr}
use Rattle.std.specs.Prelude.{Option, slice_get}
use Rattle.std.specs.List.{range_with_len}
use Rattle.std.specs.Option.{option_map_or}
use Rattle.std.proofs.lemmas.Bool.{cases_lt}
use Rattle.std.proofs.lemmas.List.{get_or-append_right, length-append}
use Rattle.std.proofs.Math.Seq.{take-append_seam}
use Rattle.std.proofs.lemmas.List.FromFn.{length-map-range_with_len, get_or-map-range_with_len}
use Rattle.std.proofs.lemmas.Option.{slice_get_past}
use Rattle.tk_types.specs.declared.task.PipelineTask.{PipelineTask}
use Rattle.tk_types.specs.declared.run.Facts.{Facts}
use Rattle.tk_types.specs.declared.verdict.Verdict.{Verdict}
use Rattle.tk_types.specs.declared.verdict.Verdict.TheVariants.{Waits}
use Rattle.tk_verdict.specs.Gathered.{final_line}
use Rattle.tk_verdict.specs.Labels.{finally_line, labelled_parents, task_line, verdict_line, IsRight}
use Rattle.tk_verdict.specs.Verdict.{label_at}
use Rattle.tk_verdict.proofs.Locality.{parents_within, task_line_agrees}

front-at : {X : Type 0} (xs ys : List X) (i : ℕ) (d : X) → i < length xs → get_or (xs ++ ys) i d ≡ get_or xs i d
front-at [] ys i d lt = absurd (omega arith)
front-at (x ∷ xs) ys zero d lt = refl
front-at (x ∷ xs) ys (suc i) d lt = front-at xs ys i d (omega arith)

-- the line of a task of `finally`
last_line : (facts : Facts) (labels : List Verdict) (place : ℕ) → length facts.spec.tasks ≤ place
    → verdict_line facts labels place ≡ final_line facts (take (length facts.spec.tasks) labels) (place - length facts.spec.tasks)
last_line facts labels place le =
    let count = length facts.spec.tasks in
    let front = take count labels in
    let back = slice_get facts.spec.finally (place - count) in
    ap (λ (o : Option PipelineTask). option_map_or (task_line facts (labelled_parents facts labels place) place) o (option_map_or (finally_line facts front place) back Waits))
    (slice_get_past facts.spec.tasks place le)
    ∙ ap (λ (p : ℕ). option_map_or (finally_line facts front p) back Waits) (omega arith)

pub all_right : (facts : Facts) (labels last : List Verdict) → length labels ≡ length facts.spec.tasks
    → ((place : ℕ) → place < length facts.spec.tasks → label_at labels place ≡ verdict_line facts labels place)
    → last ≡ map (final_line facts labels) (range_with_len 0 (length facts.spec.finally)) → IsRight facts (labels ++ last)
all_right facts labels last long right is =
    let count = length facts.spec.tasks in
    let more : length last ≡ length facts.spec.finally = ap length is ∙ length-map-range_with_len (final_line facts labels) 0 (length facts.spec.finally) in
    record {
      count = length-append labels last ∙ (λ i. long i + more i);
      each = λ place lt.
          elim (cases_lt place count) [
            | inl within ↦
                front-at labels last place Waits (rw long within)
                ∙ (right place within
                ∙ task_line_agrees facts labels (labels ++ last) place within
                (λ p c. sym (front-at labels last p Waits (rw long (parents_within facts.spec.tasks place p c)))))
            | inr past ↦
                let k = place - count in
                let small : k < length facts.spec.finally = omega arith in
                get_or-append_right labels last count place Waits long past
                ∙ (ap (λ (ls : List Verdict). get_or ls k Waits) is
                ∙ (get_or-map-range_with_len (final_line facts labels) 0 (length facts.spec.finally) k k Waits small (zero-add k)
                ∙ (ap (λ (ls : List Verdict). final_line facts ls k) (sym (ap (λ n. take n (labels ++ last)) (sym long) ∙ take-append_seam labels last))
                ∙ sym (last_line facts (labels ++ last) place past))))
          ];
    }

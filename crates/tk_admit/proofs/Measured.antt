-- What is found of runs one after the other, and of one run by its size.
use Rattle.std.proofs.Common.{◌≡◌, ℕ, ◌+◌, ◌-◌, ◌^◌, ◌<◌, ◌≤◌, min, List, [], ◌∷◌, ◌++◌, length, take, get_or, sum_by, All, refl, sym, ap, ◌∙◌, subst, arith, Result, Ok, Err, Option, Some, Bool, true, false, bytes_eq, if◌then◌else◌}
use Rattle.std.specs.Prelude.{IsTrue, OnErr, OnOk}
use Rattle.std.proofs.lemmas.List.{length-append}
use Rattle.std.proofs.lemmas.List.Elements.{All-append, All-cons, All-head, All-nil, All-push, All-tail}
use Rattle.std.proofs.lemmas.List.Sums.{sum_by_push}
use Rattle.std.proofs.lemmas.Slice.Eq.{bytes_eq-Decides}
use Rattle.tk_types.specs.Behaviour.{tasks_of}
use Rattle.tk_types.specs.declared.object.Item.{Item}
use Rattle.tk_types.specs.declared.run.RunSpec.{RunSpec}
use Rattle.tk_types.specs.declared.task.PipelineTask.{PipelineTask}
use Rattle.tk_early.specs.Possible.{told_count}
use Rattle.tk_resolve.specs.Known.{IsSingle}
use Rattle.tk_journal.specs.declared.act.Admission.{Admission}
use Rattle.tk_journal.specs.declared.act.Admission.TheVariants.{Run}
use Rattle.tk_journal.specs.Weight.{run_weight}
use Rattle.tk_names.specs.Children.{whole_child_name}
use Rattle.tk_admit.specs.Apart.{HasWholeName, HasWholeNames}
use Rattle.tk_admit.specs.Measure.{HasShortName, HasSize, IsKnownSize, IsMeasureOf, IsTallied}
use Rattle.tk_admit.specs.Sound.{IsTaken}
use Rattle.tk_admit.specs.declared.measure.Measure.{Measure}
use Rattle.tk_admit.specs.declared.measure.RunSize.{RunSize}
use Rattle.tk_admit.specs.declared.objects.TakenRuns.{TakenRuns}
use Rattle.tk_admit.specs.declared.taken.Taken.{Taken}
use Rattle.tk_admit.proofs.RunSizes.{size_stays}
use Rattle.tk_admit.proofs.Steps.{all_step}
use Rattle.tk_admit.proofs.Told.{told_sum}

-- one run more
pub tallied_more : (runs new : TakenRuns) (run : Taken) (measure : Measure) → IsTallied runs → IsTaken run → IsMeasureOf run.spec measure → new.runs.items ≡ runs.runs.items ++ run ∷ []
    → new.weight ≡ min (runs.weight + measure.weight) (2 ^ 64 - 1) → (IsTrue new.whole → IsTrue runs.whole) → (IsTrue new.whole → IsTrue measure.whole) → IsTallied new
tallied_more runs new run measure before taken found added weight first second =
    let P : Taken → Type 0 = λ r. HasWholeNames r.spec in
    let f : Taken → ℕ = λ r. run_weight r.spec in
    record {
      taken = subst (All IsTaken) (sym added) (All-push IsTaken runs.runs.items run before.taken taken);
      weight =
          weight
          ∙ (told_sum (sum_by f runs.runs.items) (f run) runs.weight measure.weight before.weight found.weight
          ∙ (ap told_count (sym (sum_by_push f runs.runs.items run)) ∙ ap (λ (rs : List Taken). told_count (sum_by f rs)) (sym added)));
      whole = λ is. subst (All P) (sym added) (All-push P runs.runs.items run (before.whole (first is)) (found.whole (second is)));
    }

-- sizes that are known stay so once an object was added, or nothing was
pub added_size : {E : Type 0} (before now : List Item) (item : Item) (name : List ℕ) (size : RunSize) (result : Result (Unit {0}) E) → OnOk result (now ≡ before ++ item ∷ []) → OnErr result (now ≡ before)
    → IsKnownSize before name size → IsKnownSize now name size
added_size before now item name size (Ok done) added kept is = subst (λ (items : List Item). IsKnownSize items name size) (sym added) (size_stays before (item ∷ []) name size is)
added_size before now item name size (Err error) added kept is = subst (λ (items : List Item). IsKnownSize items name size) (sym kept) is

-- of what is found under a name once a size is kept under one
pub kept_size : (earlier : List Item) (key name : List ℕ) (size : RunSize) (old new : Option RunSize) → IsKnownSize earlier key size
    → ((x : RunSize) → old ≡ Some x → IsKnownSize earlier name x) → new ≡ (if bytes_eq key name then Some size else old) → (x : RunSize) → new ≡ Some x → IsKnownSize earlier name x
kept_size earlier key name size old new known others is x found = by (bytes_eq key name) refl (sym is ∙ found)
  where
    by : (b : Bool) → bytes_eq key name ≡ b → (if b then Some size else old) ≡ Some x → IsKnownSize earlier name x
    by true same e =
        let one : size ≡ x = cc in
        subst (λ (s : RunSize). IsKnownSize earlier name s) one
        (subst (λ (n : List ℕ). IsKnownSize earlier n size) ((bytes_eq-Decides key name).0 same) known)
    by false same e = others x e

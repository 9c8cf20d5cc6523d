-- What a cache that sees all says of what is open.
use Rattle.std.proofs.Common.{◌≡◌, ◌≤◌, ℕ, zero, suc, List, [], ◌∷◌, length, drop, Option, Some, None, Bool, true, false, refl, sym, ◌∙◌, ap, subst, arith, inl, inr}
use Rattle.std.specs.Prelude.{◌⊎◌, ◌+◌, ◌↔◌, ◌||◌, ◌&&◌, not, bytes_eq, slice_get, is_none, is_some}
use Rattle.std.specs.List.{list_any}
use Rattle.std.specs.Map.{keys_of}
use Rattle.std.specs.Cmp.Lexicographic.{bytes_decides}
use Rattle.std.proofs.lemmas.Bool.{cases_Bool}
use Rattle.std.proofs.lemmas.Option.{same_Some}
use Rattle.tk_journal.specs.declared.entry.Entry.{Entry}
use Rattle.tk_journal.specs.declared.entry.Fronts.{Fronts}
use Rattle.tk_journal.specs.declared.object.RunState.{RunState}
use Rattle.tk_journal.specs.declared.object.TaskRunState.{TaskRunState}
use Rattle.tk_journal.specs.History.{View, past, run_of, task_run_of, view_at}
use Rattle.tk_journal.specs.Lists.{Has}
use Rattle.tk_journal.specs.Progress.{IsOpen, at_end}
use Rattle.tk_journal.proofs.Past.{past_whole}
use Rattle.tk_cache.specs.Fronts.{Shows}
use Rattle.tk_cache.specs.Views.{Kept, Named, object_in, seen}
use Rattle.tk_world.specs.Looking.{has_open_run, has_open_task_run, is_open_in, is_open_run, is_open_task_run}

-- lists

module _ {X : Type 0} (p : X → Bool) where
  pub any_here : (xs : List X) (i : ℕ) (x : X) → slice_get xs i ≡ Some x → p x ≡ true → list_any p (drop i xs) ≡ true
  any_here [] i x is hit = cc
  any_here (y ∷ ys) zero x is hit = rw (ap p (same_Some y x is) ∙ hit) refl
  any_here (y ∷ ys) (suc i) x is hit = any_here ys i x is hit

  pub any_later : (xs : List X) (i : ℕ) (x : X) → slice_get xs i ≡ Some x → p x ≡ false → list_any p (drop (i + 1) xs) ≡ list_any p (drop i xs)
  any_later [] i x is miss = cc
  any_later (y ∷ ys) zero x is miss = rw (ap p (same_Some y x is) ∙ miss) refl
  any_later (y ∷ ys) (suc i) x is miss = let more : suc i + 1 ≡ suc (i + 1) = omega arith in subst (λ (n : ℕ). list_any p (drop n (y ∷ ys)) ≡ list_any p (drop i ys)) (sym more) (any_later ys i x is miss)

  pub any_past : (xs : List X) (i : ℕ) → length xs ≤ i → list_any p (drop i xs) ≡ false
  any_past [] zero past = refl
  any_past [] (suc i) past = refl
  any_past (y ∷ ys) zero past = absurd (omega (arith, past))
  any_past (y ∷ ys) (suc i) past = any_past ys i (omega (arith, past))

  any_at : (xs : List X) (i : ℕ) (x : X) → slice_get xs i ≡ Some x → p x ≡ true → list_any p xs ≡ true
  any_at [] i x is hit = cc
  any_at (y ∷ ys) zero x is hit = rw (ap p (same_Some y x is) ∙ hit) refl
  any_at (y ∷ ys) (suc i) x is hit = elim (cases_Bool (p y)) [
    | inl here ↦ rw here refl
    | inr there ↦ rw there (any_at ys i x is hit)
  ]

  some_of : (xs : List X) → list_any p xs ≡ true → (x : X) × (p x ≡ true)
  some_of [] is = cc
  some_of (y ∷ ys) is = elim (cases_Bool (p y)) [
    | inl here ↦ (y, here)
    | inr there ↦ some_of ys (rw there at is)
  ]

-- an object that is found has a place
place_named : {T : Type 0} (objects : Named T) (name : List ℕ) (object : T) → object_in objects name ≡ Some object → (place : ℕ) × (slice_get (keys_of objects) place ≡ Some name)
place_named [] name object is = cc
place_named ((key, held) ∷ rest) name object is = elim (cases_Bool (bytes_eq name key)) [
  | inl same ↦ (0, ap Some (sym ((bytes_decides name key).0 same)))
  | inr other ↦ let found = place_named rest name object (rw other at is) in (suc found.0, found.1)
]

-- what is open

pub none_there : {X : Type 0} (o : Option X) (told is : Bool) → is_some o ≡ not told → told ≡ is → is_none o ≡ is
none_there None told is some same = sym (not_is told some) ∙ same
  where
    not_is : (b : Bool) → false ≡ not b → b ≡ true
    not_is true eq = refl
    not_is false eq = cc
none_there (Some x) told is some same = sym (not_is told some) ∙ same
  where
    not_is : (b : Bool) → true ≡ not b → b ≡ false
    not_is true eq = cc
    not_is false eq = refl

none_from : {X : Type 0} (o : Option X) → is_none o ≡ true → o ≡ None
none_from None is = refl
none_from (Some x) is = cc

both_from : (a b : Bool) → (a && b) ≡ true → (a ≡ true) × (b ≡ true)
both_from true true is = (refl, refl)
both_from true false is = cc
both_from false b is = cc

not_from : (b : Bool) → not b ≡ true → b ≡ false
not_from true is = cc
not_from false is = refl

either_from : (a b : Bool) → (a || b) ≡ true → (a ≡ true) ⊎ (b ≡ true)
either_from true b is = inl refl
either_from false b is = inr is

abbrev IsOpenRun : RunState → Type 0
IsOpenRun run = (run.closed ≡ None) × (run.pending ≡ false)

abbrev IsOpenTaskRun : TaskRunState → Type 0
IsOpenTaskRun task_run = task_run.closed ≡ None

run_open : (o : Option RunState) → is_open_run o ≡ true → Has o IsOpenRun
run_open None is = cc
run_open (Some run) is = let parts = both_from (is_none run.closed) (not run.pending) is in record { it = run; is = refl; has = (none_from run.closed parts.0, not_from run.pending parts.1) }

task_run_open : (o : Option TaskRunState) → is_open_task_run o ≡ true → Has o IsOpenTaskRun
task_run_open None is = cc
task_run_open (Some task_run) is = record { it = task_run; is = refl; has = none_from task_run.closed is }

open_run : (o : Option RunState) → Has o IsOpenRun → is_open_run o ≡ true
open_run o has = rw (has.is, has.has.0, has.has.1) refl

open_task_run : (o : Option TaskRunState) → Has o IsOpenTaskRun → is_open_task_run o ≡ true
open_task_run o has = rw (has.is, has.has) refl

module _ (watch : Kept) (history : List Entry) (shows : Shows (seen watch) history) (fronts : watch.fronts ≡ at_end history) where
  sees : (seen watch).view ≡ view_at (at_end history) history
  sees = shows.same ∙ ap (λ (f : Fronts). view_at f history) fronts

  all : past (length history) history ≡ history
  all = past_whole (length history) history (omega arith)

  runs : (seen watch).view.run ≡ run_of history
  runs = ap (λ (v : View). v.run) sees ∙ ap run_of all

  task_runs : (seen watch).view.task_run ≡ task_run_of history
  task_runs = ap (λ (v : View). v.task_run) sees ∙ ap task_run_of all

  from_runs : has_open_run (seen watch).view ≡ true → IsOpen history
  from_runs is =
      let found = some_of (λ (name : List ℕ). is_open_run ((seen watch).view.run name)) (seen watch).view.runs is in
      inl (found.0, subst (λ (f : List ℕ → Option RunState). Has (f found.0) IsOpenRun) runs (run_open ((seen watch).view.run found.0) found.1))

  from_task_runs : has_open_task_run (seen watch).view ≡ true → IsOpen history
  from_task_runs is =
      let found = some_of (λ (name : List ℕ). is_open_task_run ((seen watch).view.task_run name)) (seen watch).view.task_runs is in
      inr (found.0, subst (λ (f : List ℕ → Option TaskRunState). Has (f found.0) IsOpenTaskRun) task_runs (task_run_open ((seen watch).view.task_run found.0) found.1))

  to_runs : (name : List ℕ) → Has (run_of history name) IsOpenRun → has_open_run (seen watch).view ≡ true
  to_runs name has =
      let own = subst (λ (f : List ℕ → Option RunState). Has (f name) IsOpenRun) (sym runs) has in
      let place = place_named watch.runs name own.it own.is in
      any_at (λ (n : List ℕ). is_open_run ((seen watch).view.run n)) (seen watch).view.runs place.0 name place.1 (open_run ((seen watch).view.run name) own)

  to_task_runs : (name : List ℕ) → Has (task_run_of history name) IsOpenTaskRun → has_open_task_run (seen watch).view ≡ true
  to_task_runs name has =
      let own = subst (λ (f : List ℕ → Option TaskRunState). Has (f name) IsOpenTaskRun) (sym task_runs) has in
      let place = place_named watch.task_runs name own.it own.is in
      any_at (λ (n : List ℕ). is_open_task_run ((seen watch).view.task_run n)) (seen watch).view.task_runs place.0 name place.1 (open_task_run ((seen watch).view.task_run name) own)

  right_or : (a b : Bool) → b ≡ true → (a || b) ≡ true
  right_or true b is = refl
  right_or false b is = is

  -- such a cache shows something open exactly where it is
  pub opens : (is_open_in (seen watch).view ≡ true) ↔ IsOpen history
  opens = (from, to)
    where
      from : is_open_in (seen watch).view ≡ true → IsOpen history
      from is = elim (either_from (has_open_run (seen watch).view) (has_open_task_run (seen watch).view) is) [
        | inl run ↦ from_runs run
        | inr task_run ↦ from_task_runs task_run
      ]

      to : IsOpen history → is_open_in (seen watch).view ≡ true
      to (inl run) = let is = to_runs run.0 run.1 in rw is refl
      to (inr task_run) = right_or (has_open_run (seen watch).view) (has_open_task_run (seen watch).view) (to_task_runs task_run.0 task_run.1)

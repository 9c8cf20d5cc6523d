-- The choice among the runs that can still get an entry: all others give rise to no act.
use Rattle.std.proofs.Common.{◌≡◌, ◌<◌, ◌≤◌, ◌+◌, ℕ, zero, suc, List, [], ◌∷◌, drop, length, get_or, Bool, true, false, not, Option, Some, None, refl, sym, ap, ◌∙◌, inl, inr, arith}
use Rattle.std.specs.Prelude.{◌&&◌, ◌||◌, is_some, is_none, option_and_then, option_map, slice_get, if◌then◌else◌}
use Rattle.std.specs.List.{list_any}
use Rattle.std.proofs.lemmas.Bool.{cases_Bool, cases_lt}
use Rattle.std.proofs.lemmas.Option.{slice_get-get_or}
use Rattle.tk_types.specs.declared.run.Stop.{Stop}
use Rattle.tk_types.specs.Lists.{is_empty}
use Rattle.tk_journal.specs.declared.act.Act.{Act}
use Rattle.tk_journal.specs.declared.act.Act.TheVariants as acts
use Rattle.tk_journal.specs.declared.act.Closing.{Closing}
use Rattle.tk_journal.specs.declared.object.RunState.{RunState}
use Rattle.tk_journal.specs.declared.object.TaskRunState.{TaskRunState}
use Rattle.tk_journal.specs.History.{View}
use Rattle.tk_places.specs.Places.{AllBefore, IsNext}
use Rattle.tk_places.proofs.Marked.{all_before_next, all_so, all_behind}
use Rattle.tk_choice.proofs.First.{first_later, first_here, first_end}
use Rattle.tk_cache.specs.Children.{children_of}
use Rattle.tk_run_cache.specs.Active.{has_open, is_open, may_get, may_get_at, AreActive}
use Rattle.tk_runrec.specs.declared.found.Found.{Found}
use Rattle.tk_runrec.specs.Found.{first_found}
use Rattle.tk_runrec.specs.Tests.{is_reached}
use Rattle.tk_runrec.specs.Choice.{act_at, act_named, cancel, choice, choice_among, found_at, open_act, unmarked}
use Rattle.tk_runrec.proofs.Unmarked.{nothing_to_cancel}

-- a run that can't get an entry

is_nothing : (stops : List Stop) → is_empty stops ≡ true → stops ≡ []
is_nothing [] none = refl
is_nothing (stop ∷ stops) none = absurd (cc (none))

-- a closed TaskRun isn't marked
shut_unmarked : (name : List ℕ) (run : RunState) (o : Option TaskRunState) → is_open o ≡ false → unmarked name run o ≡ None
shut_unmarked name run None shut = refl
shut_unmarked name run (Some task_run) shut =
    ap (λ (b : Bool). if b && not task_run.marked && is_reached run task_run.task then Some (found_at name task_run) else None) shut

-- where each element that isn't open gives none, and none is open
none_found : (finds : List ℕ → Option Found) (opened : List ℕ → Bool) → ((name : List ℕ) → opened name ≡ false → finds name ≡ None) → (names : List (List ℕ)) → list_any opened names ≡ false → first_found finds None names ≡ None
none_found finds opened shut [] none = refl
none_found finds opened shut (name ∷ names) none = elim (cases_Bool (opened name)) [
  | inl here ↦ let now : true ≡ false = rw here at none in absurd (cc (now))
  | inr miss ↦ rw (shut name miss) (none_found finds opened shut names (rw miss at none))
]

module _ (view : View) (name : List ℕ) (run : RunState) where
  none_open : has_open view name ≡ false → cancel view name run ≡ None
  none_open none =
      ap (option_map (λ (found : Found). acts.CancelTaskRun found.name))
      (none_found (λ (child : List ℕ). unmarked child run (view.task_run child)) (λ (child : List ℕ). is_open (view.task_run child))
      (λ child. shut_unmarked child run (view.task_run child)) (children_of view name) none)

  none_cancelled : (not (is_empty run.stops) && has_open view name) ≡ false → cancel view name run ≡ None
  none_cancelled none = elim (cases_Bool (is_empty run.stops)) [
    | inl empty ↦ nothing_to_cancel view name run (is_nothing run.stops empty)
    | inr some ↦ none_open (rw some at none)
  ]

  by_closed : (moment : ℕ) (closed : Option Closing) → (is_none closed || (not (is_empty run.stops) && has_open view name)) ≡ false → (if is_some closed then cancel view name run else open_act view moment name run) ≡ None
  by_closed moment None none = absurd (cc (none))
  by_closed moment (Some closing) none = none_cancelled none

module _ (view : View) (moment : ℕ) where
  idle_at : (name : List ℕ) (o : Option RunState) → may_get_at view name o ≡ false → act_at view moment name o ≡ None
  idle_at name None none = refl
  idle_at name (Some run) none = by_closed view name run moment run.closed none

  -- a run that can't get an entry gives rise to none
  abbrev pub IsIdle : List ℕ → Type 0
  IsIdle name = act_named view moment name ≡ None

  idle : (name : List ℕ) → may_get view name ≡ false → IsIdle name
  idle name none = idle_at name (view.run name) none

  idle_here : (place : ℕ) → option_and_then (act_named view moment) (slice_get view.runs place) ≡ None → (name : List ℕ) → slice_get view.runs place ≡ Some name → IsIdle name
  idle_here place none name at = ap (λ (o : Option (List ℕ)). option_and_then (act_named view moment) o) (sym at) ∙ none

  -- where all before a place are idle, the choice is among those from it on
  passed_over : (place : ℕ) → AllBefore IsIdle view.runs place → choice view moment ≡ choice_among view moment (drop place view.runs)
  passed_over zero before = refl
  passed_over (suc place) before =
      passed_over place (λ p name below at. before p name (omega (arith, below)) at) ∙ further
    where
      further : choice_among view moment (drop place view.runs) ≡ choice_among view moment (drop (suc place) view.runs)
      further = elim (cases_lt place (length view.runs)) [
        | inl within ↦
            let name : List ℕ = get_or view.runs place [] in
            let at : slice_get view.runs place ≡ Some name = slice_get-get_or view.runs place [] within in
            let next : place + 1 ≡ suc place = omega arith in
            first_later (act_named view moment) view.runs place within (ap (λ (o : Option (List ℕ)). option_and_then (act_named view moment) o) at ∙ before place name (omega arith) at)
            ∙ ap (λ (n : ℕ). choice_among view moment (drop n view.runs)) next
        | inr past ↦ first_end (act_named view moment) view.runs place past ∙ sym (first_end (act_named view moment) view.runs (suc place) (omega (arith, past)))
      ]

  -- at the end of the list
  pub none_chosen : (end : ℕ) → length view.runs ≤ end → AllBefore IsIdle view.runs end → choice view moment ≡ None
  none_chosen end past before = passed_over end before ∙ first_end (act_named view moment) view.runs end past

  module _ (places : List ℕ) (active : AreActive view places) (from : ℕ) (before : AllBefore IsIdle view.runs from) where
    -- there is no place more
    pub none_active : IsNext from places None → choice view moment ≡ None
    none_active next =
        none_chosen (length view.runs) (omega arith)
        (all_so (may_get view) IsIdle view.runs places active idle from before next (length view.runs))

    module _ (place : ℕ) (next : IsNext from places (Some place)) where
      idle_before : AllBefore IsIdle view.runs place
      idle_before = all_before_next (may_get view) IsIdle view.runs places active idle from before place next

      -- the next one is behind all runs
      pub none_within : length view.runs ≤ place → choice view moment ≡ None
      none_within past = none_chosen place past idle_before

      -- the next one gives rise to an act
      first_active : (act : Act) → place < length view.runs → option_and_then (act_named view moment) (slice_get view.runs place) ≡ Some act → choice view moment ≡ Some act
      first_active act within gives = passed_over place idle_before ∙ first_here (act_named view moment) view.runs place act within gives

      -- it gives rise to none
      idle_further : option_and_then (act_named view moment) (slice_get view.runs place) ≡ None → AllBefore IsIdle view.runs (place + 1)
      idle_further none = all_behind IsIdle view.runs place idle_before (idle_here place none)

      pub found_active : (found : Option Act) → true ≡ is_some found → place < length view.runs → found ≡ option_and_then (act_named view moment) (slice_get view.runs place) → found ≡ choice view moment
      found_active None some within is = absurd (cc (some))
      found_active (Some act) some within is = sym (first_active act within (sym is))

      pub none_further : (found : Option Act) → false ≡ is_some found → found ≡ option_and_then (act_named view moment) (slice_get view.runs place) → AllBefore IsIdle view.runs (place + 1)
      none_further None none is = idle_further (sym is)
      none_further (Some act) none is = absurd (cc (none))

-- Whether a run has an open TaskRun, and once an entry more of TaskRuns is seen.
use Rattle.std.proofs.Common.{◌≡◌, ◌≢◌, ℕ, zero, suc, List, [], ◌∷◌, Bool, true, false, Option, Some, refl, sym, ap, ◌∙◌, inl, inr}
use Rattle.std.specs.Prelude.{◌||◌, filter, slice_get}
use Rattle.std.specs.List.{list_any}
use Rattle.std.proofs.lemmas.Bool.{cases_Bool}
use Rattle.std.proofs.lemmas.Option.{same_Some}
use Rattle.tk_journal.specs.declared.object.TaskRunState.{TaskRunState}
use Rattle.tk_journal.specs.History.{View}
use Rattle.tk_cache.specs.Children.{is_made_for}
use Rattle.tk_cache.specs.Passed.{AreSameBut}
use Rattle.tk_run_cache.specs.Active.{has_open, is_open}

or_true : (b : Bool) → (b || true) ≡ true
or_true true = refl
or_true false = refl

module _ (task_runs : List ℕ → Option TaskRunState) (run : List ℕ) where
  -- one of these TaskRuns is the run's and open
  abbrev pub any_open : List (List ℕ) → Bool
  any_open names = list_any (λ (name : List ℕ). is_open (task_runs name)) (filter (λ (name : List ℕ). is_made_for run (task_runs name)) names)

  pub record HasOpen (names : List (List ℕ)) : Type 0 where
    pub place : ℕ
    pub name : List ℕ
    pub at : slice_get names place ≡ Some name
    pub made : is_made_for run (task_runs name) ≡ true
    pub opened : is_open (task_runs name) ≡ true

  behind : (name : List ℕ) (names : List (List ℕ)) → HasOpen names → HasOpen (name ∷ names)
  behind name names found = record { place = suc found.place; name = found.name; at = found.at; made = found.made; opened = found.opened }

  pub open_is : (names : List (List ℕ)) → any_open names ≡ true → HasOpen names
  open_is [] is = absurd (cc (is))
  open_is (name ∷ names) is = elim (cases_Bool (is_made_for run (task_runs name))) [
    | inl made ↦
        let either : (is_open (task_runs name) || any_open names) ≡ true = rw made at is in
        elim (cases_Bool (is_open (task_runs name))) [
          | inl opened ↦ record { place = 0; name = name; at = refl; made = made; opened = opened }
          | inr shut ↦ behind name names (open_is names (rw shut at either))
        ]
    | inr other ↦ behind name names (open_is names (rw other at is))
  ]

  pub is_any_open : (names : List (List ℕ)) (place : ℕ) (name : List ℕ) → slice_get names place ≡ Some name → is_made_for run (task_runs name) ≡ true → is_open (task_runs name) ≡ true → any_open names ≡ true
  is_any_open [] place name at made opened = absurd (cc (at))
  is_any_open (first ∷ names) zero name at made opened =
      let same : first ≡ name = same_Some first name at in
      let made_first : is_made_for run (task_runs first) ≡ true = ap (λ (n : List ℕ). is_made_for run (task_runs n)) same ∙ made in
      let open_first : is_open (task_runs first) ≡ true = ap (λ (n : List ℕ). is_open (task_runs n)) same ∙ opened in
      rw (made_first, open_first) refl
  is_any_open (first ∷ names) (suc place) name at made opened =
      let rest : any_open names ≡ true = is_any_open names place name at made opened in
      elim (cases_Bool (is_made_for run (task_runs first))) [
        | inl own ↦ rw own (ap (λ (b : Bool). is_open (task_runs first) || b) rest ∙ or_true (is_open (task_runs first)))
        | inr other ↦ rw other rest
      ]

-- an entry of another run's TaskRun opens none
pub still_open : (was now : View) (own : List ℕ) → AreSameBut own was.task_run now.task_run was.task_runs now.task_runs
    → (run : List ℕ) → is_made_for run (now.task_run own) ≡ false → has_open now run ≡ true → has_open was run ≡ true
still_open was now own task_runs run other is =
    is_any_open was.task_run run was.task_runs found.place found.name (task_runs.places found.place found.name differ found.at)
    (ap (is_made_for run) (sym same) ∙ found.made) (ap is_open (sym same) ∙ found.opened)
  where
    found : HasOpen now.task_run run now.task_runs
    found = open_is now.task_run run now.task_runs is

    differ : own ≢ found.name
    differ here =
        let made : is_made_for run (now.task_run own) ≡ true = ap (λ (n : List ℕ). is_made_for run (now.task_run n)) here ∙ found.made in
        absurd (cc (other, made))

    same : now.task_run found.name ≡ was.task_run found.name
    same = task_runs.objects found.name differ

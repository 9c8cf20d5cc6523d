-- The objects at the next position.
use Rattle.std.proofs.Common.{◌≡◌, ℕ, suc, ◌≤◌, ◌+◌, List, [], ◌∷◌, length, Option, Some, Bool, true, false, refl, sym, ap, ◌∙◌, inl, inr, arith}
use Rattle.std.specs.Prelude.{nat_eq, nat_le}
use Rattle.std.proofs.lemmas.Bool.{cases_Bool, eqb-true, leb-true, leb-false, le-leb, lt-leb}
use Rattle.std.proofs.lemmas.Option.{same_Some}
use Rattle.tk_types.specs.declared.scenario.Kind.{Kind}
use Rattle.tk_types.specs.declared.scenario.Kind.TheVariants as kinds
use Rattle.tk_journal.specs.declared.entry.Entry.{Entry}
use Rattle.tk_journal.specs.declared.object.RunState.{RunState}
use Rattle.tk_journal.specs.declared.object.TaskRunState.{TaskRunState}
use Rattle.tk_journal.specs.declared.object.PodState.{PodState}
use Rattle.tk_journal.specs.Effects.{writes}
use Rattle.tk_journal.specs.Journal.{entry_at}
use Rattle.tk_journal.specs.History.{past, counts, state_of, run_of, run_written, task_run_of, task_run_written, pod_of, pod_written, version_of}
use Rattle.tk_journal.proofs.Past.{past_older, past_whole, state_hit, state_skip}

entry_within : (position : ℕ) (e : Entry) (history : List Entry) → entry_at position history ≡ Some e → position ≤ length history
entry_within position e [] is = cc
entry_within position e (d ∷ older) is = elim (cases_Bool (nat_eq position (suc (length older)))) [
  | inl hit ↦ omega (arith, eqb-true position (suc (length older)) hit)
  | inr miss ↦ let rest = entry_within position e older (sym (rw miss refl) ∙ is) in omega (arith, rest)
]

-- the history at the next position has the entry there in front
pub past_next : (position : ℕ) (e : Entry) (history : List Entry) → entry_at (suc position) history ≡ Some e → past (suc position) history ≡ e ∷ past position history
past_next position e [] is = cc
past_next position e (d ∷ older) is = elim (cases_Bool (nat_eq (suc position) (suc (length older)))) [
  | inl hit ↦
      let here : position ≡ length older = omega (arith, eqb-true (suc position) (suc (length older)) hit) in
      let first : d ≡ e = same_Some d e (sym (rw hit refl) ∙ is) in
      let whole : past (suc position) (d ∷ older) ≡ d ∷ older = rw (le-leb (suc (length older)) (suc position) (omega (arith, here))) refl in
      let rest : past position (d ∷ older) ≡ older = past_older position d older (omega (arith, here)) ∙ past_whole position older (omega (arith, here)) in
      whole ∙ ap (λ (x : Entry). x ∷ older) first ∙ ap (λ (h : List Entry). e ∷ h) (sym rest)
  | inr miss ↦
      let below : entry_at (suc position) older ≡ Some e = sym (rw miss refl) ∙ is in
      let within : suc position ≤ length older = entry_within (suc position) e older below in
      past_older (suc position) d older within ∙ past_next position e older below ∙ ap (λ (h : List Entry). e ∷ h) (sym (past_older position d older (omega (arith, within))))
]

-- the same, as a loop over positions has it
pub past_step : (position : ℕ) (e : Entry) (history : List Entry) → entry_at (position + 1) history ≡ Some e → past (position + 1) history ≡ e ∷ past position history
past_step position e history is =
    let next : position + 1 ≡ suc position = omega arith in
    ap (λ n. past n history) next ∙ past_next position e history (ap (λ n. entry_at n history) (sym next) ∙ is)

-- before its first entry it is empty
pub past_none : (history : List Entry) → past 0 history ≡ []
past_none [] = refl
past_none (e ∷ older) = rw (lt-leb (suc (length older)) 0 (omega arith)) (past_none older)

length_past : (n : ℕ) (history : List Entry) → n ≤ length history → length (past n history) ≡ n
length_past n [] le = omega (arith, le)
length_past n (e ∷ older) le = elim (cases_Bool (nat_le (suc (length older)) n)) [
  | inl hit ↦ rw hit (omega (arith, le, leb-true (suc (length older)) n hit))
  | inr miss ↦ rw miss (length_past n older (omega (arith, leb-false (suc (length older)) n miss)))
]

-- one object at the next position

module _ {X : Type 0} (mine : Entry → Bool) (written : List Entry → Entry → Option X → Option X) (history : List Entry) (place : ℕ) (e : Entry) (at : entry_at (place + 1) history ≡ Some e) where
  hit_state : mine e ≡ true → (before : Option X) → before ≡ state_of mine written (past place history) → written (past place history) e before ≡ state_of mine written (past (place + 1) history)
  hit_state hit before same =
      ap (written (past place history) e) same
      ∙ sym (ap (state_of mine written) (past_step place e history at) ∙ state_hit mine written e (past place history) hit)

  miss_state : mine e ≡ false → state_of mine written (past place history) ≡ state_of mine written (past (place + 1) history)
  miss_state miss = sym (ap (state_of mine written) (past_step place e history at) ∙ state_skip mine written e (past place history) miss)

module _ (history : List Entry) (place : ℕ) (e : Entry) (name : List ℕ) (at : entry_at (place + 1) history ≡ Some e) where
  pub run_hit : writes kinds.Runs name e ≡ true → (before after : Option RunState) → before ≡ run_of (past place history) name → after ≡ run_written e before → after ≡ run_of (past (place + 1) history) name
  run_hit hit before after same is = is ∙ hit_state (writes kinds.Runs name) (λ (older : List Entry) d was. run_written d was) history place e at hit before same

  pub run_miss : writes kinds.Runs name e ≡ false → (before : Option RunState) → before ≡ run_of (past place history) name → before ≡ run_of (past (place + 1) history) name
  run_miss miss before same = same ∙ miss_state (writes kinds.Runs name) (λ (older : List Entry) d was. run_written d was) history place e at miss

  pub task_run_hit : writes kinds.TaskRuns name e ≡ true → (before after : Option TaskRunState) → before ≡ task_run_of (past place history) name → after ≡ task_run_written (run_of (past place history)) e before → after ≡ task_run_of (past (place + 1) history) name
  task_run_hit hit before after same is = is ∙ hit_state (writes kinds.TaskRuns name) (λ (older : List Entry) d was. task_run_written (run_of older) d was) history place e at hit before same

  pub task_run_miss : writes kinds.TaskRuns name e ≡ false → (before : Option TaskRunState) → before ≡ task_run_of (past place history) name → before ≡ task_run_of (past (place + 1) history) name
  task_run_miss miss before same = same ∙ miss_state (writes kinds.TaskRuns name) (λ (older : List Entry) d was. task_run_written (run_of older) d was) history place e at miss

  pub pod_hit : writes kinds.Pods name e ≡ true → (before after : Option PodState) → before ≡ pod_of (past place history) name → after ≡ pod_written e before → after ≡ pod_of (past (place + 1) history) name
  pod_hit hit before after same is = is ∙ hit_state (writes kinds.Pods name) (λ (older : List Entry) d was. pod_written d was) history place e at hit before same

  pub pod_miss : writes kinds.Pods name e ≡ false → (before : Option PodState) → before ≡ pod_of (past place history) name → before ≡ pod_of (past (place + 1) history) name
  pod_miss miss before same = same ∙ miss_state (writes kinds.Pods name) (λ (older : List Entry) d was. pod_written d was) history place e at miss

  -- the version at the next position

  module _ (kind : Kind) (before : ℕ) (same : before ≡ version_of kind name (past place history)) where
    next : version_of kind name (past (place + 1) history) ≡ version_of kind name (e ∷ past place history)
    next = ap (version_of kind name) (past_step place e history at)

    here : suc (length (past place history)) ≡ place + 1
    here = let long = length_past place history (omega (arith, entry_within (place + 1) e history at)) in omega (arith, long)

    pub version_counts : writes kind name e ≡ true → counts e before ≡ true → place + 1 ≡ version_of kind name (past (place + 1) history)
    version_counts hit counted =
        let now : counts e (version_of kind name (past place history)) ≡ true = ap (counts e) (sym same) ∙ counted in
        sym (next ∙ (rw (hit, now) here))

    pub version_waits : writes kind name e ≡ true → counts e before ≡ false → before ≡ version_of kind name (past (place + 1) history)
    version_waits hit waits =
        let now : counts e (version_of kind name (past place history)) ≡ false = ap (counts e) (sym same) ∙ waits in
        same ∙ sym (next ∙ (rw (hit, now) refl))

    pub version_other : writes kind name e ≡ false → before ≡ version_of kind name (past (place + 1) history)
    version_other other = same ∙ sym (next ∙ (rw other refl))

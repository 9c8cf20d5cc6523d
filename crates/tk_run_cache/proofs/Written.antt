-- How runs stand once an entry more of theirs is seen.
use Rattle.std.proofs.Common.{◌≡◌, ◌≢◌, ℕ, ◌+◌, List, [], ◌∷◌, ◌++◌, length, map, Option, Some, None, Bool, true, false, refl, sym, ◌∙◌, ap, ap₂, subst, arith, inl, inr, Contains, append-nil}
use Rattle.std.specs.Prelude.{bytes_eq, filter, option_map, IfSome, if◌then◌else◌}
use Rattle.std.specs.List.{range_with_len}
use Rattle.std.proofs.lemmas.Bool.{cases_Bool, and_from, and_left, and_right}
use Rattle.std.proofs.lemmas.List.Elements.{All-weaker, All-contains_itself, Contains-push, filter-append}
use Rattle.std.proofs.lemmas.Slice.Eq.{bytes_eq-Decides}
use Rattle.tk_types.specs.declared.run.Child.{Child}
use Rattle.tk_types.specs.declared.run.Outcome.{Outcome}
use Rattle.tk_types.specs.declared.run.RunSpec.{RunSpec}
use Rattle.tk_types.specs.declared.object.Asked.{Asked}
use Rattle.tk_types.specs.declared.scenario.Kind.{Kind}
use Rattle.tk_types.specs.declared.scenario.Kind.TheVariants as kinds
use Rattle.tk_types.specs.declared.verdict.Binding.{Binding}
use Rattle.tk_verdict.specs.WellFormed.{IsWellFormed}
use Rattle.tk_verdict.proofs.GivenRight.{gives_within}
use Rattle.tk_labels.specs.Kept.{fresh, MayHave}
use Rattle.tk_journal.specs.declared.act.Act.{Act}
use Rattle.tk_journal.specs.declared.act.Act.TheVariants as acts
use Rattle.tk_journal.specs.declared.act.Admission.TheVariants as admissions
use Rattle.tk_journal.specs.declared.entry.Entry.{Entry}
use Rattle.tk_journal.specs.declared.object.RunState.{RunState}
use Rattle.tk_journal.specs.declared.object.Scheduled.{Scheduled}
use Rattle.tk_journal.specs.declared.object.TaskRunState.{TaskRunState}
use Rattle.tk_journal.specs.Effects.{name_of, kind_of, same_kind, run_made, run_after, admitted_run}
use Rattle.tk_journal.specs.History.{past, run_of, run_written, task_run_of, facts_of, creates, children_in, children_from}
use Rattle.tk_journal.specs.Journal.{entry_at}
use Rattle.tk_journal.specs.Legal.{IsLegal}
use Rattle.tk_journal.specs.Made.{MakesOrChanges, Writes}
use Rattle.tk_journal.specs.Right.{LastingRun, facts_at}
use Rattle.tk_journal.proofs.Apart.{pairs_across}
use Rattle.tk_journal.proofs.Claimed.{legal_past}
use Rattle.tk_journal.proofs.Facts.{children_in-append}
use Rattle.tk_journal.proofs.Made as made
use Rattle.tk_journal.proofs.Positions.{past_step, run_hit, run_miss}
use Rattle.tk_journal.proofs.RunLasts.{lasting_facts}
use Rattle.tk_journal.proofs.Statements as laws_of
use Rattle.tk_journal.proofs.WellFormed.{children_all}
use Rattle.tk_run_cache.specs.Follow.{child_seen, is_absent, outcome_seen, standing_after, MayFollow}
use Rattle.tk_run_cache.specs.Labelled.{Standing}
use Rattle.tk_run_cache.proofs.Moved.{children_range, new_children, none_of}
use Rattle.tk_run_cache.proofs.Standings.{known, standing_of}

-- what an act does to the run that it writes

module _ (task_runs : List ℕ → Option TaskRunState) where
  made_so : (act : Act) → option_map (standing_of task_runs) (run_made act) ≡ standing_after task_runs act None
  made_so (acts.Admit name (admissions.Run spec) pending asked root) = refl
  made_so (acts.Admit name (admissions.Task spec) pending asked root) = refl
  made_so act = refl

  changed_so : (moment : ℕ) (act : Act) (run : RunState) → creates kinds.Runs act ≡ false → option_map (standing_of task_runs) (Some (run_after moment act run)) ≡ standing_after task_runs act (Some (standing_of task_runs run))
  changed_so moment (acts.Admit name (admissions.Run spec) pending asked root) run updates = cc
  changed_so moment (acts.Admit name (admissions.Task spec) pending asked root) run updates = refl
  changed_so moment (acts.Schedule name task bindings) run updates =
      ap₂ (λ (children missing : List Child). Some record { facts = record { spec = run.spec; stops = run.stops; children = children }; missing = missing })
      (more ∙ ap (λ (new : List Child). children_in f run.scheduled ++ new) (new_children (f task) task bindings))
      (ap (filter (is_absent task_runs run.spec)) (more ∙ ap (λ (new : List Child). children_in f run.scheduled ++ new) (children_range (f task) task bindings))
      ∙ filter-append (is_absent task_runs run.spec) (children_in f run.scheduled) (map (child_seen task_runs run.spec task) (range_with_len 0 (length bindings))))
    where
      f : ℕ → ℕ → Option Outcome
      f = outcome_seen task_runs run.spec

      part : Scheduled
      part = record { task = task; bindings = bindings }

      more : children_in f (run.scheduled ++ part ∷ []) ≡ children_in f run.scheduled ++ children_from (f task) task 0 bindings
      more = children_in-append f run.scheduled (part ∷ []) ∙ ap (λ (new : List Child). children_in f run.scheduled ++ new) (append-nil (children_from (f task) task 0 bindings))
  changed_so moment act run updates = refl

  written_so : (e : Entry) (o : Option RunState) → MakesOrChanges kinds.Runs e (run_made e.act) o → option_map (standing_of task_runs) (run_written e o) ≡ standing_after task_runs e.act (option_map (standing_of task_runs) o)
  written_so e None fits = made_so e.act
  written_so e (Some run) fits = changed_so e.moment e.act run fits

  others_follow : (act : Act) (o : Option Standing) → same_kind kinds.Runs (kind_of act) ≡ false → standing_after task_runs act o ≡ o
  others_follow (acts.Admit name (admissions.Run spec) pending asked root) o other = cc
  others_follow (acts.Admit name (admissions.Task spec) pending asked root) o other = refl
  others_follow (acts.Schedule name task bindings) o other = cc
  others_follow (acts.Halt name stop) o other = cc
  others_follow act o other = refl

is_runs : (kind : Kind) → same_kind kinds.Runs kind ≡ true → kind ≡ kinds.Runs
is_runs kinds.Runs same = refl
is_runs kinds.TaskRuns same = cc
is_runs kinds.Pods same = cc

module _ (history : List Entry) (legal : IsLegal history) (place : ℕ) (e : Entry) (at : entry_at (place + 1) history ≡ Some e) where
  entry_writes : Writes (past place history) e
  entry_writes = made.writes (past place history) e (subst IsLegal (past_step place e history at) (legal_past (place + 1) history legal))

  module _ (own : same_kind kinds.Runs (kind_of e.act) ≡ true) where
    fits : MakesOrChanges kinds.Runs e (run_made e.act) (run_of (past place history) (name_of e.act))
    fits = entry_writes.runs (is_runs (kind_of e.act) own)

    -- the run that is written
    written : run_written e (run_of (past place history) (name_of e.act)) ≡ run_of (past (place + 1) history) (name_of e.act)
    written =
        run_hit history place e (name_of e.act) at (and_from (same_kind kinds.Runs (kind_of e.act)) (bytes_eq (name_of e.act) (name_of e.act)) own ((bytes_eq-Decides (name_of e.act) (name_of e.act)).1 refl))
        (run_of (past place history) (name_of e.act)) (run_written e (run_of (past place history) (name_of e.act))) refl refl

  module _ (t : ℕ) where
    abbrev task_runs : List ℕ → Option TaskRunState
    task_runs = task_run_of (past t history)

    -- how each run stands at the next position
    pub runs_known : (name : List ℕ) → (if bytes_eq (name_of e.act) name then standing_after (task_run_of (past t history)) e.act (known place t history name) else known place t history name) ≡ known (place + 1) t history name
    runs_known name = elim (cases_Bool (bytes_eq (name_of e.act) name)) [
      | inl hit ↦
          let is : name_of e.act ≡ name = (bytes_eq-Decides (name_of e.act) name).0 hit in
          rw hit (elim (cases_Bool (same_kind kinds.Runs (kind_of e.act))) [
            | inl own ↦ subst (λ (n : List ℕ). standing_after task_runs e.act (known place t history n) ≡ known (place + 1) t history n) is
                (sym (written_so task_runs e (run_of (past place history) (name_of e.act)) (fits own)) ∙ ap (option_map (standing_of task_runs)) (written own))
            | inr other ↦ others_follow task_runs e.act (known place t history name) other
                ∙ ap (option_map (standing_of task_runs)) (run_miss history place e name at (and_left (same_kind kinds.Runs (kind_of e.act)) (bytes_eq (name_of e.act) name) other) (run_of (past place history) name) refl)
          ])
      | inr miss ↦ rw miss (ap (option_map (standing_of task_runs)) (run_miss history place e name at (and_right (same_kind kinds.Runs (kind_of e.act)) (bytes_eq (name_of e.act) name) miss) (run_of (past place history) name) refl))
    ]

    -- and what the entry asks of how it stood before

    admitted_formed : (spec : RunSpec) (pending : Bool) (asked : Option Asked) (root : List ℕ) → run_made e.act ≡ Some (admitted_run spec pending asked root) → creates kinds.Runs e.act ≡ true → same_kind kinds.Runs (kind_of e.act) ≡ true → IsWellFormed (fresh spec)
    admitted_formed spec pending asked root is creating own = by (run_of (past place history) (name_of e.act)) (fits own) (written own)
      where
        by : (o : Option RunState) → MakesOrChanges kinds.Runs e (run_made e.act) o → run_written e o ≡ run_of (past (place + 1) history) (name_of e.act) → IsWellFormed (fresh spec)
        by (Some run) updates made_so = absurd (cc (creating, updates))
        by None makes made_so =
            lasting_facts (past (place + 1) history) (name_of e.act) (admitted_run spec pending asked root) task_runs
            ((laws_of.lasting history legal (place + 1)).0.runs (name_of e.act) (admitted_run spec pending asked root) (sym made_so ∙ is))

    -- there was no run of the name
    admitted_absent : creates kinds.Runs e.act ≡ true → same_kind kinds.Runs (kind_of e.act) ≡ true → run_of (past place history) (name_of e.act) ≡ None
    admitted_absent creating own = by (run_of (past place history) (name_of e.act)) refl (fits own)
      where
        by : (o : Option RunState) → run_of (past place history) (name_of e.act) ≡ o → MakesOrChanges kinds.Runs e (run_made e.act) o → run_of (past place history) (name_of e.act) ≡ None
        by None is makes = is
        by (Some run) is updates = absurd (cc (creating, updates))

    may_have : (task : ℕ) (bindings : List Binding) (run : RunState) → LastingRun (past (place + 1) history) (name_of e.act) (run_after e.moment (acts.Schedule (name_of e.act) task bindings) run) → MayHave (facts_of task_runs run) task (length bindings)
    may_have task bindings run last = record {
      exists = (last.exist part has).1;
      none = none_of task (children_in (outcome_seen task_runs run.spec) run.scheduled)
          (children_all (λ (other : ℕ). other ≢ task) (outcome_seen task_runs run.spec) run.scheduled
          (All-weaker (Contains run.scheduled) (λ (s : Scheduled). s.task ≢ task) (λ s there. pairs_across (λ (a b : Scheduled). a.task ≢ b.task) run.scheduled (part ∷ []) s part last.once there (Contains-push [] part)) run.scheduled (All-contains_itself run.scheduled)));
      few = let within = gives_within (facts_at (past (place + 1) history) (run_after e.moment (acts.Schedule (name_of e.act) task bindings) run)) task bindings (last.given part has) in omega (arith, within);
    }
      where
        part : Scheduled
        part = record { task = task; bindings = bindings }

        has : Contains (run.scheduled ++ part ∷ []) part
        has = Contains-push run.scheduled part

    pub may_follow : MayFollow e.act (known place t history (name_of e.act))
    may_follow = by_act e.act refl
      where
        by_act : (act : Act) → e.act ≡ act → MayFollow act (known place t history (name_of e.act))
        by_act (acts.Admit name (admissions.Run spec) pending asked root) is =
            let own : same_kind kinds.Runs (kind_of e.act) ≡ true = ap (λ (act : Act). same_kind kinds.Runs (kind_of act)) is in
            let creating : creates kinds.Runs e.act ≡ true = ap (creates kinds.Runs) is in
            (admitted_formed spec pending asked root (ap run_made is) creating own, ap (option_map (standing_of task_runs)) (admitted_absent creating own))
        by_act (acts.Schedule name task bindings) is = by_run (run_of (past place history) (name_of e.act)) (written (ap (λ (act : Act). same_kind kinds.Runs (kind_of act)) is))
          where
            named : name_of e.act ≡ name
            named = ap name_of is

            by_run : (o : Option RunState) → run_written e o ≡ run_of (past (place + 1) history) (name_of e.act) → IfSome (option_map (standing_of task_runs) o) (λ (s : Standing). MayHave s.facts task (length bindings))
            by_run None now = tt
            by_run (Some run) now =
                may_have task bindings run ((laws_of.lasting history legal (place + 1)).0.runs (name_of e.act) (run_after e.moment (acts.Schedule (name_of e.act) task bindings) run)
                (sym now ∙ ap (λ (act : Act). Some (run_after e.moment act run)) (is ∙ ap (λ (n : List ℕ). acts.Schedule n task bindings) (sym named))))
        by_act act is = tt

-- How runs stand once an entry more of TaskRuns is seen.
use Rattle.std.proofs.Common.{◌≡◌, ℕ, ◌+◌, ◌<◌, List, length, map, filter, Option, Some, None, Bool, true, false, refl, sym, ◌∙◌, ap, ap₂, subst, arith, inl, inr, Contains, All}
use Rattle.std.specs.Prelude.{◌==◌, ◌&&◌, not, bytes_eq, is_none, option_map, IfSome, if◌then◌else◌}
use Rattle.std.specs.declared.string.String.{String}
use Rattle.std.proofs.lemmas.Bool.{cases_Bool, and_cases, and_from, and_left, and_parts, and_right, eqb-true, eq-eqb}
use Rattle.std.proofs.lemmas.List.{map-id}
use Rattle.std.proofs.lemmas.List.Elements.{All-contains, All-weaker}
use Rattle.std.proofs.lemmas.Slice.Eq.{bytes_eq-Decides}
use Rattle.indexmap.specs.IndexMap.{IndexMap, get_by_text}
use Rattle.tk_types.specs.declared.run.Child.{Child}
use Rattle.tk_types.specs.declared.run.Facts.{Facts}
use Rattle.tk_types.specs.declared.run.Outcome.{Outcome}
use Rattle.tk_types.specs.declared.scenario.Kind.TheVariants as kinds
use Rattle.tk_labels.specs.Change.{once_ended}
use Rattle.tk_journal.specs.declared.entry.Entry.{Entry}
use Rattle.tk_journal.specs.declared.object.RunState.{RunState}
use Rattle.tk_journal.specs.declared.object.Scheduled.{Scheduled}
use Rattle.tk_journal.specs.declared.object.TaskRunState.{TaskRunState}
use Rattle.tk_journal.specs.Effects.{name_of, kind_of, same_kind}
use Rattle.tk_journal.specs.Grows.{TaskRunGrows}
use Rattle.tk_journal.specs.History.{past, run_of, task_run_of, facts_of, outcome_of, children_in}
use Rattle.tk_journal.specs.Journal.{entry_at}
use Rattle.tk_journal.specs.Legal.{IsLegal}
use Rattle.tk_journal.specs.Lists.{Has}
use Rattle.tk_journal.specs.Names.{child_name_of}
use Rattle.tk_journal.proofs.Facts.{TaskRunsGrow, outcome_stays}
use Rattle.tk_journal.proofs.Positions.{task_run_miss}
use Rattle.tk_cache.specs.Children.{is_name}
use Rattle.tk_run_cache.specs.declared.step.Step.TheVariants as steps
use Rattle.tk_run_cache.specs.Follow.{ended_in, is_absent, is_other, outcome_seen, standing_with, stepped, IsOpen, MayHaveTaskRun}
use Rattle.tk_run_cache.specs.Labelled.{Standing}
use Rattle.tk_run_cache.proofs.Filters.{Moves, filter_moved, filter_same}
use Rattle.tk_run_cache.proofs.Moved.{child_of, children_moved, children_of_parts, children_outcome, children_same, HasOutcome, IsOf}
use Rattle.tk_run_cache.proofs.Owned.{own_child, own_name}
use Rattle.tk_run_cache.proofs.Standings.{known, between, standing_of}

abbrev TaskRuns : Type 0
TaskRuns = List ℕ → Option TaskRunState

-- a run with these children and missing ones
abbrev stands : RunState → List Child → List Child → Standing
stands run children missing = record { facts = record { spec = run.spec; stops = run.stops; children = children }; missing = missing }

abbrev children_at : TaskRuns → RunState → List Child
children_at task_runs run = children_in (outcome_seen task_runs run.spec) run.scheduled

-- a TaskRun has the same outcome in both, and is there in both
record IsSame (old new : TaskRuns) (name : List ℕ) : Type 0 where
  pub outcome : outcome_of (old name) ≡ outcome_of (new name)
  pub absent : is_none (old name) ≡ is_none (new name)

is_same : (old new : TaskRuns) (name : List ℕ) → old name ≡ new name → IsSame old new name
is_same old new name same = record { outcome = ap outcome_of same; absent = ap is_none same }

-- a run stands as it did where that holds of each of its children
stands_same : (old new : TaskRuns) (run : RunState) → ((part : Scheduled) → Contains run.scheduled part → (index : ℕ) → index < length part.bindings → IsSame old new (child_name_of run.spec part.task index)) → standing_of old run ≡ standing_of new run
stands_same old new run same = ap₂ (stands run) children (ap (filter (is_absent old run.spec)) children ∙ filter_same (is_absent old run.spec) (is_absent new run.spec) (children_at new run) absent)
  where
    children : children_at old run ≡ children_at new run
    children = children_same (outcome_seen old run.spec) (outcome_seen new run.spec) run.scheduled (λ part has index below. (same part has index below).outcome)

    absent : All (λ (c : Child). is_absent old run.spec c ≡ is_absent new run.spec c) (children_at new run)
    absent = All-weaker (IsOf run.scheduled) (λ (c : Child). is_absent old run.spec c ≡ is_absent new run.spec c)
        (λ c is. subst (λ (task : ℕ). is_none (old (child_name_of run.spec task c.index)) ≡ is_none (new (child_name_of run.spec task c.index))) is.of_task (same is.part is.has c.index is.below).absent)
        (children_at new run) (children_of_parts (outcome_seen new run.spec) run.scheduled)

is_named : (name : List ℕ) (run : Option (List ℕ)) → is_name name run ≡ true → run ≡ Some name
is_named name None is = cc
is_named name (Some other) is = ap Some ((bytes_eq-Decides other name).0 is)

same_name : (name : List ℕ) → bytes_eq name name ≡ true
same_name name = (bytes_eq-Decides name name).1 refl

-- a child that ends, and the others

once_here : (task index : ℕ) (outcome : Outcome) (before : Option Outcome) → once_ended task index outcome (child_of task index before) ≡ child_of task index (Some outcome)
once_here task index outcome before = rw (eq-eqb task task refl, eq-eqb index index refl) refl

once_elsewhere : (task index : ℕ) (outcome : Outcome) (child : Child) → (child.task == task && child.index == index) ≡ false → once_ended task index outcome child ≡ child
once_elsewhere task index outcome child other = rw other refl

once_at : (task index : ℕ) (outcome : Outcome) (child : Child) → (child.task == task && child.index == index) ≡ true → once_ended task index outcome child ≡ child_of child.task child.index (Some outcome)
once_at task index outcome child hit = rw hit refl

-- the children once one has this outcome, or none
abbrev now_ended : ℕ → ℕ → Option Outcome → Child → Child
now_ended task index None child = child
now_ended task index (Some outcome) child = once_ended task index outcome child

module _ (history : List Entry) (legal : IsLegal history) (place : ℕ) (e : Entry) (at : entry_at (place + 1) history ≡ Some e) where
  abbrev old : TaskRuns
  old = task_run_of (past place history)

  abbrev new : TaskRuns
  new = task_run_of (past (place + 1) history)

  grow : TaskRunsGrow old new
  grow = (between history legal place (place + 1) (omega arith)).task_runs

  other_stays : (name : List ℕ) → bytes_eq (name_of e.act) name ≡ false → old name ≡ new name
  other_stays name other = task_run_miss history place e name at (and_right (same_kind kinds.TaskRuns (kind_of e.act)) (bytes_eq (name_of e.act) name) other) (old name) refl

  kind_stays : (name : List ℕ) → same_kind kinds.TaskRuns (kind_of e.act) ≡ false → old name ≡ new name
  kind_stays name other = task_run_miss history place e name at (and_left (same_kind kinds.TaskRuns (kind_of e.act)) (bytes_eq (name_of e.act) name) other) (old name) refl

  -- all are the same where the entry's TaskRun is
  by_own : IsSame old new (name_of e.act) → (name : List ℕ) → IsSame old new name
  by_own own name = elim (cases_Bool (bytes_eq (name_of e.act) name)) [
    | inl hit ↦ subst (IsSame old new) ((bytes_eq-Decides (name_of e.act) name).0 hit) own
    | inr miss ↦ is_same old new name (other_stays name miss)
  ]

  -- what has an outcome keeps it
  kept : (t : Option TaskRunState) → old (name_of e.act) ≡ t → (o : Option Outcome) → outcome_of t ≡ o → is_none o ≡ false → IsSame old new (name_of e.act)
  kept None there o is some = let none : None ≡ o = is in cc
  kept (Some t) there None is some = cc
  kept (Some t) there (Some outcome) is some =
      let later : Has (new (name_of e.act)) (TaskRunGrows t) = grow (name_of e.act) t there in
      let before : outcome_of (old (name_of e.act)) ≡ Some outcome = ap outcome_of there ∙ is in
      record {
        outcome = before ∙ sym (outcome_stays old new grow (name_of e.act) outcome before);
        absent = ap is_none there ∙ sym (ap is_none later.is);
      }

  all_stay : (same_kind kinds.TaskRuns (kind_of e.act) && is_none (outcome_of (old (name_of e.act)))) ≡ false → (name : List ℕ) → IsSame old new name
  all_stay stays = by_own (elim (and_cases (same_kind kinds.TaskRuns (kind_of e.act)) (is_none (outcome_of (old (name_of e.act)))) stays) [
    | inl other ↦ is_same old new (name_of e.act) (kind_stays (name_of e.act) other)
    | inr some ↦ kept (old (name_of e.act)) refl (outcome_of (old (name_of e.act))) refl some
  ])

  -- what isn't there now wasn't there
  never : (t : Option TaskRunState) → old (name_of e.act) ≡ t → new (name_of e.act) ≡ None → IsSame old new (name_of e.act)
  never None there gone = is_same old new (name_of e.act) (there ∙ sym gone)
  never (Some t) there gone =
      let later : Has (new (name_of e.act)) (TaskRunGrows t) = grow (name_of e.act) t there in
      let clash : Some later.it ≡ None = sym later.is ∙ gone in
      cc (clash)

  no_outcome : (o : Option Outcome) → is_none o ≡ true → o ≡ None
  no_outcome None is = refl
  no_outcome (Some outcome) is = cc

  module _ (r : ℕ) where
    known_same : ((name : List ℕ) → IsSame old new name) → (name : List ℕ) → known r place history name ≡ known r (place + 1) history name
    known_same same name = by (run_of (past r history) name)
      where
        by : (o : Option RunState) → option_map (standing_of old) o ≡ option_map (standing_of new) o
        by None = refl
        by (Some run) = ap Some (stands_same old new run (λ part has index below. same (child_name_of run.spec part.task index)))

    -- all runs stand as they did where the entry is of another kind, and where its TaskRun had an outcome
    pub known_kept : (same_kind kinds.TaskRuns (kind_of e.act) && is_none (outcome_of (task_run_of (past place history) (name_of e.act)))) ≡ false → (name : List ℕ) → known r place history name ≡ known r (place + 1) history name
    known_kept stays = known_same (all_stay stays)

    -- and where it isn't there
    pub known_absent : task_run_of (past (place + 1) history) (name_of e.act) ≡ None → (name : List ℕ) → known r place history name ≡ known r (place + 1) history name
    known_absent gone = known_same (by_own (never (old (name_of e.act)) refl gone))

    module _ (may : (same_kind kinds.TaskRuns (kind_of e.act) && is_none (outcome_of (task_run_of (past place history) (name_of e.act)))) ≡ true)
        (t : TaskRunState) (there : task_run_of (past (place + 1) history) (name_of e.act) ≡ Some t) where
      none : outcome_of (old (name_of e.act)) ≡ None
      none = no_outcome (outcome_of (old (name_of e.act))) (and_parts (same_kind kinds.TaskRuns (kind_of e.act)) (is_none (outcome_of (old (name_of e.act)))) may).1

      module _ (name : List ℕ) (run : RunState) (is : run_of (past r history) name ≡ Some run) where
        -- the entry's TaskRun is this child
        is_child : (part : Scheduled) → Contains run.scheduled part → (index : ℕ) → index < length part.bindings → bytes_eq (name_of e.act) (child_name_of run.spec part.task index) ≡ true
            → (t.run ≡ Some name) × (t.task ≡ part.task) × (t.index ≡ index)
        is_child part has index below hit =
            own_child history legal r (place + 1) name run is part has index below t
            (ap new (sym ((bytes_eq-Decides (name_of e.act) (child_name_of run.spec part.task index)).0 hit)) ∙ there)

        -- of a run that isn't its own
        not_own : is_name name t.run ≡ false → standing_of old run ≡ standing_of new run
        not_own other = stands_same old new run (λ part has index below. elim (cases_Bool (bytes_eq (name_of e.act) (child_name_of run.spec part.task index))) [
          | inl hit ↦
              let found = is_child part has index below hit in
              let own : is_name name t.run ≡ true = ap (is_name name) found.0 ∙ same_name name in
              absurd (cc (own, other))
          | inr miss ↦ is_same old new (child_name_of run.spec part.task index) (other_stays (child_name_of run.spec part.task index) miss)
        ])

        -- of its own
        module _ (own : t.run ≡ Some name) where
          named : name_of e.act ≡ child_name_of run.spec t.task t.index
          named = own_name history legal r (place + 1) name run is (name_of e.act) t there own

          was_open : IsOpen t.task t.index (facts_of old run)
          was_open child has task index =
              All-contains (HasOutcome (outcome_seen old run.spec)) (facts_of old run).children child (children_outcome (outcome_seen old run.spec) run.scheduled) has
              ∙ ap (λ (k : ℕ). outcome_seen old run.spec k child.index) task
              ∙ ap (outcome_seen old run.spec t.task) index
              ∙ ap (λ (n : List ℕ). outcome_of (old n)) (sym named)
              ∙ none

          -- another name is of another task or index
          elsewhere : (task index : ℕ) → bytes_eq (name_of e.act) (child_name_of run.spec task index) ≡ false → (task == t.task && index == t.index) ≡ false
          elsewhere task index miss = elim (cases_Bool (task == t.task && index == t.index)) [
            | inl both ↦
                let parts = and_parts (task == t.task) (index == t.index) both in
                let same : name_of e.act ≡ child_name_of run.spec task index =
                named ∙ ap (λ (k : ℕ). child_name_of run.spec k t.index) (sym (eqb-true task t.task parts.0)) ∙ ap (child_name_of run.spec task) (sym (eqb-true index t.index parts.1)) in
                let hit : bytes_eq (name_of e.act) (child_name_of run.spec task index) ≡ true = (bytes_eq-Decides (name_of e.act) (child_name_of run.spec task index)).1 same in
                absurd (cc (hit, miss))
            | inr other ↦ other
          ]

          ends : (o : Option Outcome) → outcome_of (Some t) ≡ o → (part : Scheduled) → Contains run.scheduled part → (index : ℕ) → index < length part.bindings
              → child_of part.task index (outcome_seen new run.spec part.task index) ≡ now_ended t.task t.index o (child_of part.task index (outcome_seen old run.spec part.task index))
          ends None ended part has index below =
              ap (child_of part.task index) (sym (elim (cases_Bool (bytes_eq (name_of e.act) (child_name_of run.spec part.task index))) [
                | inl hit ↦ subst (λ (n : List ℕ). outcome_of (old n) ≡ outcome_of (new n)) ((bytes_eq-Decides (name_of e.act) (child_name_of run.spec part.task index)).0 hit) (none ∙ sym (ap outcome_of there ∙ ended))
                | inr miss ↦ ap outcome_of (other_stays (child_name_of run.spec part.task index) miss)
              ]))
          ends (Some outcome) ended part has index below = elim (cases_Bool (bytes_eq (name_of e.act) (child_name_of run.spec part.task index))) [
            | inl hit ↦
                let found = is_child part has index below hit in
                let now : outcome_seen new run.spec part.task index ≡ Some outcome = ap (λ (n : List ℕ). outcome_of (new n)) (sym ((bytes_eq-Decides (name_of e.act) (child_name_of run.spec part.task index)).0 hit)) ∙ ap outcome_of there ∙ ended in
                ap (child_of part.task index) now
                ∙ sym (once_here part.task index outcome (outcome_seen old run.spec part.task index))
                ∙ ap (λ (k : ℕ). once_ended k index outcome (child_of part.task index (outcome_seen old run.spec part.task index))) (sym found.1)
                ∙ ap (λ (k : ℕ). once_ended t.task k outcome (child_of part.task index (outcome_seen old run.spec part.task index))) (sym found.2)
            | inr miss ↦
                ap (child_of part.task index) (sym (ap outcome_of (other_stays (child_name_of run.spec part.task index) miss)))
                ∙ sym (once_elsewhere t.task t.index outcome (child_of part.task index (outcome_seen old run.spec part.task index)) (elsewhere part.task index miss))
          ]

          children_now : (o : Option Outcome) → outcome_of (Some t) ≡ o → children_at new run ≡ map (now_ended t.task t.index o) (children_at old run)
          children_now o ended = children_moved (now_ended t.task t.index o) (outcome_seen old run.spec) (outcome_seen new run.spec) run.scheduled (ends o ended)

          facts_now : (o : Option Outcome) → outcome_of (Some t) ≡ o → ended_in t.task t.index o (facts_of old run) ≡ facts_of new run
          facts_now None ended = ap (λ (children : List Child). record { spec = run.spec; stops = run.stops; children = children }) (sym (children_now None ended ∙ map-id (children_at old run)))
          facts_now (Some outcome) ended = ap (λ (children : List Child). record { spec = run.spec; stops = run.stops; children = children }) (sym (children_now (Some outcome) ended))

          -- the child itself has a TaskRun now
          at_hand : (task index : ℕ) → (task == t.task && index == t.index) ≡ true → is_none (new (child_name_of run.spec task index)) ≡ false
          at_hand task index hit =
              let parts = and_parts (task == t.task) (index == t.index) hit in
              ap (λ (k : ℕ). is_none (new (child_name_of run.spec k index))) (eqb-true task t.task parts.0)
              ∙ ap (λ (k : ℕ). is_none (new (child_name_of run.spec t.task k))) (eqb-true index t.index parts.1)
              ∙ ap (λ (n : List ℕ). is_none (new n)) (sym named)
              ∙ ap is_none there

          hand : (o : Option Outcome) (c : Child) → (c.task == t.task && c.index == t.index) ≡ true → is_absent new run.spec (now_ended t.task t.index o c) ≡ false
          hand None c hit = at_hand c.task c.index hit
          hand (Some outcome) c hit = ap (is_absent new run.spec) (once_at t.task t.index outcome c hit) ∙ at_hand c.task c.index hit

          apart : (o : Option Outcome) (c : Child) → (c.task == t.task && c.index == t.index) ≡ false → now_ended t.task t.index o c ≡ c
          apart None c miss = refl
          apart (Some outcome) c miss = once_elsewhere t.task t.index outcome c miss

          moves : (o : Option Outcome) (c : Child) → IsOf run.scheduled c → Moves (now_ended t.task t.index o) (is_absent old run.spec) (is_absent new run.spec) (is_other t.task t.index) c
          moves o c of_run = elim (cases_Bool (c.task == t.task && c.index == t.index)) [
            | inl hit ↦ inr (ap not hit, hand o c hit)
            | inr miss ↦ inl (ap not miss, apart o c miss, sym (absent_stays miss))
          ]
            where
              absent_stays : (c.task == t.task && c.index == t.index) ≡ false → is_absent old run.spec c ≡ is_absent new run.spec c
              absent_stays miss = elim (cases_Bool (bytes_eq (name_of e.act) (child_name_of run.spec c.task c.index))) [
                | inl hit ↦
                    let found = is_child of_run.part of_run.has c.index of_run.below (subst (λ (k : ℕ). bytes_eq (name_of e.act) (child_name_of run.spec k c.index) ≡ true) (sym of_run.of_task) hit) in
                    let both : (c.task == t.task && c.index == t.index) ≡ true =
                    and_from (c.task == t.task) (c.index == t.index) (eq-eqb c.task t.task (sym (found.1 ∙ of_run.of_task))) (eq-eqb c.index t.index (sym found.2)) in
                    absurd (cc (both, miss))
                | inr other ↦ ap is_none (other_stays (child_name_of run.spec c.task c.index) other)
              ]

          missing_now : (o : Option Outcome) → outcome_of (Some t) ≡ o → filter (is_other t.task t.index) (filter (is_absent old run.spec) (children_at old run)) ≡ filter (is_absent new run.spec) (children_at new run)
          missing_now o ended =
              sym (ap (filter (is_absent new run.spec)) (children_now o ended)
              ∙ filter_moved (now_ended t.task t.index o) (is_absent old run.spec) (is_absent new run.spec) (is_other t.task t.index) (children_at old run)
              (All-weaker (IsOf run.scheduled) (Moves (now_ended t.task t.index o) (is_absent old run.spec) (is_absent new run.spec) (is_other t.task t.index)) (moves o) (children_at old run)
              (children_of_parts (outcome_seen old run.spec) run.scheduled)))

          stands_own : (o : Option Outcome) → outcome_of (Some t) ≡ o → stepped (steps.TaskRun t.task t.index o) (standing_of old run) ≡ standing_of new run
          stands_own o ended = ap₂ (λ (facts : Facts) (missing : List Child). record { facts = facts; missing = missing }) (facts_now o ended) (missing_now o ended)

      -- how each run stands once the entry's TaskRun is this one
      pub known_ended : (name : List ℕ) → standing_with t name (known r place history name) ≡ known r (place + 1) history name
      known_ended name = by (run_of (past r history) name) refl
        where
          by_name : (run : RunState) → run_of (past r history) name ≡ Some run
              → (if is_name name t.run then Some (stepped (steps.TaskRun t.task t.index (outcome_of (Some t))) (standing_of old run)) else Some (standing_of old run)) ≡ Some (standing_of new run)
          by_name run is = elim (cases_Bool (is_name name t.run)) [
            | inl own ↦ rw own (ap Some (stands_own name run is (is_named name t.run own) (outcome_of (Some t)) refl))
            | inr other ↦ rw other (ap Some (not_own name run is other))
          ]

          none_named : (b : Bool) → ◌≡◌ {A = Option Standing} (if b then None else None) None
          none_named true = refl
          none_named false = refl

          by : (o : Option RunState) → run_of (past r history) name ≡ o → standing_with t name (option_map (standing_of old) o) ≡ option_map (standing_of new) o
          by None is = none_named (is_name name t.run)
          by (Some run) is = by_name run is

      -- and what that asks of how they stood
      pub may_end : {A S : Type 0} (m : IndexMap (String A) Standing S) → ((name : List ℕ) → get_by_text m name ≡ known r place history name) → MayHaveTaskRun t m
      may_end m same name own = subst (λ (o : Option Standing). IfSome o (λ (s : Standing). IsOpen t.task t.index s.facts)) (sym (same name)) (by (run_of (past r history) name) refl)
        where
          by : (o : Option RunState) → run_of (past r history) name ≡ o → IfSome (option_map (standing_of old) o) (λ (s : Standing). IsOpen t.task t.index s.facts)
          by None is = tt
          by (Some run) is = was_open name run is own

-- Entries that admit sound objects of different names, none of which was made before, are a legal history.
use Rattle.std.proofs.Common.{◌≡◌, ◌≢◌, ℕ, Bool, true, false, ◌&&◌, List, [], ◌∷◌, ◌++◌, map, Option, Some, None, get_or, refl, sym, ap, ◌∙◌, subst, append_assoc, arith}
use Rattle.std.specs.Prelude.{All, AllPairs, bytes_eq, filter_map, ◌==◌}
use Rattle.std.specs.List.{cons_option, list_any}
use Rattle.std.specs.Option.{ForSome}
use Rattle.std.proofs.lemmas.Bool.{eq-eqb, or_parts}
use Rattle.std.proofs.lemmas.List.{get_or_append_left, get_or_default, length-append}
use Rattle.std.proofs.lemmas.List.Elements.{All-cons, All-head, All-nil, All-tail}
use Rattle.std.proofs.lemmas.List.Folds.{list_any-append}
use Rattle.std.proofs.lemmas.Option.{same_Some}
use mathlib.Core.List.{reverse_aux}
use Rattle.tk_types.specs.declared.object.Item.{Item}
use Rattle.tk_types.specs.declared.object.ItemObject.{ItemObject}
use Rattle.tk_types.specs.declared.object.ItemObject.TheVariants.{Task as TaskObject, Pipeline, TaskRun, PipelineRun, Outcomes, Scenario}
use Rattle.tk_types.specs.declared.scenario.Kind.{Kind}
use Rattle.tk_types.specs.declared.scenario.Kind.TheVariants.{Runs, TaskRuns, Pods}
use Rattle.tk_types.specs.Behaviour.{kind_of, name_of}
use Rattle.tk_types.specs.Place.{Place}
use Rattle.tk_names.specs.Clash.{clash}
use Rattle.tk_names.proofs.ClashLaw.{clash-none_is}
use Rattle.tk_types.proofs.FirstFound.{bytes_eq-swap}
use Rattle.tk_journal.specs.declared.act.Admission.{Admission}
use Rattle.tk_journal.specs.declared.act.Admission.TheVariants.{Run, Task}
use Rattle.tk_journal.specs.declared.entry.Entry.{Entry}
use Rattle.tk_journal.specs.Effects.{kind_of_admission, same_kind, writes}
use Rattle.tk_journal.specs.History.{run_of, run_written, state_of, task_run_written}
use Rattle.tk_journal.specs.Legal.{IsFree, IsLegal, IsStep, all_compared, is_admit}
use Rattle.tk_journal.specs.Names.{task_run_names}
use Rattle.tk_admit.specs.declared.taken.Taken.{Taken}
use Rattle.tk_admit.specs.Names.{all_names, clash_of, names_finding, owners}
use Rattle.tk_admit.specs.Objects.{is_same_object}
use Rattle.tk_admit.specs.Taken.{behind, entry_of, run_name, taken_of}
use Rattle.tk_read_laws.proofs.Nothing.{map_none}
use Rattle.tk_sound.proofs.Resolved.{each_resolved, each_resolved_task_run}
use Rattle.tk_sound.proofs.SoundRuns.{IsSoundTaken, no_run, taken_at}

-- the kind of what is taken in, and its name, are those of its object
abbrev number : Kind → ℕ
number Runs = 3
number TaskRuns = 2
number Pods = 9

record IsOf (object : ItemObject) (run : Taken) : Type 0 where
  name : run_name run.spec ≡ name_of object
  kind : number (kind_of_admission run.spec) ≡ kind_of object

taken_is_of : (place : Place) (earlier : List Item) (object : ItemObject) → ForSome (taken_at place earlier object) (IsOf object)
taken_is_of place earlier (PipelineRun run) =
    λ taken is. subst (IsOf (PipelineRun run)) (same_Some _ taken is)
    (record { name = each_resolved (λ spec. spec.name ≡ run.name) earlier run (λ spec stays. stays.name) (λ pipeline bodies found are. refl); kind = refl })
taken_is_of place earlier (TaskRun run) =
    λ taken is. subst (IsOf (TaskRun run)) (same_Some _ taken is)
    (record { name = each_resolved_task_run (λ spec. spec.name ≡ run.name) earlier run (λ spec stays. stays.name) (λ spec found. refl); kind = refl })
taken_is_of place earlier (TaskObject name spec) = no_run (IsOf (TaskObject name spec))
taken_is_of place earlier (Pipeline name spec) = no_run (IsOf (Pipeline name spec))
taken_is_of place earlier (Outcomes name spec) = no_run (IsOf (Outcomes name spec))
taken_is_of place earlier (Scenario name spec) = no_run (IsOf (Scenario name spec))

-- what no entry writes isn't there
none_of : {X : Type 0} (mine : Entry → Bool) (written : List Entry → Entry → Option X → Option X) (history : List Entry) → All (λ (e : Entry). mine e ≡ false) history → state_of mine written history ≡ None
none_of mine written [] none = refl
none_of mine written (e ∷ older) none =
    let P : Entry → Type 0 = λ (f : Entry). mine f ≡ false in
    rw (All-head P e older none) (none_of mine written older (All-tail P e older none))

is_free : (spec : Admission) (name : List ℕ) (older : List Entry) → All (λ (e : Entry). writes (kind_of_admission spec) name e ≡ false) older → IsFree (kind_of_admission spec) name older
is_free (Run spec) name older none = none_of (writes Runs name) (λ (others : List Entry) (e : Entry) before. run_written e before) older none
is_free (Task spec) name older none = none_of (writes TaskRuns name) (λ (others : List Entry) (e : Entry) before. task_run_written (run_of others) e before) older none

-- no entry writes an object that doesn't stand among these
abbrev Untouched : List Entry → List Item → Type 0
Untouched older earlier =
    (object : ItemObject) (kind : Kind) → number kind ≡ kind_of object → list_any (is_same_object object) earlier ≡ false
    → All (λ (e : Entry). writes kind (name_of object) e ≡ false) older

same_number : (a b : Kind) → same_kind a b ≡ true → number a ≡ number b
same_number Runs Runs is = refl
same_number TaskRuns TaskRuns is = refl
same_number Pods Pods is = refl
same_number Runs TaskRuns is = absurd (let f : ⊥ = cc in f)
same_number Runs Pods is = absurd (let f : ⊥ = cc in f)
same_number TaskRuns Runs is = absurd (let f : ⊥ = cc in f)
same_number TaskRuns Pods is = absurd (let f : ⊥ = cc in f)
same_number Pods Runs is = absurd (let f : ⊥ = cc in f)
same_number Pods TaskRuns is = absurd (let f : ⊥ = cc in f)

differs_by : (alike same : Bool) → (alike ≡ true → same ≡ false) → (alike && same) ≡ false
differs_by true same differ = differ refl
differs_by false same differ = refl

second_of : (a b : Bool) → (a && b) ≡ false → a ≡ true → b ≡ false
second_of true b e is = e
second_of false b e is = cc

-- the entry of an object writes no other one
entry_apart : (root : List ℕ) (object other : ItemObject) (place : Place) (run : Taken) (kind : Kind) → IsOf other run → number kind ≡ kind_of object
    → ((kind_of object == kind_of other) && bytes_eq (name_of object) (name_of other)) ≡ false → writes kind (name_of object) (entry_of root run) ≡ false
entry_apart root object other place run kind is of apart =
    differs_by (same_kind kind (kind_of_admission run.spec)) (bytes_eq (run_name run.spec) (name_of object))
    (λ alike.
    let kinds : kind_of object ≡ kind_of other = sym of ∙ (same_number kind (kind_of_admission run.spec) alike ∙ is.kind) in
    ap (λ n. bytes_eq n (name_of object)) is.name
    ∙ (bytes_eq-swap (name_of other) (name_of object)
    ∙ second_of (kind_of object == kind_of other) (bytes_eq (name_of object) (name_of other)) apart (eq-eqb (kind_of object) (kind_of other) kinds)))

-- one more object
one_apart : (object : ItemObject) (earlier : List Item) (item : Item) → list_any (is_same_object object) (earlier ++ item ∷ []) ≡ false
    → (list_any (is_same_object object) earlier ≡ false) × (is_same_object object item ≡ false)
one_apart object earlier item none =
    let parts = or_parts (list_any (is_same_object object) earlier) (list_any (is_same_object object) (item ∷ [])) (sym (list_any-append (is_same_object object) earlier (item ∷ [])) ∙ none) in
    (parts.0, (or_parts (is_same_object object item) false parts.1).0)

untouched_more : (older : List Entry) (earlier : List Item) (item : Item) → Untouched older earlier → Untouched older (earlier ++ item ∷ [])
untouched_more older earlier item before object kind of none = before object kind of (one_apart object earlier item none).0

untouched_entry : (root : List ℕ) (older : List Entry) (earlier : List Item) (item : Item) (run : Taken) → IsOf item.object run → Untouched older earlier → Untouched (entry_of root run ∷ older) (earlier ++ item ∷ [])
untouched_entry root older earlier item run is before object kind of none =
    let parts = one_apart object earlier item none in
    All-cons (λ (e : Entry). writes kind (name_of object) e ≡ false) (entry_of root run) older
    (entry_apart root object item.object item.place run kind is of parts.1) (before object kind of parts.0)

-- pairs at the front of a list
front_pairs : (xs ys : List (List ℕ)) → AllPairs (λ a b. a ≢ b) (xs ++ ys) → AllPairs (λ a b. a ≢ b) xs
front_pairs xs ys all i j d before inside =
    let long = length-append xs ys in
    subst (λ a. a ≢ get_or xs j d) (get_or_append_left xs ys d i (omega arith))
    (subst (λ b. get_or (xs ++ ys) i d ≢ b) (get_or_append_left xs ys d j inside) (all i j d before (omega (arith, long))))

-- all are admitted
abbrev IsAdmit : Entry → Type 0
IsAdmit e = is_admit e.act ≡ true

abbrev Differ : List (List ℕ) → Type 0
Differ names = AllPairs (λ a b. a ≢ b) names

-- what holds so far
record Begins (older : List Entry) (earlier : List Item) : Type 0 where
  legal : IsLegal older
  admits : All IsAdmit older
  untouched : Untouched older earlier

step_of : (root : List ℕ) (older : List Entry) (earlier : List Item) (item : Item) (run : Taken) → Begins older earlier → IsOf item.object run → IsSoundTaken run
    → list_any (is_same_object item.object) earlier ≡ false → Differ (all_compared (entry_of root run ∷ older)) → IsStep older (entry_of root run)
step_of root older earlier item run begins is sound new differ =
    record {
      runs_front = omega arith;
      task_runs_front = omega arith;
      pods_front = omega arith;
      fits = (begins.admits, sound, differ);
      justified = refl;
      writable =
          is_free run.spec (run_name run.spec) older
          (subst (λ n. All (λ (e : Entry). writes (kind_of_admission run.spec) n e ≡ false) older) (sym is.name)
          (begins.untouched item.object (kind_of_admission run.spec) is.kind new));
    }

-- the runs among these objects, behind those that stand earlier
abbrev pub runs_from : List Item → List Item → List Taken
runs_from earlier items = filter_map taken_of (behind earlier items)

-- each of the objects is the first of its kind and name
abbrev pub AreNew : List Item → List Item → Type 0
AreNew earlier [] = Unit {0}
AreNew earlier (item ∷ items) = (list_any (is_same_object item.object) earlier ≡ false) × AreNew (earlier ++ item ∷ []) items

goes_on : (root : List ℕ) (older : List Entry) (earlier : List Item) (item : Item) (items : List Item) (found : Option Taken) → taken_of (earlier, item) ≡ found
    → ((others : List Entry) → Begins others (earlier ++ item ∷ []) → All IsSoundTaken (runs_from (earlier ++ item ∷ []) items)
    → Differ (all_compared others ++ all_names (runs_from (earlier ++ item ∷ []) items)) → IsLegal (reverse_aux (map (entry_of root) (runs_from (earlier ++ item ∷ []) items)) others))
    → Begins older earlier → list_any (is_same_object item.object) earlier ≡ false
    → All IsSoundTaken (cons_option found (runs_from (earlier ++ item ∷ []) items))
    → Differ (all_compared older ++ all_names (cons_option found (runs_from (earlier ++ item ∷ []) items)))
    → IsLegal (reverse_aux (map (entry_of root) (cons_option found (runs_from (earlier ++ item ∷ []) items))) older)
goes_on root older earlier item items None is rest begins new sound differ =
    rest older (record { legal = begins.legal; admits = begins.admits; untouched = untouched_more older earlier item begins.untouched }) sound differ
goes_on root older earlier item items (Some run) is rest begins new sound differ =
    let later = runs_from (earlier ++ item ∷ []) items in
    let entry = entry_of root run in
    let of = taken_is_of item.place earlier item.object run is in
    let all : Differ (all_compared (entry ∷ older) ++ all_names later) = subst Differ (sym (append_assoc (all_compared older) (task_run_names run.spec) (all_names later))) differ in
    let step = step_of root older earlier item run begins of (All-head IsSoundTaken run later sound) new (front_pairs (all_compared (entry ∷ older)) (all_names later) all) in
    rest (entry ∷ older)
    (record {
      legal = (begins.legal, step);
      admits = All-cons IsAdmit entry older refl begins.admits;
      untouched = untouched_entry root older earlier item run of begins.untouched;
    })
    (All-tail IsSoundTaken run later sound) all

legal_onto : (root : List ℕ) (older : List Entry) (earlier items : List Item) → Begins older earlier → AreNew earlier items → All IsSoundTaken (runs_from earlier items)
    → Differ (all_compared older ++ all_names (runs_from earlier items)) → IsLegal (reverse_aux (map (entry_of root) (runs_from earlier items)) older)
legal_onto root older earlier [] begins new sound differ = begins.legal
legal_onto root older earlier (item ∷ items) begins new sound differ =
    goes_on root older earlier item items (taken_of (earlier, item)) refl
    (λ others so_far sound_rest differ_rest. legal_onto root others (earlier ++ item ∷ []) items so_far new.1 sound_rest differ_rest) begins new.0 sound differ

pub legal_items : (root : List ℕ) (items : List Item) → AreNew [] items → All IsSoundTaken (runs_from [] items) → AllPairs (λ a b. a ≢ b) (all_names (runs_from [] items))
    → IsLegal (reverse_aux (map (entry_of root) (runs_from [] items)) [])
legal_items root items new sound differ =
    legal_onto root [] [] items
    (record { legal = tt; admits = All-nil IsAdmit; untouched = λ object kind of none. All-nil (λ (e : Entry). writes kind (name_of object) e ≡ false) }) new sound differ

-- where no name clashes all differ
pub names_differ : (runs : List Taken) → names_finding runs ≡ None → AllPairs (λ a b. a ≢ b) (all_names runs)
names_differ runs e =
    let names = all_names runs in
    let below = (clash-none_is names).0 (map_none (clash_of (owners runs)) (clash names) e) in
    λ i j d before inside.
    subst (λ a. a ≢ get_or names j d) (get_or_default names i [] d (omega arith))
    (subst (λ b. get_or names i [] ≢ b) (get_or_default names j [] d inside) (below i j before inside))

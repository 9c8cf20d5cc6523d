-- The history of a graceful stop is legal, closes the run False Cancelled with `b` skipped, and leaves `r-a` Succeeded after two attempts.
use Rattle.std.proofs.Common.{sym, ◌≡◌, ◌≢◌, ℕ, zero, suc, ◌<◌, ◌≤◌, [], ◌∷◌, length, Option, Some, None, false, IsTrue, refl, ap, subst, All, AllPairs, Contains, arith, inl, inr, codes}
use Rattle.std.specs.Fmt.{digits}
use Rattle.std.specs.Prelude.{List, slice_index}
use Rattle.std.specs.List.{list_all}
use Rattle.std.proofs.lemmas.Option.{same_Some}
use Rattle.tk_types.specs.declared.object.Asked.{Asked}
use Rattle.tk_types.specs.declared.object.Asked.TheVariants as asks
use Rattle.tk_types.specs.declared.run.Start.TheVariants.{Ready}
use Rattle.tk_types.specs.declared.run.Stop.{Stop}
use Rattle.tk_types.specs.declared.run.Stop.TheVariants as stops
use Rattle.tk_types.specs.declared.task.PipelineTask.{PipelineTask}
use Rattle.tk_types.specs.declared.verdict.SkipReason.TheVariants.{Stopped}
use Rattle.tk_types.specs.Limits.{most_retries}
use Rattle.tk_vars.specs.Reading.{HasReading}
use Rattle.tk_graph.specs.Parents.{parents, parent_names}
use Rattle.tk_graph.specs.Results.{text_results}
use Rattle.tk_graph.specs.Unknown.{is_known}
use Rattle.tk_types.specs.Behaviour.{level_of}
use Rattle.tk_verdict.specs.Gives.{label_of}
use Rattle.tk_verdict.specs.Texts.{skip_text}
use Rattle.tk_journal.specs.declared.act.Act.{Act}
use Rattle.tk_journal.specs.declared.entry.Actor.{Actor}
use Rattle.tk_journal.specs.declared.entry.Entry.{Entry}
use Rattle.tk_journal.specs.declared.object.Attempt.{Attempt}
use Rattle.tk_journal.specs.declared.object.RunState.{RunState}
use Rattle.tk_journal.specs.declared.object.Scheduled.{Scheduled}
use Rattle.tk_journal.specs.Effects.{admitted_run, is_create, kind_of, name_of, run_after}
use Rattle.tk_journal.specs.History.{past, task_run_of, view_at}
use Rattle.tk_journal.specs.Legal.{Fits, IsLegal, IsStep, IsWritable}
use Rattle.tk_journal.specs.Lists.{Has, IsThere}
use Rattle.tk_journal.specs.Names.{child_name_of, possible_of}
use Rattle.tk_journal.specs.PodRows.{AreResults}
use Rattle.tk_journal.specs.Right.{IsRight}
use Rattle.tk_journal.specs.RowOne.{all_at, by}
use Rattle.tk_journal.specs.Rows.{IsJustified}
use Rattle.tk_journal.specs.RunRows.{facts_in, IsDone, ScheduleRow}
use Rattle.tk_journal.specs.Sound.{IsSoundSpec, IsSoundRun, HasSteps, longest_duration}
use Rattle.tk_journal.specs.Stops.{asked_level}
use Rattle.tk_journal.specs.TaskRunRows.{IsOpenAttempt}
use Rattle.tk_journal.proofs.Induction.{legal_is_right}
use Rattle.tk_actor_tests.specs.GracefulStop.{run_r, task_a, task_b, task_f, body_of, failed, e1, e2, e3, e4, e5, e6, e7, e8, e9, e10, e11, e12, e13, e14, e15, e16, e17, e18, e19, e20, e21, e22, e23, e24, h4, h7, h9, h12, h16, h23, graceful_stop, of_b, scheduled_b, LeavesStopped}

-- what holds of three elements, or of each pair of them, and of one
all_three : {X : Type 0} (P : X → Type 0) (x y z : X) → P x → P y → P z → All P (x ∷ y ∷ z ∷ [])
all_three P x y z of_x of_y of_z zero d below = of_x
all_three P x y z of_x of_y of_z (suc zero) d below = of_y
all_three P x y z of_x of_y of_z (suc (suc zero)) d below = of_z
all_three P x y z of_x of_y of_z (suc (suc (suc k))) d below = absurd (omega (arith, below))

all_pairs : {X : Type 0} (R : X → X → Type 0) (x y z : X) → R x y → R x z → R y z → AllPairs R (x ∷ y ∷ z ∷ [])
all_pairs R x y z xy xz yz zero zero d less below = absurd (omega (arith, less))
all_pairs R x y z xy xz yz zero (suc zero) d less below = xy
all_pairs R x y z xy xz yz zero (suc (suc zero)) d less below = xz
all_pairs R x y z xy xz yz zero (suc (suc (suc j))) d less below = absurd (omega (arith, below))
all_pairs R x y z xy xz yz (suc i) zero d less below = absurd (omega (arith, less))
all_pairs R x y z xy xz yz (suc zero) (suc zero) d less below = absurd (omega (arith, less))
all_pairs R x y z xy xz yz (suc zero) (suc (suc zero)) d less below = yz
all_pairs R x y z xy xz yz (suc zero) (suc (suc (suc j))) d less below = absurd (omega (arith, below))
all_pairs R x y z xy xz yz (suc (suc i)) (suc zero) d less below = absurd (omega (arith, less))
all_pairs R x y z xy xz yz (suc (suc i)) (suc (suc j)) d less below = absurd (omega (arith, less, below))

all_one : {X : Type 0} (P : X → Type 0) (x : X) → P x → All P (x ∷ [])
all_one P x of_x zero d below = of_x
all_one P x of_x (suc k) d below = absurd (omega (arith, below))

the_one : {X : Type 0} (P : X → Type 0) (x y : X) → P x → Contains (x ∷ []) y → P y
the_one P x y of_x (zero, below, is) = subst P is of_x
the_one P x y of_x (suc k, below, is) = absurd (omega (arith, below))

-- names are apart by one letter
apart : (place : ℕ) (x y : List ℕ) → slice_index x place < slice_index y place → x ≢ y
apart place x y less same = omega (arith, less, ap (λ (name : List ℕ). slice_index name place) same)

-- the run is sound

-- `a` ranks below `b`
rises : (parent place : ℕ) → Contains (parents run_r.tasks place) parent → slice_index (0 ∷ 1 ∷ []) parent < slice_index (0 ∷ 1 ∷ []) place
unfolding text_results
rises parent zero has = absurd (omega (arith, has.1))
rises parent (suc zero) has = the_one (λ (p : ℕ). slice_index (0 ∷ 1 ∷ []) p < 1) 0 parent (omega arith) has
rises parent (suc (suc place)) has = absurd (omega (arith, has.1))

-- the one parent that is named is there
known : All (λ (task : PipelineTask). IsTrue (list_all (is_known run_r.tasks) (parent_names task))) (task_a ∷ task_b ∷ task_f ∷ [])
unfolding text_results
known = all_three (λ (task : PipelineTask). IsTrue (list_all (is_known run_r.tasks) (parent_names task))) task_a task_b task_f refl refl refl

plain_text : HasReading (codes "true")
plain_text = record { joined = refl; allowed = refl; apart = refl; alone = refl }

has_steps : (name : List ℕ) → HasSteps Ready (body_of name)
has_steps name = record { few = omega arith; some = λ ready. omega arith }

sound_tasks : IsSoundSpec run_r
unfolding text_results
sound_tasks = record {
  few_tasks = omega arith;
  names_differ = all_pairs (λ (x y : PipelineTask). x.name ≢ y.name) task_a task_b task_f (apart 0 task_a.name task_b.name (omega arith))
      (apart 0 task_a.name task_f.name (omega arith)) (apart 0 task_b.name task_f.name (omega arith));
  one_body_each = refl;
  parents_exist = known;
  acyclic = (0 ∷ 1 ∷ [], record { count = refl; rising = rises });
  readable = all_three HasReading (codes "true") (codes "true") (codes "true") plain_text plain_text plain_text;
  entries = refl;
  steps = all_three (HasSteps Ready) (body_of (codes "a")) (body_of (codes "b")) (body_of (codes "f")) (has_steps (codes "a")) (has_steps (codes "b")) (has_steps (codes "f"));
  few_retries = all_three (λ (task : PipelineTask). task.retries ≤ most_retries) task_a task_b task_f (omega arith) (omega arith) (omega arith);
}

sound_r : IsSoundRun (codes "r") None run_r
sound_r = record {
  named = refl;
  is_name = refl;
  are_labels = refl;
  tasks = sound_tasks;
  few_children = all_three (λ (task : PipelineTask). possible_of run_r task ≤ 256) task_a task_b task_f (omega arith) (omega arith) (omega arith);
  asked_stops = λ status is. cc;
  timeouts = (omega arith, omega arith, omega arith);
  task_timeouts = all_three (λ (task : PipelineTask). task.timeout ≤ longest_duration) task_a task_b task_f (omega arith) (omega arith) (omega arith);
}

-- of the names that the TaskRuns may have
child_names_differ : AllPairs (λ (x y : List ℕ). x ≢ y) (codes "r-a" ∷ codes "r-b" ∷ codes "r-f" ∷ [])
child_names_differ =
    all_pairs (λ (x y : List ℕ). x ≢ y) (codes "r-a") (codes "r-b") (codes "r-f") (apart 2 (codes "r-a") (codes "r-b") (omega arith))
    (apart 2 (codes "r-a") (codes "r-f") (omega arith)) (apart 2 (codes "r-b") (codes "r-f") (omega arith))

-- the object is there, and it has P
there : {X : Type 0} {o : Option X} {P : X → Type 0} {it : X} → o ≡ Some it → P it → Has o P
there is has = record { it = _; is = is; has = has }

-- a step whose actor sees all
step : {older : List Entry} {actor : Actor} {act : Act} → Fits older (by actor (length older) act) act → IsJustified (view_at (all_at (length older)) older) actor 0 act
    → IsWritable (is_create act) (kind_of act) (name_of act) (all_at (length older)) older → IsStep older (by actor (length older) act)
step fits justified writable = record {
  runs_front = omega arith;
  task_runs_front = omega arith;
  pods_front = omega arith;
  fits = fits;
  justified = justified;
  writable = writable;
}

-- `a` is scheduled

s1 : IsStep [] e1
s1 = step (λ k d below. absurd (omega (arith, below)), sound_r, child_names_differ) refl refl

s2 : IsStep (e1 ∷ []) e2
s2 = step tt (tt, there refl (record { startable = refl; not_pending = refl; not_started = refl; not_closed = refl })) refl

s3 : IsStep (e2 ∷ e1 ∷ []) e3
unfolding text_results
s3 = step tt (
  tt,
  there refl (record {
    started = (0, refl);
    not_closed = refl;
    own_bindings = refl;
    may = (refl, λ k d below. absurd (omega (arith, below)), λ bad. absurd (omega (arith, bad.scheduled_part.1)));
  }),
) refl

s4 : IsStep (e3 ∷ e2 ∷ e1 ∷ []) e4
s4 = step tt (
  tt,
  there refl (record {
    child = (_, refl);
    not_closed = refl;
    named = refl;
    absent = refl;
    marked = (λ mark. cc (mark), λ reached. absurd (omega (arith, reached.1.1)));
  }),
) refl

legal_4 : IsLegal h4
legal_4 = ((((tt, s1), s2), s3), s4)

-- the first attempt of `a` is claimed

s5 : IsStep h4 e5
s5 = step tt (
  tt,
  there refl (record {
    startable = refl;
    not_closed = refl;
    not_marked = refl;
    none_open = λ place o. let none = o.at in cc (none);
    more = omega arith;
  }),
) refl

s6 : IsStep (e5 ∷ h4) e6
unfolding digits
s6 = step tt (
  tt,
  there refl (record {
    place = 0;
    number = refl;
    is_open = record { attempt = _; at = refl; no_outcome = refl };
    named = refl;
    planned = refl;
    marked = refl;
  }),
  refl,
) refl

s7 : IsStep (e6 ∷ e5 ∷ h4) e7
s7 = step tt (there refl (record { unclaimed = refl; number = 0; life = 1; by = refl; room = omega arith })) refl

legal_7 : IsLegal h7
legal_7 = (((legal_4, s5), s6), s7)

-- the stop is asked and recorded

s8 : IsStep h7 e8
s8 = step (refl, refl, refl) (
  refl,
  there refl (record {
    not_closed = refl;
    higher = (λ k d below. absurd (omega (arith, below)), λ k d below. absurd (omega (arith, below)));
  }),
) refl

s9 : IsStep (e8 ∷ h7) e9
s9 = step tt (
  tt,
  there refl (record {
    started = (0, refl);
    not_closed = refl;
    above = λ k d below. absurd (omega (arith, below));
    cause = record {
      status = asks.StoppedRunFinally;
      asked = (0, omega arith, refl);
      same = refl;
      highest = all_one (λ (status : Asked). asked_level status ≤ 1) asks.StoppedRunFinally (omega arith);
    };
  }),
) refl

legal_9 : IsLegal h9
legal_9 = ((legal_7, s8), s9)

-- the first attempt ends, and the retry is opened

-- no results are declared, and none are told
no_results : AreResults [] []
no_results = record { once = λ i j d less below. absurd (omega (arith, below)); each = λ param has. absurd (omega (arith, has.1)) }

s10 : IsStep h9 e10
s10 = step tt (there refl (record {
  number = 0;
  life = 1;
  by = refl;
  claimed_in = 1;
  claimed = refl;
  unended = refl;
  fits = inl (refl, record { few = omega arith; before_last = λ step lt. absurd (omega (arith, lt)) }, ((0, refl), no_results));
})) refl

s11 : IsStep (e10 ∷ h9) e11
unfolding digits
s11 = step tt (
  tt,
  there refl (record {
    not_closed = refl;
    place = 0;
    is_open = record { attempt = _; at = refl; no_outcome = refl };
    pod_ended = there refl (there refl refl);
  }),
) refl

-- the first attempt has an outcome
ended_is_not_open : (place : ℕ) → IsOpenAttempt (record { moment = 0; outcome = Some failed } ∷ []) place → ⊥
ended_is_not_open zero o = let same : Some failed ≡ o.attempt.outcome = ap (λ (attempt : Attempt). attempt.outcome) (same_Some _ _ o.at) in cc (same, o.no_outcome)
ended_is_not_open (suc place) o = let none = o.at in cc (none)

s12 : IsStep (e11 ∷ e10 ∷ h9) e12
s12 = step tt (
  tt,
  there refl (record {
    startable = refl;
    not_closed = refl;
    not_marked = refl;
    none_open = ended_is_not_open;
    more = omega arith;
  }),
) refl

legal_12 : IsLegal h12
legal_12 = (((legal_9, s10), s11), s12)

-- the second attempt of `a`

s13 : IsStep h12 e13
unfolding digits
s13 = step tt (
  tt,
  there refl (record {
    place = 1;
    number = refl;
    is_open = record { attempt = _; at = refl; no_outcome = refl };
    named = refl;
    planned = refl;
    marked = refl;
  }),
  refl,
) refl

s14 : IsStep (e13 ∷ h12) e14
s14 = step tt (there refl (record { unclaimed = refl; number = 0; life = 1; by = refl; room = omega arith })) refl

s15 : IsStep (e14 ∷ e13 ∷ h12) e15
s15 = step tt (there refl (record {
  number = 0;
  life = 1;
  by = refl;
  claimed_in = 1;
  claimed = refl;
  unended = refl;
  fits = inl (refl, record { few = omega arith; before_last = λ step lt. absurd (omega (arith, lt)) }, (refl, no_results));
})) refl

s16 : IsStep (e15 ∷ e14 ∷ e13 ∷ h12) e16
unfolding digits
s16 = step tt (
  tt,
  there refl (record {
    not_closed = refl;
    place = 1;
    is_open = record { attempt = _; at = refl; no_outcome = refl };
    pod_ended = there refl (there refl refl);
  }),
) refl

legal_16 : IsLegal h16
legal_16 = ((((legal_12, s13), s14), s15), s16)

-- `f` is scheduled, runs and ends

s17 : IsStep h16 e17
unfolding text_results
s17 = step tt (
  tt,
  there refl (record {
    started = (0, refl);
    not_closed = refl;
    own_bindings = refl;
    may = (all_one (λ (stop : Stop). level_of stop < 3) stops.StoppedRunFinally (omega arith), all_one (λ (status : Asked). asked_level status < 3) asks.StoppedRunFinally (omega arith));
  }),
) refl

-- the stop doesn't reach `finally`
not_reached : (stop : Stop) → Contains (stops.StoppedRunFinally ∷ []) stop → level_of stop < 3
not_reached stop has = the_one (λ (s : Stop). level_of s < 3) stops.StoppedRunFinally stop (omega arith) has

s18 : IsStep (e17 ∷ h16) e18
s18 = step tt (
  tt,
  there refl (record {
    child = (_, refl);
    not_closed = refl;
    named = refl;
    absent = refl;
    marked = (λ mark. cc (mark), λ reached. absurd (omega (arith, not_reached reached.0 reached.1, reached.2)));
  }),
) refl

s19 : IsStep (e18 ∷ e17 ∷ h16) e19
s19 = step tt (
  tt,
  there refl (record {
    startable = refl;
    not_closed = refl;
    not_marked = refl;
    none_open = λ place o. let none = o.at in cc (none);
    more = omega arith;
  }),
) refl

s20 : IsStep (e19 ∷ e18 ∷ e17 ∷ h16) e20
unfolding digits
s20 = step tt (
  tt,
  there refl (record {
    place = 0;
    number = refl;
    is_open = record { attempt = _; at = refl; no_outcome = refl };
    named = refl;
    planned = refl;
    marked = refl;
  }),
  refl,
) refl

s21 : IsStep (e20 ∷ e19 ∷ e18 ∷ e17 ∷ h16) e21
s21 = step tt (there refl (record { unclaimed = refl; number = 0; life = 1; by = refl; room = omega arith })) refl

s22 : IsStep (e21 ∷ e20 ∷ e19 ∷ e18 ∷ e17 ∷ h16) e22
s22 = step tt (there refl (record {
  number = 0;
  life = 1;
  by = refl;
  claimed_in = 1;
  claimed = refl;
  unended = refl;
  fits = inl (refl, record { few = omega arith; before_last = λ step lt. absurd (omega (arith, lt)) }, (refl, no_results));
})) refl

s23 : IsStep (e22 ∷ e21 ∷ e20 ∷ e19 ∷ e18 ∷ e17 ∷ h16) e23
unfolding digits
s23 = step tt (
  tt,
  there refl (record {
    not_closed = refl;
    place = 0;
    is_open = record { attempt = _; at = refl; no_outcome = refl };
    pod_ended = there refl (there refl refl);
  }),
) refl

legal_23 : IsLegal h23
legal_23 = (((((((legal_16, s17), s18), s19), s20), s21), s22), s23)

-- the run is over

abbrev part_of : ℕ → Scheduled
part_of task = record { task = task; bindings = record { params = [] } ∷ [] }

-- of each part there is one child
only : (P : Scheduled → ℕ → Type 0) → P (part_of 0) 0 → P (part_of 2) 0 → (part : Scheduled) → Contains (part_of 0 ∷ part_of 2 ∷ []) part → (index : ℕ) → index < length part.bindings → P part index
only P of_a of_f part (zero, below, is) zero within = subst (λ (p : Scheduled). P p 0) is of_a
only P of_a of_f part (zero, below, is) (suc index) within = let size : 1 ≡ length part.bindings = ap (λ (p : Scheduled). length p.bindings) is in absurd (omega (arith, size))
only P of_a of_f part (suc zero, below, is) zero within = subst (λ (p : Scheduled). P p 0) is of_f
only P of_a of_f part (suc zero, below, is) (suc index) within = let size : 1 ≡ length part.bindings = ap (λ (p : Scheduled). length p.bindings) is in absurd (omega (arith, size))
only P of_a of_f part (suc (suc k), below, is) index within = absurd (omega (arith, below))

-- the run before and after `f` is scheduled
abbrev run_16 : RunState
run_16 = run_after 0 e9.act (run_after 0 e8.act (run_after 0 e3.act (run_after 0 e2.act (admitted_run run_r false None (codes "/work")))))

abbrev run_23 : RunState
run_23 = run_after 0 e17.act run_16

-- `a` and `f` ran, and `b` is skipped
all_done : (task : ℕ) → task < 3 → IsDone (label_of (facts_in (view_at e24.fronts h23) run_23) task)
unfolding text_results
all_done zero below = refl
all_done (suc zero) below = refl
all_done (suc (suc zero)) below = refl
all_done (suc (suc (suc task))) below = absurd (omega (arith, below))

-- what is asked is recorded
recorded : (status : Asked) → Contains (asks.StoppedRunFinally ∷ []) status → (stop : Stop) × Contains (stops.StoppedRunFinally ∷ []) stop × (asked_level status ≤ level_of stop)
recorded status has = (stops.StoppedRunFinally, (0, omega arith, refl), the_one (λ (s : Asked). asked_level s ≤ 1) asks.StoppedRunFinally status (omega arith) has)

s24 : IsStep h23 e24
unfolding text_results
s24 = step tt (
  tt,
  there refl (record {
    not_closed = refl;
    not_pending = refl;
    over = inr (record {
      startable = refl;
      started = (0, refl);
      children = only (λ part index. Has (task_run_of h23 (child_name_of run_r part.task index)) (λ task_run. IsThere task_run.closed)) (there refl (_, refl)) (there refl (_, refl));
      tasks = all_done;
      asked = λ status has level. recorded status has;
    });
    is_closing = record { condition = _; decided = refl; same = refl };
  }),
) refl

pub is_legal : IsLegal graceful_stop
is_legal = (legal_23, s24)

pub is_right : (n : ℕ) → IsRight (past n graceful_stop)
is_right = legal_is_right graceful_stop is_legal

pub skip_of_b : skip_text (Stopped stops.StoppedRunFinally) ≡ codes "PipelineRun was gracefully stopped"
skip_of_b = refl

pub leaves : LeavesStopped graceful_stop
leaves = record { closed = there refl refl; a_twice = there refl (refl, refl); f_once = there refl (refl, refl); no_b = refl }

-- a Schedule of `b` isn't legal at position 17, since the stop is recorded

pub b_is_not_scheduled : IsLegal (scheduled_b ∷ h16) → ⊥
b_is_not_scheduled legal =
    let row = legal.1.justified.1 in
    let same : row.it ≡ run_16 = same_Some row.it run_16 (sym row.is) in
    let has : ScheduleRow (view_at scheduled_b.fronts h16) 1 of_b run_16 = subst (λ (run : RunState). ScheduleRow (view_at scheduled_b.fronts h16) 1 of_b run) same row.has in
    let none : stops.StoppedRunFinally ∷ [] ≡ [] = has.may.0 in
    cc (none)

-- The history of row one is legal, and closes the run True Succeeded; with its entry 5 twice it isn't legal at position 6.
use Rattle.std.proofs.Common.{sym, ◌∙◌, Option, ◌≡◌, ℕ, zero, suc, ◌<◌, ◌≤◌, [], ◌∷◌, length, Some, None, false, IsTrue, refl, ap, subst, Contains, arith, inl, inr, codes}
use Rattle.std.specs.Fmt.{digits}
use Rattle.tk_journal.specs.declared.object.Scheduled.{Scheduled}
use Rattle.tk_journal.specs.declared.object.RunState.{RunState}
use Rattle.tk_journal.specs.Lists.{Has, IsThere}
use Rattle.std.specs.Prelude.{slice_index, slice_index_or, List}
use Rattle.std.specs.List.{list_all}
use Rattle.tk_types.specs.declared.run.Start.TheVariants.{Ready}
use Rattle.tk_types.specs.declared.task.TaskBody.{TaskBody}
use Rattle.tk_vars.specs.Reading.{HasReading}
use Rattle.tk_graph.specs.Results.{text_results}
use Rattle.tk_graph.specs.Parents.{parents, parent_names}
use Rattle.tk_graph.specs.Unknown.{is_known}
use Rattle.tk_types.specs.Limits.{most_retries}
use Rattle.tk_journal.specs.Sound.{IsSoundSpec, IsSoundRun, HasSteps, longest_duration}
use Rattle.tk_types.specs.declared.task.PipelineTask.{PipelineTask}
use Rattle.tk_journal.specs.Effects.{admitted_run, run_after}
use Rattle.tk_journal.specs.Names.{child_name_of, possible_of}
use Rattle.tk_journal.specs.RunRows.{facts_in, IsDone}
use Rattle.tk_journal.specs.History.{past, run_of, task_run_of, view_at}
use Rattle.tk_journal.specs.Right.{IsRight}
use Rattle.tk_journal.proofs.Induction.{legal_is_right}
use Rattle.tk_journal.specs.Legal.{IsLegal, IsStep}
use Rattle.std.proofs.lemmas.Option.{same_Some}
use Rattle.tk_types.specs.declared.value.Value.TheVariants.{Str}
use Rattle.tk_types.specs.declared.verdict.Binding.{Binding}
use Rattle.tk_verdict.specs.Labels.{labels_of, ready_bindings}
use Rattle.tk_journal.specs.declared.entry.Entry.{Entry}
use Rattle.tk_journal.specs.declared.entry.Actor.TheVariants as actors
use Rattle.tk_journal.specs.declared.act.Act.TheVariants as acts
use Rattle.tk_journal.specs.History.{View}
use Rattle.tk_journal.specs.RowOne.{by, e1, e2, e3, e4, e5, e6, e7, e8, e9, e10, run_r, task_a, row_one, opened_twice, closing_r}
use Rattle.tk_verdict.specs.Gives.{label_of}

few_a : (k : ℕ) (d : PipelineTask) → k < 1 → (slice_index_or (task_a ∷ []) k d).retries ≤ most_retries
few_a zero d lt = omega arith
few_a (suc k) d lt = absurd (omega arith)

quick_a : (k : ℕ) (d : PipelineTask) → k < 1 → (slice_index_or (task_a ∷ []) k d).timeout ≤ longest_duration
quick_a zero d lt = omega arith
quick_a (suc k) d lt = absurd (omega arith)

possible_a : (k : ℕ) (d : PipelineTask) → k < 1 → possible_of run_r (slice_index_or (task_a ∷ []) k d) ≤ 256
possible_a zero d lt = omega arith
possible_a (suc k) d lt = absurd (omega arith)

known_a : (k : ℕ) (d : PipelineTask) → k < 1 → IsTrue (list_all (is_known run_r.tasks) (parent_names (slice_index_or (task_a ∷ []) k d)))
unfolding text_results
known_a zero d lt = refl
known_a (suc k) d lt = absurd (omega arith)

rises_a : (parent place : ℕ) → Contains (parents run_r.tasks place) parent → slice_index (0 ∷ []) parent < slice_index (0 ∷ []) place
unfolding text_results
rises_a parent zero has = absurd (omega (arith, has.1))
rises_a parent (suc place) has = absurd (omega (arith, has.1))

plain_text : HasReading (codes "true")
plain_text = record { joined = refl; allowed = refl; apart = refl; alone = refl }

reads_a : (k : ℕ) (d : List ℕ) → k < 1 → HasReading (slice_index_or (codes "true" ∷ []) k d)
reads_a zero d lt = plain_text
reads_a (suc k) d lt = absurd (omega arith)

steps_a : (k : ℕ) (d : TaskBody) → k < 1 → HasSteps Ready (slice_index_or run_r.bodies k d)
steps_a zero d lt = record { few = omega arith; some = λ ready. omega arith }
steps_a (suc k) d lt = absurd (omega arith)

sound_a : IsSoundSpec run_r
unfolding text_results
sound_a = record {
  few_tasks = omega arith;
  names_differ = λ i j d lt within. absurd (omega arith);
  one_body_each = refl;
  parents_exist = known_a;
  acyclic = (0 ∷ [], record { count = refl; rising = rises_a });
  readable = reads_a;
  entries = refl;
  steps = steps_a;
  few_retries = few_a;
}

sound_r : IsSoundRun (codes "r") None run_r
sound_r = record {
  named = refl;
  is_name = refl;
  are_labels = refl;
  tasks = sound_a;
  few_children = possible_a;
  asked_stops = λ status is. cc;
  timeouts = (omega arith, omega arith, omega arith);
  task_timeouts = quick_a;
}

s1 : IsStep [] e1
s1 = record {
  runs_front = omega arith;
  task_runs_front = omega arith;
  pods_front = omega arith;
  fits = (λ k d below. absurd (omega arith), sound_r, λ i j d less below. absurd (omega arith));
  justified = refl;
  writable = refl;
}

s2 : IsStep (e1 ∷ []) e2
s2 = record {
  runs_front = omega arith;
  task_runs_front = omega arith;
  pods_front = omega arith;
  fits = tt;
  justified = (tt, record { it = _; is = refl; has = record { startable = refl; not_pending = refl; not_started = refl; not_closed = refl } });
  writable = refl;
}

s3 : IsStep (e2 ∷ e1 ∷ []) e3
unfolding text_results
s3 = record {
  runs_front = omega arith;
  task_runs_front = omega arith;
  pods_front = omega arith;
  fits = tt;
  justified = (tt, record { it = _; is = refl; has = record { started = (0, refl); not_closed = refl; own_bindings = refl; may = (refl, λ k d below. absurd (omega arith), λ bad. absurd (omega (arith, bad.scheduled_part.1))) } });
  writable = refl;
}

s4 : IsStep (e3 ∷ e2 ∷ e1 ∷ []) e4
s4 = record {
  runs_front = omega arith;
  task_runs_front = omega arith;
  pods_front = omega arith;
  fits = tt;
  justified = (tt, record { it = _; is = refl; has = record { child = (_, refl); not_closed = refl; named = refl; absent = refl; marked = (λ mark. cc (mark), λ reached. absurd (omega (arith, reached.1.1))) } });
  writable = refl;
}

s5 : IsStep (e4 ∷ e3 ∷ e2 ∷ e1 ∷ []) e5
s5 = record {
  runs_front = omega arith;
  task_runs_front = omega arith;
  pods_front = omega arith;
  fits = tt;
  justified = (tt, record { it = _; is = refl; has = record { startable = refl; not_closed = refl; not_marked = refl; none_open = λ place o. let none = o.at in cc (none); more = omega arith } });
  writable = refl;
}

s6 : IsStep (e5 ∷ e4 ∷ e3 ∷ e2 ∷ e1 ∷ []) e6
unfolding digits
s6 = record {
  runs_front = omega arith;
  task_runs_front = omega arith;
  pods_front = omega arith;
  fits = tt;
  justified = (tt, record { it = _; is = refl; has = record { place = 0; number = refl; is_open = record { attempt = _; at = refl; no_outcome = refl }; named = refl; planned = refl; marked = refl } }, refl);
  writable = refl;
}

s7 : IsStep (e6 ∷ e5 ∷ e4 ∷ e3 ∷ e2 ∷ e1 ∷ []) e7
s7 = record {
  runs_front = omega arith;
  task_runs_front = omega arith;
  pods_front = omega arith;
  fits = tt;
  justified = record { it = _; is = refl; has = record { unclaimed = refl; number = 0; life = 1; by = refl; room = omega arith } };
  writable = refl;
}

s8 : IsStep (e7 ∷ e6 ∷ e5 ∷ e4 ∷ e3 ∷ e2 ∷ e1 ∷ []) e8
s8 = record {
  runs_front = omega arith;
  task_runs_front = omega arith;
  pods_front = omega arith;
  fits = tt;
  justified = record { it = _; is = refl; has = record { number = 0; life = 1; by = refl; claimed_in = 1; claimed = refl; unended = refl; fits = inl (refl, record { few = omega arith; before_last = λ step lt. absurd (omega arith) }, (refl, record { once = λ i j d less below. absurd (omega arith); each = λ param has. absurd (omega (arith, has.1)) })) } };
  writable = refl;
}

s9 : IsStep (e8 ∷ e7 ∷ e6 ∷ e5 ∷ e4 ∷ e3 ∷ e2 ∷ e1 ∷ []) e9
unfolding digits
s9 = record {
  runs_front = omega arith;
  task_runs_front = omega arith;
  pods_front = omega arith;
  fits = tt;
  justified = (tt, record { it = _; is = refl; has = record { not_closed = refl; place = 0; is_open = record { attempt = _; at = refl; no_outcome = refl }; pod_ended = record { it = _; is = refl; has = record { it = _; is = refl; has = refl } } } });
  writable = refl;
}

abbrev part_a : Scheduled
part_a = record { task = 0; bindings = record { params = [] } ∷ [] }

-- there is one child
only : (P : Scheduled → ℕ → Type 0) → P part_a 0 → (part : Scheduled) → Contains (part_a ∷ []) part → (index : ℕ) → index < length part.bindings → P part index
only P one part (zero, below, is) zero within = subst (λ (p : Scheduled). P p 0) is one
only P one part (zero, below, is) (suc index) within = let size : length part_a.bindings ≡ length part.bindings = ap (λ (p : Scheduled). length p.bindings) is in absurd (omega (arith, size))
only P one part (suc k, below, is) index within = absurd (omega arith)

abbrev run_then : RunState
run_then = run_after 0 e3.act (run_after 0 e2.act (admitted_run run_r false None (codes "/work")))

first_alone : (task : ℕ) → task < 1 → IsDone (label_of (facts_in (view_at e10.fronts (e9 ∷ e8 ∷ e7 ∷ e6 ∷ e5 ∷ e4 ∷ e3 ∷ e2 ∷ e1 ∷ [])) run_then) task)
unfolding text_results
first_alone zero below = refl
first_alone (suc task) below = absurd (omega arith)

s10 : IsStep (e9 ∷ e8 ∷ e7 ∷ e6 ∷ e5 ∷ e4 ∷ e3 ∷ e2 ∷ e1 ∷ []) e10
unfolding text_results
s10 = record {
  runs_front = omega arith;
  task_runs_front = omega arith;
  pods_front = omega arith;
  fits = tt;
  justified = (tt, record { it = _; is = refl; has = record { not_closed = refl; not_pending = refl; over = inr (record { startable = refl; started = (0, refl); children = only (λ part index. Has (task_run_of (e9 ∷ e8 ∷ e7 ∷ e6 ∷ e5 ∷ e4 ∷ e3 ∷ e2 ∷ e1 ∷ []) (child_name_of run_r part.task index)) (λ task_run. IsThere task_run.closed)) (record { it = _; is = refl; has = (_, refl) }); tasks = first_alone; asked = λ status has. absurd (omega (arith, has.1)) }); is_closing = record { condition = _; decided = refl; same = refl } } });
  writable = refl;
}

pub row_one_is_legal : IsLegal row_one
row_one_is_legal = ((((((((((tt, s1), s2), s3), s4), s5), s6), s7), s8), s9), s10)

pub row_one_is_closed : Has (run_of row_one (codes "r")) (λ (run : RunState). run.closed ≡ Some closing_r)
row_one_is_closed = record { it = _; is = refl; has = refl }

-- the TaskRun's version has moved from 4 to 5
pub opened_twice_is_not : IsLegal opened_twice → ⊥
opened_twice_is_not legal = let same = legal.1.writable in omega (arith, same)

pub row_one_is_right : (n : ℕ) → IsRight (past n row_one)
row_one_is_right = legal_is_right row_one row_one_is_legal

-- a Schedule whose bindings hold a parameter that the rules don't give isn't legal at position 3

abbrev wrong_bindings : List Binding
wrong_bindings = record { params = record { name = codes "x"; value = Str (codes "v") } ∷ [] } ∷ []

abbrev scheduled_wrongly : Entry
scheduled_wrongly = by (actors.Runs 0) 2 (acts.Schedule (codes "r") 0 wrong_bindings)

abbrev first_params : Option (List Binding) → ℕ
first_params None = 0
first_params (Some []) = 0
first_params (Some (b ∷ bs)) = length b.params

abbrev seen_then : View
seen_then = view_at scheduled_wrongly.fronts (e2 ∷ e1 ∷ [])

abbrev started_run : RunState
started_run = run_after 0 e2.act (admitted_run run_r false None (codes "/work"))

given_then : ready_bindings (facts_in seen_then started_run) (labels_of (facts_in seen_then started_run)) 0 ≡ Some (record { params = [] } ∷ [])
unfolding text_results
given_then = refl

pub wrong_bindings_are_not : IsLegal (scheduled_wrongly ∷ e2 ∷ e1 ∷ []) → ⊥
wrong_bindings_are_not legal =
    let row = legal.1.justified.1 in
    let same : row.it ≡ started_run = same_Some row.it started_run (sym row.is) in
    let own : ready_bindings (facts_in seen_then started_run) (labels_of (facts_in seen_then started_run)) 0 ≡ Some wrong_bindings = subst (λ (run : RunState). ready_bindings (facts_in seen_then run) (labels_of (facts_in seen_then run)) 0 ≡ Some wrong_bindings) same row.has.own_bindings in
    omega (arith, ap first_params (sym given_then ∙ own))

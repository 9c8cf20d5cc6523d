-- Each entry of a legal history keeps what was there: an order on histories.
use Rattle.std.proofs.Common.{◌≡◌, ℕ, List, [], ◌∷◌, Option, Some, None, true, refl, sym, ◌∙◌, ap, subst, arith, inr, length-append}
use Rattle.tk_types.specs.declared.scenario.Kind.TheVariants as kinds
use Rattle.tk_journal.specs.declared.entry.Actor.{Actor}
use Rattle.tk_journal.specs.declared.act.Closing.TheVariants as closings
use Rattle.tk_journal.specs.declared.act.Act.{Act}
use Rattle.tk_journal.specs.declared.act.Act.TheVariants as acts
use Rattle.tk_journal.specs.declared.entry.Entry.{Entry}
use Rattle.tk_journal.specs.declared.object.RunState.{RunState}
use Rattle.tk_journal.specs.declared.object.TaskRunState.{TaskRunState}
use Rattle.tk_journal.specs.declared.object.PodState.{PodState}
use Rattle.tk_journal.specs.Lists.{IsThere, Has}
use Rattle.tk_journal.specs.Effects.{writes, run_after, task_run_after, pod_after}
use Rattle.tk_journal.specs.History.{View, run_of, run_written, task_run_of, task_run_written, pod_of, pod_written, view_at}
use Rattle.tk_journal.specs.Legal.{IsStep}
use Rattle.tk_journal.specs.Grows.{RunGrows, TaskRunGrows, PodGrows, Grows}
use Rattle.tk_journal.proofs.Basics.{none_there, prefix_refl, prefix_push, prefix_trans, writes_kind, writes_name}
use Rattle.std.proofs.lemmas.List.{length-map}
use Rattle.tk_journal.specs.Effects.{attempt_closed}
use Rattle.tk_journal.proofs.Attempts.{ended_push, ended_closed, get_append, kept_closed}
use Rattle.tk_journal.proofs.Past.{state_cases}
use Rattle.tk_journal.proofs.Present.{RunRow, TaskRunRow, PodRow, run_row, task_run_row, pod_row}

-- an order on runs

pub run_same : (run : RunState) → RunGrows run run
run_same run = record {
  spec = refl;
  root = refl;
  asked = prefix_refl run.asked;
  stops = prefix_refl run.stops;
  scheduled = prefix_refl run.scheduled;
  start = λ moment is. is;
  closed = λ closed. refl;
}

pub run_trans : (a b c : RunState) → RunGrows a b → RunGrows b c → RunGrows a c
run_trans a b c p q = record {
  spec = q.spec ∙ p.spec;
  root = q.root ∙ p.root;
  asked = prefix_trans a.asked b.asked c.asked p.asked q.asked;
  stops = prefix_trans a.stops b.stops c.stops p.stops q.stops;
  scheduled = prefix_trans a.scheduled b.scheduled c.scheduled p.scheduled q.scheduled;
  start = λ moment is. q.start moment (p.start moment is);
  closed = λ closed. q.closed (subst (λ (r : RunState). IsThere r.closed) (sym (p.closed closed)) closed) ∙ p.closed closed;
}

module _ (view : View) (actor : Actor) (moment : ℕ) where
  pub run_step : (act : Act) (run : RunState) → RunRow view actor moment act run → RunGrows run (run_after moment act run)
  run_step (acts.Ask name status) run row = record {
    spec = refl;
    root = refl;
    asked = prefix_push run.asked (status ∷ []);
    stops = prefix_refl run.stops;
    scheduled = prefix_refl run.scheduled;
    start = λ moment is. is;
    closed = λ closed. absurd (none_there run.closed row.not_closed closed);
  }
  run_step (acts.Start name) run row = record {
    spec = refl;
    root = refl;
    asked = prefix_refl run.asked;
    stops = prefix_refl run.stops;
    scheduled = prefix_refl run.scheduled;
    start = λ other is. cc (row.not_started, is);
    closed = λ closed. absurd (none_there run.closed row.not_closed closed);
  }
  run_step (acts.Schedule name task bindings) run row = record {
    spec = refl;
    root = refl;
    asked = prefix_refl run.asked;
    stops = prefix_refl run.stops;
    scheduled = prefix_push run.scheduled (record { task = task; bindings = bindings } ∷ []);
    start = λ moment is. is;
    closed = λ closed. absurd (none_there run.closed row.not_closed closed);
  }
  run_step (acts.Halt name stop) run row = record {
    spec = refl;
    root = refl;
    asked = prefix_refl run.asked;
    stops = prefix_push run.stops (stop ∷ []);
    scheduled = prefix_refl run.scheduled;
    start = λ moment is. is;
    closed = λ closed. absurd (none_there run.closed row.not_closed closed);
  }
  run_step (acts.Close name closing) run row = record {
    spec = refl;
    root = refl;
    asked = prefix_refl run.asked;
    stops = prefix_refl run.stops;
    scheduled = prefix_refl run.scheduled;
    start = λ moment is. is;
    closed = λ closed. absurd (none_there run.closed row.not_closed closed);
  }
  run_step _ run row = absurd row

-- an order on TaskRuns

pub task_run_same : (task_run : TaskRunState) → TaskRunGrows task_run task_run
task_run_same task_run = record {
  spec = refl;
  run = refl;
  task = refl;
  index = refl;
  binding = refl;
  marked = λ marked. marked;
  longer = omega arith;
  attempts = λ place outcome ended. ended;
  kept = λ place attempt at ended. at;
  closed = λ closed. refl;
}

pub task_run_trans : (a b c : TaskRunState) → TaskRunGrows a b → TaskRunGrows b c → TaskRunGrows a c
task_run_trans a b c p q = record {
  spec = q.spec ∙ p.spec;
  run = q.run ∙ p.run;
  task = q.task ∙ p.task;
  index = q.index ∙ p.index;
  binding = q.binding ∙ p.binding;
  marked = λ marked. q.marked (p.marked marked);
  longer = omega (arith, p.longer, q.longer);
  attempts = λ place outcome ended. q.attempts place outcome (p.attempts place outcome ended);
  kept = λ place attempt at ended. q.kept place attempt (p.kept place attempt at ended) ended;
  closed = λ closed. q.closed (subst (λ (r : TaskRunState). IsThere r.closed) (sym (p.closed closed)) closed) ∙ p.closed closed;
}

module _ (view : View) (actor : Actor) (moment : ℕ) where
  pub task_run_step : (act : Act) (task_run : TaskRunState) → TaskRunRow view actor moment act task_run → TaskRunGrows task_run (task_run_after moment act task_run)
  task_run_step (acts.Ask name status) task_run row = record {
    spec = refl;
    run = refl;
    task = refl;
    index = refl;
    binding = refl;
    marked = λ marked. refl;
    longer = omega arith;
    attempts = λ place outcome ended. ended;
    kept = λ place attempt at ended. at;
    closed = λ closed. absurd (none_there task_run.closed row.not_closed closed);
  }
  task_run_step (acts.CancelTaskRun name) task_run row = record {
    spec = refl;
    run = refl;
    task = refl;
    index = refl;
    binding = refl;
    marked = λ marked. refl;
    longer = omega arith;
    attempts = λ place outcome ended. ended;
    kept = λ place attempt at ended. at;
    closed = λ closed. absurd (none_there task_run.closed row.not_closed closed);
  }
  task_run_step (acts.OpenAttempt name) task_run row = record {
    spec = refl;
    run = refl;
    task = refl;
    index = refl;
    binding = refl;
    marked = λ marked. marked;
    longer = omega (arith, length-append task_run.attempts (record { moment = moment; outcome = None } ∷ []));
    attempts = ended_push task_run.attempts (record { moment = moment; outcome = None } ∷ []);
    kept = λ place attempt at ended. get_append task_run.attempts (record { moment = moment; outcome = None } ∷ []) place attempt at;
    closed = λ closed. absurd (none_there task_run.closed row.not_closed closed);
  }
  task_run_step (acts.Close name (closings.Attempt now)) task_run row = record {
    spec = refl;
    run = refl;
    task = refl;
    index = refl;
    binding = refl;
    marked = λ marked. marked;
    longer = omega (arith, length-map task_run.attempts (attempt_closed now));
    attempts = ended_closed now task_run.attempts;
    kept = kept_closed now task_run.attempts;
    closed = λ closed. absurd (none_there task_run.closed row.not_closed closed);
  }
  task_run_step (acts.Close name closings.TaskRun) task_run row = record {
    spec = refl;
    run = refl;
    task = refl;
    index = refl;
    binding = refl;
    marked = λ marked. marked;
    longer = omega arith;
    attempts = λ place outcome ended. ended;
    kept = λ place attempt at ended. at;
    closed = λ closed. absurd (none_there task_run.closed row.not_closed closed);
  }
  task_run_step _ task_run row = absurd row

-- an order on pods

pub pod_same : (pod : PodState) → PodGrows pod pod
pod_same pod = record { task_run = refl; attempt = refl; plan = refl; marked = refl; claim = λ claim is. is; ended = λ ended. refl }

pub pod_trans : (a b c : PodState) → PodGrows a b → PodGrows b c → PodGrows a c
pod_trans a b c p q = record {
  task_run = q.task_run ∙ p.task_run;
  attempt = q.attempt ∙ p.attempt;
  plan = q.plan ∙ p.plan;
  marked = q.marked ∙ p.marked;
  claim = λ claim is. q.claim claim (p.claim claim is);
  ended = λ ended. q.ended (subst (λ (r : PodState). IsThere r.ended) (sym (p.ended ended)) ended) ∙ p.ended ended;
}

module _ (view : View) (actor : Actor) (moment : ℕ) where
  -- a pod that ended was claimed before, so it isn't claimed again
  pub pod_step : (act : Act) (pod : PodState) → (IsThere pod.ended → IsThere pod.claim) → PodRow view actor moment act pod → PodGrows pod (pod_after actor act pod)
  pod_step (acts.ClaimPod name) pod claimed_first row = record {
    task_run = refl;
    attempt = refl;
    plan = refl;
    marked = refl;
    claim = λ claim is. cc (row.unclaimed, is);
    ended = λ ended. absurd (none_there pod.claim row.unclaimed (claimed_first ended));
  }
  pod_step (acts.EndPod name exits outcome) pod claimed_first row = record {
    task_run = refl;
    attempt = refl;
    plan = refl;
    marked = refl;
    claim = λ claim is. is;
    ended = λ ended. absurd (none_there pod.ended row.unended ended);
  }
  pod_step _ pod claimed_first row = absurd row

-- the order on histories

pub grows_same : (history : List Entry) → Grows history history
grows_same history = record {
  runs = λ name run is. record { it = run; is = is; has = run_same run };
  task_runs = λ name task_run is. record { it = task_run; is = is; has = task_run_same task_run };
  pods = λ name pod is. record { it = pod; is = is; has = pod_same pod };
  asked = λ name status was. was;
}

pub grows_trans : (a b c : List Entry) → Grows a b → Grows b c → Grows a c
grows_trans a b c p q = record {
  runs = λ name run is.
      let first = p.runs name run is in
      let second = q.runs name first.it first.is in
      record { it = second.it; is = second.is; has = run_trans run first.it second.it first.has second.has };
  task_runs = λ name task_run is.
      let first = p.task_runs name task_run is in
      let second = q.task_runs name first.it first.is in
      record { it = second.it; is = second.is; has = task_run_trans task_run first.it second.it first.has second.has };
  pods = λ name pod is.
      let first = p.pods name pod is in
      let second = q.pods name first.it first.is in
      record { it = second.it; is = second.is; has = pod_trans pod first.it second.it first.has second.has };
  asked = λ name status was. q.asked name status (p.asked name status was);
}

module _ (older : List Entry) (e : Entry) (step : IsStep older e) where
  abbrev seen : View
  seen = view_at e.fronts older

  -- the row of the entry on what it writes
  pub run_row_of : (name : List ℕ) (run : RunState) → writes kinds.Runs name e ≡ true → run_of older name ≡ Some run → RunRow seen e.actor e.moment e.act run
  run_row_of name run hit there = run_row older e.fronts e.actor e.moment e.act run (writes_kind kinds.Runs name e hit) (ap (run_of older) (writes_name kinds.Runs name e hit) ∙ there) step.justified step.writable

  pub task_run_row_of : (name : List ℕ) (task_run : TaskRunState) → writes kinds.TaskRuns name e ≡ true → task_run_of older name ≡ Some task_run → TaskRunRow seen e.actor e.moment e.act task_run
  task_run_row_of name task_run hit there = task_run_row older e.fronts e.actor e.moment e.act task_run (writes_kind kinds.TaskRuns name e hit) (ap (task_run_of older) (writes_name kinds.TaskRuns name e hit) ∙ there) step.justified step.writable

  pub pod_row_of : (name : List ℕ) (pod : PodState) → writes kinds.Pods name e ≡ true → pod_of older name ≡ Some pod → PodRow seen e.actor e.moment e.act pod
  pod_row_of name pod hit there = pod_row older e.fronts e.actor e.moment e.act pod (writes_kind kinds.Pods name e hit) (ap (pod_of older) (writes_name kinds.Pods name e hit) ∙ there) step.justified step.writable

  pub grows_step : ((name : List ℕ) (pod : PodState) → pod_of older name ≡ Some pod → IsThere pod.ended → IsThere pod.claim) → Grows older (e ∷ older)
  grows_step claimed_first = record {
    runs = λ name run is. state_cases (writes kinds.Runs name) (λ (before : List Entry) d was. run_written d was) (λ (o : Option RunState). Has o (RunGrows run)) e older
        (λ miss. record { it = run; is = is; has = run_same run })
        (λ hit. rw is (record { it = run_after e.moment e.act run; is = refl; has = run_step seen e.actor e.moment e.act run (run_row_of name run hit is) }));
    task_runs = λ name task_run is. state_cases (writes kinds.TaskRuns name) (λ (before : List Entry) d was. task_run_written (run_of before) d was) (λ (o : Option TaskRunState). Has o (TaskRunGrows task_run)) e older
        (λ miss. record { it = task_run; is = is; has = task_run_same task_run })
        (λ hit. rw is (record { it = task_run_after e.moment e.act task_run; is = refl; has = task_run_step seen e.actor e.moment e.act task_run (task_run_row_of name task_run hit is) }));
    pods = λ name pod is. state_cases (writes kinds.Pods name) (λ (before : List Entry) d was. pod_written d was) (λ (o : Option PodState). Has o (PodGrows pod)) e older
        (λ miss. record { it = pod; is = is; has = pod_same pod })
        (λ hit. rw is (record { it = pod_after e.actor e.act pod; is = refl; has = pod_step seen e.actor e.moment e.act pod (claimed_first name pod is) (pod_row_of name pod hit is) }));
    asked = λ name status was. inr was;
  }

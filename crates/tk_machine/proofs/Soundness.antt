-- Each event adds one step of a legal history at most, and leaves every front within the history.
use Rattle.std.proofs.Common.{◌≡◌, ◌≢◌, ℕ, suc, ◌+◌, ◌≤◌, List, [], ◌∷◌, length, false, Option, Some, None, refl, sym, ◌∙◌, ap, subst, inl, inr, arith}
use Rattle.std.specs.Prelude.{◌⊎◌, slice_get, slice_set, min, nat_eq, nat_lt}
use Rattle.std.proofs.lemmas.Bool.{cases_Bool}
use Rattle.std.proofs.lemmas.Option.{same_Some}
use Rattle.tk_types.specs.declared.scenario.Kind.{Kind}
use Rattle.tk_types.specs.declared.scenario.Kind.TheVariants as kinds
use Rattle.tk_journal.specs.declared.entry.Actor.{Actor}
use Rattle.tk_journal.specs.declared.entry.Actor.TheVariants as actors
use Rattle.tk_types.specs.declared.object.Asked.{Asked}
use Rattle.tk_journal.specs.declared.entry.Fronts.{Fronts}
use Rattle.tk_journal.specs.declared.act.Act.{Act}
use Rattle.tk_journal.specs.declared.act.Act.TheVariants as acts
use Rattle.tk_journal.specs.declared.entry.Entry.{Entry}
use Rattle.tk_journal.specs.Effects.{kind_of}
use Rattle.tk_journal.specs.History.{View, view_at, version_of, front_of}
use Rattle.tk_journal.specs.Rows.{IsJustified}
use Rattle.tk_journal.specs.PodRows.{EndRow}
use Rattle.tk_journal.specs.Progress.{at_end}
use Rattle.tk_journal.specs.Legal.{IsWritable, IsStep, IsLegal, IsCurrent, Fits}
use Rattle.tk_journal.specs.Choice.{MayChoose}
use Rattle.tk_edge.specs.declared.event.Event.{Event as HostEvent}
use Rattle.tk_edge.specs.InOrder.{Pods, IsKept}
use Rattle.tk_types.specs.declared.run.Outcome.{Outcome}
use Rattle.tk_types.specs.declared.run.Outcome.TheVariants as outcomes
use Rattle.tk_journal.specs.Lists.{Has}
use Rattle.tk_choice.specs.Took.{entry_of}
use Rattle.tk_held.specs.Conditions.{pods_of}
use Rattle.tk_machine.specs.Hosts.{Script, IsScripted, MayEnd, MayTry, layout}
use Rattle.tk_machine.proofs.Claims.{IsNotBy, IsAmong, others_keep, claims_step, set_cases, set_there}
use Rattle.tk_machine.proofs.Kills.{others_spare, time_spares, next_life_spares}
use Rattle.tk_journal.specs.Fronts.{AreWithin}
use Rattle.tk_cache.specs.Fronts.{count_of_kind, count_until, position_of, next_front, delivered, listed, with_front}
use Rattle.tk_journal.proofs.Past.{past_whole}
use Rattle.tk_types.specs.declared.scenario.Event.{Event}
use Rattle.tk_types.specs.declared.scenario.Event.TheVariants as events
use Rattle.tk_types.specs.declared.scenario.Viewer.{Viewer}
use Rattle.tk_types.specs.declared.scenario.Viewer.TheVariants as viewers
use Rattle.tk_types.specs.declared.scenario.Taker.{Taker}
use Rattle.tk_types.specs.declared.scenario.Taker.TheVariants as takers
use Rattle.tk_machine.specs.State.{KubeletState, World, no_fronts}
use Rattle.tk_machine.specs.Kills.{AreKilledRight}
use Rattle.tk_machine.specs.Machine.{with_history, with_kubelet, move_kubelet, moved_at, move_fronts, restarted_kubelet, restarted, GoesThrough, Answers, WorkerTurn, KubeletTurn, AskTurn, Turns, Step, Steps, opened, Run, IsSound, AreClaimsOf, AddsAStep}

-- lists

moved_get : {X : Type 0} (P : X → Type 0) (xs : List X) (i : ℕ) (move : X → X) (o : Option X) → slice_get xs i ≡ o → ((x : X) → P x → P (move x)) → ((j : ℕ) (x : X) → slice_get xs j ≡ Some x → P x) → (j : ℕ) (x : X) → slice_get (moved_at xs i move o) j ≡ Some x → P x
moved_get P xs i move None at keeps all j x is = all j x is
moved_get P xs i move (Some old) at keeps all j x is = elim (set_cases xs i j (move old) x is) [
  | inl same ↦ subst P (sym same.1) (keeps old (all i old at))
  | inr before ↦ all j x before.1
]

-- the same with the place, of what stands there
moved_there_get : {X : Type 0} (P : ℕ → X → Type 0) (xs : List X) (i : ℕ) (move : X → X) (o : Option X) → slice_get xs i ≡ o → ((x : X) → slice_get xs i ≡ Some x → P i x → P i (move x)) → ((j : ℕ) (x : X) → slice_get xs j ≡ Some x → P j x) → (j : ℕ) (x : X) → slice_get (moved_at xs i move o) j ≡ Some x → P j x
moved_there_get P xs i move None at keeps all j x is = all j x is
moved_there_get P xs i move (Some old) at keeps all j x is = elim (set_cases xs i j (move old) x is) [
  | inl same ↦ subst (λ (n : ℕ). P n x) (sym same.0) (subst (P i) (sym same.1) (keeps old at (all i old at)))
  | inr before ↦ all j x before.1
]

moved_at_get : {X : Type 0} (P : ℕ → X → Type 0) (xs : List X) (i : ℕ) (move : X → X) (o : Option X) → slice_get xs i ≡ o → ((x : X) → P i x → P i (move x)) → ((j : ℕ) (x : X) → slice_get xs j ≡ Some x → P j x) → (j : ℕ) (x : X) → slice_get (moved_at xs i move o) j ≡ Some x → P j x
moved_at_get P xs i move o at keeps = moved_there_get P xs i move o at (λ x there. keeps x)

pub moved_there : {X : Type 0} (P : X → Type 0) (xs : List X) (i : ℕ) (move : X → X) (o : Option X) → slice_get xs i ≡ o → ((x : X) → P x → P (move x)) → (j : ℕ) → Has (slice_get xs j) P → Has (slice_get (moved_at xs i move o) j) P
moved_there P xs i move None at keeps j has = has
moved_there {X = X} P xs i move (Some old) at keeps j has = set_there P xs i j (move old) has (λ x is p. subst (λ (y : X). P (move y)) (same_Some x old (sym is ∙ at)) (keeps x p))

-- actors

-- a worker or the user
abbrev pub IsWorker : Actor → Type 0
IsWorker (actors.Runs n) = Unit {0}
IsWorker (actors.Tasks n) = Unit {0}
IsWorker actors.User = Unit {0}
IsWorker _ = ⊥

abbrev number_of : Actor → ℕ
number_of (actors.Kubelet number life) = number
number_of _ = 0

abbrev life_of : Actor → ℕ
life_of (actors.Kubelet number life) = life
life_of _ = 0

-- fronts

within_on : (fronts : Fronts) (e : Entry) (history : List Entry) → AreWithin fronts history → AreWithin fronts (e ∷ history)
within_on fronts e history within =
    let r = within.runs in
    let t = within.task_runs in
    let p = within.pods in
    record { runs = omega (arith, r); task_runs = omega (arith, t); pods = omega (arith, p) }

pub none_within : (history : List Entry) → AreWithin no_fronts history
none_within history = record { runs = omega arith; task_runs = omega arith; pods = omega arith }

all_within : (history : List Entry) → AreWithin (at_end history) history
all_within history = record { runs = omega arith; task_runs = omega arith; pods = omega arith }

one_within : (kind : Kind) (front : ℕ) (fronts : Fronts) (history : List Entry) → front ≤ length history → AreWithin fronts history → AreWithin (with_front kind front fronts) history
one_within kinds.Runs front fronts history le within = record { runs = le; task_runs = within.task_runs; pods = within.pods }
one_within kinds.TaskRuns front fronts history le within = record { runs = within.runs; task_runs = le; pods = within.pods }
one_within kinds.Pods front fronts history le within = record { runs = within.runs; task_runs = within.task_runs; pods = le }

position_within : (kind : Kind) (n : ℕ) (history : List Entry) → position_of kind n history ≤ length history
position_within kind n [] = omega arith
position_within kind n (e ∷ older) = elim (cases_Bool (nat_lt (count_of_kind kind older) n)) [
  | inl hit ↦ rw hit (omega arith)
  | inr miss ↦ rw miss (let rest = position_within kind n older in omega (arith, rest))
]

front_within : (kind : Kind) (fronts : Fronts) (history : List Entry) → AreWithin fronts history → front_of kind fronts ≤ length history
front_within kinds.Runs fronts history within = within.runs
front_within kinds.TaskRuns fronts history within = within.task_runs
front_within kinds.Pods fronts history within = within.pods

next_within : (kind : Kind) (n : ℕ) (fronts : Fronts) (history : List Entry) → AreWithin fronts history → next_front kind n (front_of kind fronts) history ≤ length history
next_within kind n fronts history within = elim (cases_Bool (nat_eq n 0)) [
  | inl none ↦ rw none (front_within kind fronts history within)
  | inr some ↦ elim (cases_Bool (nat_lt (count_of_kind kind history) (count_until kind (front_of kind fronts) history + n))) [
    | inl few ↦ rw (some, few) (omega arith)
    | inr enough ↦ rw (some, enough) (position_within kind (count_until kind (front_of kind fronts) history + n) history)
  ]
]

pub current_at : (kind : Kind) (name : List ℕ) (history : List Entry) → IsCurrent kind name (at_end history) history
current_at kinds.Runs name history = ap (version_of kinds.Runs name) (past_whole (length history) history (omega arith))
current_at kinds.TaskRuns name history = ap (version_of kinds.TaskRuns name) (past_whole (length history) history (omega arith))
current_at kinds.Pods name history = ap (version_of kinds.Pods name) (past_whole (length history) history (omega arith))

fits_of : (history : List Entry) (e : Entry) (act : Act) → MayChoose act → Fits history e act
fits_of history e (acts.Admit name spec pending asked root) may = absurd may
fits_of history e (acts.Ask name status) may = absurd may
fits_of history e _ may = tt

step_of : (history : List Entry) (actor : Actor) (fronts : Fronts) (moment : ℕ) (act : Act) → AreWithin fronts history → MayChoose act → IsJustified (view_at fronts history) actor moment act → GoesThrough history fronts act → IsStep history (entry_of actor fronts moment act)
step_of history actor fronts moment act within may justified writable = record {
  runs_front = within.runs;
  task_runs_front = within.task_runs;
  pods_front = within.pods;
  fits = fits_of history (entry_of actor fronts moment act) act may;
  justified = justified;
  writable = writable;
}

answer_is_step : (history : List Entry) (actor : Actor) (fronts : Fronts) (moment : ℕ) (act : Act) (after : List Entry) → AreWithin fronts history → MayChoose act → IsJustified (view_at fronts history) actor moment act → Answers history actor fronts moment act after → AddsAStep history after
answer_is_step history actor fronts moment act after within may justified answers = elim answers [
  | inl went ↦ inr (entry_of actor fronts moment act, went.1, step_of history actor fronts moment act within may justified went.0)
  | inr refused ↦ inl refused.1
]

pub worker_is_step : (history : List Entry) (actor : Actor) (fronts : Fronts) (moment : ℕ) (after : List Entry) → AreWithin fronts history → WorkerTurn history actor fronts moment after → AddsAStep history after
worker_is_step history actor fronts moment after within turn = elim turn [
  | inl idle ↦ inl idle.1
  | inr tried ↦ answer_is_step history actor fronts moment tried.0 after within tried.1.mine tried.1.justified tried.2
]

-- what a turn adds is by its actor
abbrev pub AddsBy : Actor → List Entry → List Entry → Type 0
AddsBy actor history after = (after ≡ history) ⊎ ((e : Entry) × (e.actor ≡ actor) × (after ≡ e ∷ history) × IsStep history e)

answer_by : (history : List Entry) (actor : Actor) (fronts : Fronts) (moment : ℕ) (act : Act) (after : List Entry) → AreWithin fronts history → MayChoose act → IsJustified (view_at fronts history) actor moment act → Answers history actor fronts moment act after → AddsBy actor history after
answer_by history actor fronts moment act after within may justified answers = elim answers [
  | inl went ↦ inr (entry_of actor fronts moment act, refl, went.1, step_of history actor fronts moment act within may justified went.0)
  | inr refused ↦ inl refused.1
]

pub worker_by : (history : List Entry) (actor : Actor) (fronts : Fronts) (moment : ℕ) (after : List Entry) → AreWithin fronts history → WorkerTurn history actor fronts moment after → AddsBy actor history after
worker_by history actor fronts moment after within turn = elim turn [
  | inl idle ↦ inl idle.1
  | inr tried ↦ answer_by history actor fronts moment tried.0 after within tried.1.mine tried.1.justified tried.2
]

worker_not : (actor : Actor) → IsWorker actor → (i : ℕ) → IsNotBy i actor
worker_not (actors.Runs n) is i life = λ same. cc
worker_not (actors.Tasks n) is i life = λ same. cc
worker_not actors.User is i life = λ same. cc
worker_not _ is i life = absurd is

worker_among : (kubelets : List KubeletState) (actor : Actor) → IsWorker actor → IsAmong kubelets actor
worker_among kubelets actor is number life same = absurd (worker_not actor is number life same)

ask_writable : (history : List Entry) (name : List ℕ) (status : Asked) → IsWritable false (kind_of (acts.Ask name status)) name (at_end history) history
ask_writable history name status = current_at (kind_of (acts.Ask name status)) name history

ask_is_step : (history : List Entry) (moment : ℕ) (name : List ℕ) (status : Asked) (after : List Entry) → AskTurn history moment name status after → AddsBy actors.User history after
ask_is_step history moment name status after turn = elim turn [
  | inl went ↦ inr (
    entry_of actors.User (at_end history) moment (acts.Ask name status),
    refl,
    went.1,
    record {
      runs_front = omega arith;
      task_runs_front = omega arith;
      pods_front = omega arith;
      fits = (refl, refl, refl);
      justified = (refl, went.0);
      writable = ask_writable history name status;
    },
  )
  | inr refused ↦ inl refused.1
]

module _ (script : Script) where
  -- what a kubelet tries is justified
  end_justified : (number life : ℕ) (history : List Entry) (view : View) (moment : ℕ) (told : List HostEvent) (name exits : List ℕ) (outcome : Outcome) → MayEnd script number life history view moment told name exits outcome → Has (view.pod name) (EndRow view (actors.Kubelet number life) moment exits outcome)
  end_justified number life history view moment told name exits outcomes.Lost may = may
  end_justified number life history view moment told name exits outcome may = record { it = may.it; is = may.is; has = may.has.row }

  pub tried_justified : (number life : ℕ) (history : List Entry) (view : View) (moment : ℕ) (told : List HostEvent) (act : Act) → MayTry script number life history view moment told act → MayChoose act × IsJustified view (actors.Kubelet number life) moment act
  tried_justified number life history view moment told (acts.EndPod name exits outcome) may = (tt, end_justified number life history view moment told name exits outcome may)
  tried_justified number life history view moment told (acts.ClaimPod name) may = (tt, may)
  tried_justified number life history view moment told _ may = absurd may

  pub kubelet_by : (number : ℕ) (k now : KubeletState) (moment : ℕ) (history after : List Entry) → AreWithin k.fronts history → KubeletTurn script number k moment history after now → AddsBy (actors.Kubelet number k.life) history after
  kubelet_by number k now moment history after within turn = elim turn.tries [
    | inl idle ↦ inl idle.1
    | inr tried ↦
        let act = tried_justified number k.life history (view_at k.fronts history) moment now.told tried.0 tried.1.may in
        answer_by history (actors.Kubelet number k.life) k.fronts moment tried.0 after within act.0 act.1 tried.2
  ]

  -- a history that grows by a step of a worker or of the user
  sound_history : (w : World) (actor : Actor) (history : List Entry) → IsWorker actor → IsSound script w → AddsBy actor w.history history → IsSound script (with_history w history)
  sound_history w actor history is sound adds = elim adds [
    | inl same ↦ subst (λ (h : List Entry). IsSound script (with_history w h)) (sym same) (record { legal = sound.legal; controllers = sound.controllers; kubelets = sound.kubelets; kept = sound.kept; scripted = sound.scripted; spared = sound.spared; claims = sound.claims })
    | inr grew ↦ subst (λ (h : List Entry). IsSound script (with_history w h)) (sym grew.2) (record {
      legal = (sound.legal, grew.3);
      controllers = λ i fronts at. within_on fronts grew.0 w.history (sound.controllers i fronts at);
      kubelets = λ i k at. within_on k.fronts grew.0 w.history (sound.kubelets i k at);
      kept = λ i k at. others_keep grew.0 w.history (sound.legal, grew.3) i k (subst (IsNotBy i) (sym grew.1) (worker_not actor is i)) (sound.kept i k at);
      scripted = sound.scripted;
      spared = λ i k at. others_spare i k.life k.killed k.told grew.0 w.history w.clock (sound.legal, grew.3) (subst (IsNotBy i) (sym grew.1) (worker_not actor is i)) (sound.spared i k at);
      claims = claims_step w.kubelets grew.0 w.history (sound.legal, grew.3) (subst (IsAmong w.kubelets) (sym grew.1) (worker_among w.kubelets actor is)) sound.claims;
    })
  ]

  abbrev changed : World → ℕ → KubeletState → List KubeletState
  changed w i now = slice_set w.kubelets i now

  -- a kubelet's turn
  sound_kubelet : (w : World) (i : ℕ) (k now : KubeletState) (history : List Entry) → slice_get w.kubelets i ≡ Some k → KubeletTurn script i k w.clock w.history history now → IsSound script w → IsSound script (with_kubelet (with_history w history) i now)
  sound_kubelet w i k now history at turn sound = by_adds (kubelet_by i k now w.clock w.history history (sound.kubelets i k at) turn)
    where
      own_scripted : IsScripted script now.told
      own_scripted = turn.scripted (sound.scripted i k at)

      own_spared : AreKilledRight i now.life now.killed now.told history w.clock
      own_spared = subst (λ (l : ℕ). AreKilledRight i l now.killed now.told history w.clock) (sym turn.life) (turn.spared (sound.spared i k at))

      own_kept : IsKept layout now.killed (pods_of i history) now.told
      own_kept = turn.kept (sound.kept i k at)

      lives : AreClaimsOf (changed w i now) w.history
      lives name pod claim there is = set_there (λ (x : KubeletState). claim.life ≤ x.life) w.kubelets i claim.number now (sound.claims name pod claim there is)
          (λ x at_x le. let same : x ≡ k = same_Some x k (sym at_x ∙ at) in omega (arith, le, turn.life, ap (λ (y : KubeletState). y.life) same))

      -- where those of the others still are
      spared_all : ((j : ℕ) (x : KubeletState) → j ≢ i → slice_get w.kubelets j ≡ Some x → AreKilledRight j x.life x.killed x.told history w.clock) → (j : ℕ) (x : KubeletState) → slice_get (changed w i now) j ≡ Some x → AreKilledRight j x.life x.killed x.told history w.clock
      spared_all others j x at_x = elim (set_cases w.kubelets i j now x at_x) [
        | inl own ↦ subst (λ (n : ℕ). AreKilledRight n x.life x.killed x.told history w.clock) (sym own.0) (subst (λ (y : KubeletState). AreKilledRight i y.life y.killed y.told history w.clock) (sym own.1) own_spared)
        | inr other ↦ others j x other.0 other.1
      ]

      among : IsAmong (changed w i now) (actors.Kubelet i k.life)
      among number life is =
          let numbers : i ≡ number = ap number_of is in
          let lives_of : k.life ≡ life = ap life_of is in
          subst (λ (n : ℕ). Has (slice_get (changed w i now) n) (λ (x : KubeletState). life ≤ x.life)) numbers
          (set_there (λ (x : KubeletState). life ≤ x.life) w.kubelets i i now (record { it = k; is = at; has = omega (arith, lives_of) }) (λ x at_x le. omega (arith, turn.life, lives_of)))

      scripted_all : (j : ℕ) (x : KubeletState) → slice_get (changed w i now) j ≡ Some x → IsScripted script x.told
      scripted_all j x at_x = elim (set_cases w.kubelets i j now x at_x) [
        | inl own ↦ subst (λ (y : KubeletState). IsScripted script y.told) (sym own.1) own_scripted
        | inr other ↦ sound.scripted j x other.1
      ]

      by_adds : AddsBy (actors.Kubelet i k.life) w.history history → IsSound script (with_kubelet (with_history w history) i now)
      by_adds (inl same) = record {
        legal = subst (IsLegal) (sym same) sound.legal;
        controllers = λ j fronts at_j. subst (AreWithin fronts) (sym same) (sound.controllers j fronts at_j);
        kubelets = λ j x at_x. subst (AreWithin x.fronts) (sym same) (elim (set_cases w.kubelets i j now x at_x) [
          | inl own ↦ subst (λ (y : KubeletState). AreWithin y.fronts w.history) (sym own.1) (subst (λ (f : Fronts). AreWithin f w.history) (sym turn.fronts) (sound.kubelets i k at))
          | inr other ↦ sound.kubelets j x other.1
        ]);
        kept = λ j x at_x. elim (set_cases w.kubelets i j now x at_x) [
          | inl own ↦ subst (λ (n : ℕ). IsKept layout x.killed (pods_of n history) x.told) (sym own.0) (subst (λ (y : KubeletState). IsKept layout y.killed (pods_of i history) y.told) (sym own.1) own_kept)
          | inr other ↦ subst (λ (h : List Entry). IsKept layout x.killed (pods_of j h) x.told) (sym same) (sound.kept j x other.1)
        ];
        scripted = scripted_all;
        spared = spared_all (λ j x not_own at_x. subst (λ (h : List Entry). AreKilledRight j x.life x.killed x.told h w.clock) (sym same) (sound.spared j x at_x));
        claims = subst (AreClaimsOf (changed w i now)) (sym same) lives;
      }
      by_adds (inr grew) =
          let legal : IsLegal (grew.0 ∷ w.history) = (sound.legal, grew.3) in
          record {
            legal = subst (IsLegal) (sym grew.2) legal;
            controllers = λ j fronts at_j. subst (AreWithin fronts) (sym grew.2) (within_on fronts grew.0 w.history (sound.controllers j fronts at_j));
            kubelets = λ j x at_x. subst (AreWithin x.fronts) (sym grew.2) (elim (set_cases w.kubelets i j now x at_x) [
              | inl own ↦ subst (λ (y : KubeletState). AreWithin y.fronts (grew.0 ∷ w.history)) (sym own.1) (subst (λ (f : Fronts). AreWithin f (grew.0 ∷ w.history)) (sym turn.fronts) (within_on k.fronts grew.0 w.history (sound.kubelets i k at)))
              | inr other ↦ within_on x.fronts grew.0 w.history (sound.kubelets j x other.1)
            ]);
            kept = λ j x at_x. elim (set_cases w.kubelets i j now x at_x) [
              | inl own ↦ subst (λ (n : ℕ). IsKept layout x.killed (pods_of n history) x.told) (sym own.0) (subst (λ (y : KubeletState). IsKept layout y.killed (pods_of i history) y.told) (sym own.1) own_kept)
              | inr other ↦ subst (λ (h : List Entry). IsKept layout x.killed (pods_of j h) x.told) (sym grew.2)
                  (others_keep grew.0 w.history legal j x (subst (IsNotBy j) (sym grew.1) (λ life is. other.0 (sym (ap number_of is)))) (sound.kept j x other.1))
            ];
            scripted = scripted_all;
            spared = spared_all (λ j x not_own at_x. subst (λ (h : List Entry). AreKilledRight j x.life x.killed x.told h w.clock) (sym grew.2)
                (others_spare j x.life x.killed x.told grew.0 w.history w.clock legal (subst (IsNotBy j) (sym grew.1) (λ life is. not_own (sym (ap number_of is)))) (sound.spared j x at_x)));
            claims = subst (AreClaimsOf (changed w i now)) (sym grew.2) (claims_step (changed w i now) grew.0 w.history legal (subst (IsAmong (changed w i now)) (sym grew.1) among) lives);
          }

  -- caches that move stay within
  sound_fronts : (w : World) (viewer : Viewer) (move : Fronts → Fronts) → IsSound script w → ((fronts : Fronts) → AreWithin fronts w.history → AreWithin (move fronts) w.history) → IsSound script (move_fronts w viewer move)
  sound_fronts w (viewers.Controller i) move sound keeps = record {
    legal = sound.legal;
    controllers = moved_get (λ (f : Fronts). AreWithin f w.history) w.controllers i move (slice_get w.controllers i) refl keeps sound.controllers;
    kubelets = sound.kubelets;
    kept = sound.kept;
    scripted = sound.scripted;
    spared = sound.spared;
    claims = sound.claims;
  }
  sound_fronts w (viewers.Kubelet i) move sound keeps = record {
    legal = sound.legal;
    controllers = sound.controllers;
    kubelets = moved_get (λ (k : KubeletState). AreWithin k.fronts w.history) w.kubelets i (move_kubelet move) (slice_get w.kubelets i) refl (λ k. keeps k.fronts) sound.kubelets;
    kept = moved_at_get (λ (j : ℕ) (k : KubeletState). IsKept layout k.killed (pods_of j w.history) k.told) w.kubelets i (move_kubelet move) (slice_get w.kubelets i) refl (λ k kept. kept) sound.kept;
    scripted = moved_get (λ (k : KubeletState). IsScripted script k.told) w.kubelets i (move_kubelet move) (slice_get w.kubelets i) refl (λ k is. is) sound.scripted;
    spared = moved_at_get (λ (j : ℕ) (k : KubeletState). AreKilledRight j k.life k.killed k.told w.history w.clock) w.kubelets i (move_kubelet move) (slice_get w.kubelets i) refl (λ k right. right) sound.spared;
    claims = λ name pod claim there is. moved_there (λ (k : KubeletState). claim.life ≤ k.life) w.kubelets i (move_kubelet move) (slice_get w.kubelets i) refl (λ k le. le) claim.number (sound.claims name pod claim there is);
  }

  restarted_within : (history : List Entry) (k : KubeletState) → AreWithin k.fronts history → AreWithin (restarted_kubelet k).fronts history
  restarted_within history k within = elim (cases_Bool (nat_lt k.life 4294967295)) [
    | inl more ↦ rw more (none_within history)
    | inr last ↦ rw last within
  ]

  restarted_kept : (pods : Pods) (k : KubeletState) → IsKept layout k.killed pods k.told → IsKept layout (restarted_kubelet k).killed pods (restarted_kubelet k).told
  restarted_kept pods k kept = elim (cases_Bool (nat_lt k.life 4294967295)) [
    | inl more ↦ rw more kept
    | inr last ↦ rw last kept
  ]

  restarted_scripted : (k : KubeletState) → IsScripted script k.told → IsScripted script (restarted_kubelet k).told
  restarted_scripted k is = elim (cases_Bool (nat_lt k.life 4294967295)) [
    | inl more ↦ rw more is
    | inr last ↦ rw last is
  ]

  restarted_life : (life : ℕ) (k : KubeletState) → life ≤ k.life → life ≤ (restarted_kubelet k).life
  restarted_life life k le = elim (cases_Bool (nat_lt k.life 4294967295)) [
    | inl more ↦ rw more (omega arith)
    | inr last ↦ rw last le
  ]

  -- where the next life begins nothing is held in it
  restarted_spared : (w : World) → AreClaimsOf w.kubelets w.history → (i : ℕ) (k : KubeletState) → slice_get w.kubelets i ≡ Some k → AreKilledRight i k.life k.killed k.told w.history w.clock → AreKilledRight i (restarted_kubelet k).life (restarted_kubelet k).killed (restarted_kubelet k).told w.history w.clock
  restarted_spared w claims i k at right = elim (cases_Bool (nat_lt k.life 4294967295)) [
    | inl more ↦ rw more (next_life_spares i (suc k.life) k.killed k.told w.kubelets k w.history w.clock claims at (omega arith))
    | inr last ↦ rw last right
  ]

  sound_restart : (w : World) (viewer : Viewer) → IsSound script w → IsSound script (restarted w viewer)
  sound_restart w (viewers.Controller i) sound = sound_fronts w (viewers.Controller i) (λ fronts. no_fronts) sound (λ fronts within. none_within w.history)
  sound_restart w (viewers.Kubelet i) sound = record {
    legal = sound.legal;
    controllers = sound.controllers;
    kubelets = moved_get (λ (k : KubeletState). AreWithin k.fronts w.history) w.kubelets i restarted_kubelet (slice_get w.kubelets i) refl (restarted_within w.history) sound.kubelets;
    kept = moved_at_get (λ (j : ℕ) (k : KubeletState). IsKept layout k.killed (pods_of j w.history) k.told) w.kubelets i restarted_kubelet (slice_get w.kubelets i) refl (restarted_kept (pods_of i w.history)) sound.kept;
    scripted = moved_get (λ (k : KubeletState). IsScripted script k.told) w.kubelets i restarted_kubelet (slice_get w.kubelets i) refl restarted_scripted sound.scripted;
    spared = moved_there_get (λ (j : ℕ) (k : KubeletState). AreKilledRight j k.life k.killed k.told w.history w.clock) w.kubelets i restarted_kubelet (slice_get w.kubelets i) refl (restarted_spared w sound.claims i) sound.spared;
    claims = λ name pod claim there is. moved_there (λ (k : KubeletState). claim.life ≤ k.life) w.kubelets i restarted_kubelet (slice_get w.kubelets i) refl (restarted_life claim.life) claim.number (sound.claims name pod claim there is);
  }

  min_within : (position most : ℕ) → min position most ≤ most
  min_within position most = omega arith

  sound_turn : (w : World) (taker : Taker) (after : World) → IsSound script w → Turns script taker w after → IsSound script after
  sound_turn w (takers.Runs i) after sound done = subst (IsSound script) (sym done.leaves) (sound_history w (actors.Runs i) done.history tt sound (worker_by w.history (actors.Runs i) done.fronts w.clock done.history (sound.controllers i done.fronts done.at) done.turn))
  sound_turn w (takers.Tasks i) after sound done = subst (IsSound script) (sym done.leaves) (sound_history w (actors.Tasks i) done.history tt sound (worker_by w.history (actors.Tasks i) done.fronts w.clock done.history (sound.controllers i done.fronts done.at) done.turn))
  sound_turn w (takers.Kubelet i) after sound done = subst (IsSound script) (sym done.leaves) (sound_kubelet w i done.k done.now done.history done.at done.turn sound)

  pub sound_step : (w : World) (event : Event) (after : World) → IsSound script w → Step script w event after → IsSound script after
  sound_step w (events.Deliver viewer kind n) after sound done = subst (IsSound script) (sym done) (sound_fronts w viewer (λ fronts. delivered kind n fronts w.history) sound (λ fronts within. one_within kind _ fronts w.history (next_within kind n fronts w.history within) within))
  sound_step w (events.DeliverAll viewer) after sound done = subst (IsSound script) (sym done) (sound_fronts w viewer (λ fronts. at_end w.history) sound (λ fronts within. all_within w.history))
  sound_step w (events.Relist viewer kind position) after sound done = subst (IsSound script) (sym done) (sound_fronts w viewer (listed kind (min position (length w.history))) sound (λ fronts within. one_within kind _ fronts w.history (min_within position (length w.history)) within))
  sound_step w (events.Turn taker) after sound done = sound_turn w taker after sound done
  sound_step w (events.Restart viewer) after sound done = subst (IsSound script) (sym done) (sound_restart w viewer sound)
  sound_step w (events.Ask name status) after sound done = subst (IsSound script) (sym done.2) (sound_history w actors.User done.0 tt sound (ask_is_step w.history w.clock name status done.0 done.1))
  sound_step w (events.Clock reading) after sound done = subst (IsSound script) (sym done.1) (record { legal = sound.legal; controllers = sound.controllers; kubelets = sound.kubelets; kept = sound.kept; scripted = sound.scripted; spared = λ i k at. time_spares i k.life k.killed k.told w.history w.clock reading done.0 (sound.spared i k at); claims = sound.claims })
  sound_step w events.Round after sound done = absurd done

  pub sound_steps : (w : World) (later : List Event) (after : World) → IsSound script w → Steps script w later after → IsSound script after
  sound_steps w [] after sound done = subst (IsSound script) (sym done) sound
  sound_steps w (event ∷ later) after sound done = sound_steps done.0 later after (sound_step w event done.0 sound done.1) done.2

  pub sound_run : (w after : World) (later : List Event) → IsSound script w → Run script w later after → IsSound script after
  sound_run w after [] sound done = subst (IsSound script) (sym done) sound
  sound_run w after (event ∷ later) sound done = sound_run done.0 after later (sound_steps w (opened script w event) done.0 sound done.1) done.2

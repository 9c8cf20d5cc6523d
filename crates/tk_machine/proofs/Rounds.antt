-- A fair round that begins while something is open moves on, and no more can happen than the weight allows.
use Rattle.std.proofs.Common.{◌≡◌, ◌≢◌, ℕ, zero, suc, ◌<◌, ◌≤◌, ◌+◌, List, [], ◌∷◌, ◌++◌, length, Option, Some, None, refl, sym, ◌∙◌, ap, subst, arith, inl, inr, length-append, eq-or-lt_of_le}
use Rattle.std.specs.Prelude.{◌⊎◌, slice_get, slice_set}
use Rattle.std.proofs.lemmas.Option.{same_Some}
use Rattle.tk_types.specs.declared.run.Outcome.TheVariants as outcomes
use Rattle.tk_types.specs.declared.scenario.Event.{Event}
use Rattle.tk_types.specs.declared.scenario.Event.TheVariants as events
use Rattle.tk_types.specs.declared.scenario.Viewer.TheVariants as viewers
use Rattle.tk_types.specs.declared.scenario.Taker.TheVariants as takers
use Rattle.tk_edge.specs.declared.event.Event.{Event as HostEvent}
use Rattle.tk_edge.specs.InOrder.{IsKept}
use Rattle.tk_journal.specs.declared.entry.Actor.{Actor}
use Rattle.tk_journal.specs.declared.entry.Actor.TheVariants as actors
use Rattle.tk_journal.specs.declared.entry.Fronts.{Fronts}
use Rattle.tk_journal.specs.declared.entry.Entry.{Entry}
use Rattle.tk_journal.specs.declared.act.Closing.TheVariants as closings
use Rattle.tk_journal.specs.declared.act.Act.{Act}
use Rattle.tk_journal.specs.declared.act.Act.TheVariants as acts
use Rattle.tk_journal.specs.declared.object.PodState.{PodState}
use Rattle.tk_journal.specs.declared.object.Claim.{Claim}
use Rattle.tk_journal.specs.Lists.{IsThere, Has}
use Rattle.tk_journal.specs.Effects.{kind_of, name_of}
use Rattle.tk_journal.specs.History.{View, view_at, task_run_of, pod_of}
use Rattle.tk_journal.specs.Rows.{IsJustified}
use Rattle.tk_journal.specs.PodRows.{ClaimRow}
use Rattle.tk_journal.specs.Choice.{MayChoose}
use Rattle.tk_journal.specs.Progress.{IsPartOfProgram, HoldsPod, IsOpen, at_end}
use Rattle.tk_journal.specs.Weight.{act_weight, weight}
use Rattle.tk_journal.proofs.Past.{past_whole}
use Rattle.tk_journal.proofs.Statements.{never_stuck}
use Rattle.tk_deeds.proofs.Deeds.{deeds_within_weight}
use Rattle.tk_held.specs.Conditions.{pods_of}
use Rattle.tk_machine.specs.State.{KubeletState, World, controller_events, kubelet_events, for_each, round_events}
use Rattle.tk_machine.specs.Hosts.{Script, IsHeldBy, MayTry, deeds_of, layout}
use Rattle.tk_machine.specs.Machine.{with_history, with_kubelet, move_kubelet, moved_at, GoesThrough, WorkerTurn, KubeletTurn, Step, Steps, IsSound}
use Rattle.tk_machine.specs.Fair.{deeds_in, happened, OpenRounds, RoundMoves, RoundsEnd, RoundsClose}
use Rattle.tk_machine.proofs.Claims.{set_cases, set_there}
use Rattle.tk_machine.proofs.Deeds.{AreKept, deeds_grow, all_differ, all_of_pods}
use Rattle.tk_machine.proofs.Soundness.{current_at, moved_there, AddsBy, worker_by, kubelet_by, tried_justified, sound_step, sound_steps}

deeds_set : (ks : List KubeletState) (i : ℕ) (k now : KubeletState) → slice_get ks i ≡ Some k → length (deeds_in (slice_set ks i now)) + length (deeds_of k.told) ≡ length (deeds_in ks) + length (deeds_of now.told)
deeds_set [] i k now at = cc
deeds_set (x ∷ ks) zero k now at =
    let same : length (deeds_of x.told) ≡ length (deeds_of k.told) = ap (λ (y : KubeletState). length (deeds_of y.told)) (same_Some x k at) in
    omega (arith, same, length-append (deeds_of now.told) (deeds_in ks), length-append (deeds_of x.told) (deeds_in ks))
deeds_set (x ∷ ks) (suc i) k now at = omega (arith, deeds_set ks i k now at, length-append (deeds_of x.told) (deeds_in (slice_set ks i now)), length-append (deeds_of x.told) (deeds_in ks))

deeds_moved : (ks : List KubeletState) (i : ℕ) (move : Fronts → Fronts) (o : Option KubeletState) → slice_get ks i ≡ o → length (deeds_in (moved_at ks i (move_kubelet move) o)) ≡ length (deeds_in ks)
deeds_moved ks i move None at = refl
deeds_moved ks i move (Some k) at = omega (arith, deeds_set ks i k (move_kubelet move k) at)

set_length : {X : Type 0} (xs : List X) (i : ℕ) (x : X) → length (slice_set xs i x) ≡ length xs
set_length [] i x = refl
set_length (y ∷ xs) zero x = refl
set_length (y ∷ xs) (suc i) x = ap suc (set_length xs i x)

moved_length : {X : Type 0} (xs : List X) (i : ℕ) (move : X → X) (o : Option X) → length (moved_at xs i move o) ≡ length xs
moved_length xs i move None = refl
moved_length xs i move (Some x) = set_length xs i (move x)

-- what was put in place is found there
moved_value : {X : Type 0} (xs : List X) (i : ℕ) (move : X → X) (o : Option X) (x : X) → slice_get xs i ≡ o → slice_get (moved_at xs i move o) i ≡ Some x → (old : X) × (o ≡ Some old) × (x ≡ move old)
moved_value xs i move None x at is = cc
moved_value xs i move (Some old) x at is = elim (set_cases xs i i (move old) x is) [
  | inl hit ↦ (old, refl, hit.1)
  | inr miss ↦ absurd (miss.0 refl)
]

-- the turns of a fair round

abbrev IsFair : Event → Type 0
IsFair (events.DeliverAll viewer) = Unit {0}
IsFair (events.Turn taker) = Unit {0}
IsFair _ = ⊥

abbrev AreFair : List Event → Type 0
AreFair [] = Unit {0}
AreFair (event ∷ later) = IsFair event × AreFair later

fair_append : (xs ys : List Event) → AreFair xs → AreFair ys → AreFair (xs ++ ys)
fair_append [] ys fair_xs fair_ys = fair_ys
fair_append (x ∷ xs) ys fair_xs fair_ys = (fair_xs.0, fair_append xs ys fair_xs.1 fair_ys)

fair_each : (turns : ℕ → List Event) → ((i : ℕ) → AreFair (turns i)) → (first count : ℕ) → AreFair (for_each turns first count)
fair_each turns fair first zero = tt
fair_each turns fair first (suc count) = fair_append (turns first) (for_each turns (suc first) count) (fair first) (fair_each turns fair (suc first) count)

fair_controller : (i : ℕ) → AreFair (controller_events i)
fair_controller i = (tt, (tt, (tt, (tt, tt))))

fair_kubelet : (i : ℕ) → AreFair (kubelet_events i)
fair_kubelet i = (tt, (tt, tt))

abbrev HasLife : World → ℕ → ℕ → Type 0
HasLife w i life = Has (slice_get w.kubelets i) (λ (k : KubeletState). k.life ≡ life)

-- neither history, clock nor lives changed
record IsStill (w after : World) : Type 0 where
  history : after.history ≡ w.history
  clock : after.clock ≡ w.clock
  lives : (i life : ℕ) → HasLife w i life → HasLife after i life

-- what each turn of a fair round keeps, and whether anything happened
record Goes (w after : World) : Type 0 where
  controllers : length after.controllers ≡ length w.controllers
  kubelets : length after.kubelets ≡ length w.kubelets
  weighs : weight after.history ≡ weight w.history
  more : happened w ≤ happened after
  moved : (happened w < happened after) ⊎ IsStill w after

still_trans : (a b c : World) → IsStill a b → IsStill b c → IsStill a c
still_trans a b c first second = record { history = second.history ∙ first.history; clock = second.clock ∙ first.clock; lives = λ i life has. second.lives i life (first.lives i life has) }

module _ (script : Script) where
  goes_trans : (a b c : World) → Goes a b → Goes b c → Goes a c
  goes_trans a b c first second = record {
    controllers = second.controllers ∙ first.controllers;
    kubelets = second.kubelets ∙ first.kubelets;
    weighs = second.weighs ∙ first.weighs;
    more = omega (arith, first.more, second.more);
    moved = elim first.moved [
      | inl less ↦ inl (omega (arith, less, second.more))
      | inr still ↦ elim second.moved [
        | inl less ↦ inl (omega (arith, less, first.more))
        | inr then ↦ inr (still_trans a b c still then)
      ]
    ];
  }

  -- an entry of a worker or kubelet weighs nothing
  weightless : (view : View) (actor : Actor) (moment : ℕ) (act : Act) → actor ≢ actors.Admission → actor ≢ actors.User → IsJustified view actor moment act → act_weight act ≡ 0
  weightless view actor moment (acts.Admit name spec pending asked root) not_admission not_user just = absurd (not_admission just)
  weightless view actor moment (acts.Ask name status) not_admission not_user just = absurd (not_user just.0)
  weightless view actor moment _ not_admission not_user just = refl

  adds_weighs : (actor : Actor) (history after : List Entry) → actor ≢ actors.Admission → actor ≢ actors.User → AddsBy actor history after → weight after ≡ weight history
  adds_weighs actor history after not_admission not_user adds = elim adds [
    | inl same ↦ ap (weight) same
    | inr grew ↦
        let nothing = weightless (view_at grew.0.fronts history) grew.0.actor grew.0.moment grew.0.act (λ is. not_admission (sym grew.1 ∙ is)) (λ is. not_user (sym grew.1 ∙ is)) grew.3.justified in
        ap (weight) grew.2 ∙ omega (arith, nothing)
  ]

  adds_length : (actor : Actor) (history after : List Entry) → AddsBy actor history after → (length after ≡ suc (length history)) ⊎ (after ≡ history)
  adds_length actor history after adds = elim adds [
    | inl same ↦ inr same
    | inr grew ↦ inl (ap length grew.2)
  ]

  worker_goes : (w : World) (actor : Actor) (fronts : Fronts) (history : List Entry) → IsSound script w → actor ≢ actors.Admission → actor ≢ actors.User → AddsBy actor w.history history → Goes w (with_history w history)
  worker_goes w actor fronts history sound not_admission not_user adds = record {
    controllers = refl;
    kubelets = refl;
    weighs = adds_weighs actor w.history history not_admission not_user adds;
    more = elim (adds_length actor w.history history adds) [ inl grew ↦ omega (arith, grew) | inr same ↦ omega (arith, ap length same) ];
    moved = elim (adds_length actor w.history history adds) [
      | inl grew ↦ inl (omega (arith, grew))
      | inr same ↦ inr (record { history = same; clock = refl; lives = λ i life has. has })
    ];
  }

  kubelet_goes : (w : World) (i : ℕ) (k now : KubeletState) (history : List Entry) → IsSound script w → slice_get w.kubelets i ≡ Some k → KubeletTurn script i k w.clock w.history history now → Goes w (with_kubelet (with_history w history) i now)
  kubelet_goes w i k now history sound at turn =
      let adds = kubelet_by script i k now w.clock w.history history (sound.kubelets i k at) turn in
      let deeds = deeds_set w.kubelets i k now at in
      let longer : length (deeds_of k.told) ≤ length (deeds_of now.told) = omega (arith, deeds_grow turn.goes_on.since k.told, ap (λ (t : List HostEvent). length (deeds_of t)) turn.goes_on.is) in
      record {
        controllers = refl;
        kubelets = set_length w.kubelets i now;
        weighs = adds_weighs (actors.Kubelet i k.life) w.history history (λ is. cc) (λ is. cc) adds;
        more = elim (adds_length (actors.Kubelet i k.life) w.history history adds) [ inl grew ↦ omega (arith, grew, deeds, longer) | inr same ↦ omega (arith, ap length same, deeds, longer) ];
        moved = elim (adds_length (actors.Kubelet i k.life) w.history history adds) [
          | inl grew ↦ inl (omega (arith, grew, deeds, longer))
          | inr same ↦ inr (record {
            history = same;
            clock = refl;
            lives = λ j life has. set_there (λ (x : KubeletState). x.life ≡ life) w.kubelets i j now has (λ x at_x is. turn.life ∙ (ap (λ (y : KubeletState). y.life) (same_Some k x (sym at ∙ at_x)) ∙ is));
          })
        ];
      }

  goes_step : (w : World) (event : Event) (after : World) → IsFair event → IsSound script w → Step script w event after → Goes w after
  goes_step w (events.DeliverAll (viewers.Controller i)) after fair sound done = subst (Goes w) (sym done) (record {
    controllers = moved_length w.controllers i _ (slice_get w.controllers i);
    kubelets = refl;
    weighs = refl;
    more = omega arith;
    moved = inr (record { history = refl; clock = refl; lives = λ j life has. has });
  })
  goes_step w (events.DeliverAll (viewers.Kubelet i)) after fair sound done = subst (Goes w) (sym done) (record {
    controllers = refl;
    kubelets = moved_length w.kubelets i _ (slice_get w.kubelets i);
    weighs = refl;
    more = omega (arith, deeds_moved w.kubelets i (λ fronts. at_end w.history) (slice_get w.kubelets i) refl);
    moved = inr (record { history = refl; clock = refl; lives = λ j life has. moved_there (λ (x : KubeletState). x.life ≡ life) w.kubelets i (move_kubelet (λ fronts. at_end w.history)) (slice_get w.kubelets i) refl (λ x is. is) j has });
  })
  goes_step w (events.Turn (takers.Runs i)) after fair sound done = subst (Goes w) (sym done.leaves) (worker_goes w (actors.Runs i) done.fronts done.history sound (λ is. cc) (λ is. cc) (worker_by w.history (actors.Runs i) done.fronts w.clock done.history (sound.controllers i done.fronts done.at) done.turn))
  goes_step w (events.Turn (takers.Tasks i)) after fair sound done = subst (Goes w) (sym done.leaves) (worker_goes w (actors.Tasks i) done.fronts done.history sound (λ is. cc) (λ is. cc) (worker_by w.history (actors.Tasks i) done.fronts w.clock done.history (sound.controllers i done.fronts done.at) done.turn))
  goes_step w (events.Turn (takers.Kubelet i)) after fair sound done = subst (Goes w) (sym done.leaves) (kubelet_goes w i done.k done.now done.history sound done.at done.turn)
  goes_step w _ after fair sound done = absurd fair

  goes_steps : (w : World) (later : List Event) (after : World) → AreFair later → IsSound script w → Steps script w later after → Goes w after
  goes_steps w [] after fair sound done = subst (Goes w) (sym done) (record { controllers = refl; kubelets = refl; weighs = refl; more = omega arith; moved = inr (record { history = refl; clock = refl; lives = λ i life has. has }) })
  goes_steps w (event ∷ later) after fair sound done = goes_trans w done.0 after (goes_step w event done.0 fair.0 sound done.1) (goes_steps done.0 later after fair.1 (sound_step script w event done.0 sound done.1) done.2)

  split : (w : World) (xs ys : List Event) (after : World) → Steps script w (xs ++ ys) after → (between : World) × Steps script w xs between × Steps script between ys after
  split w [] ys after done = (w, refl, done)
  split w (x ∷ xs) ys after done = let rest = split done.0 xs ys after done.2 in (rest.0, (done.0, done.1, rest.1), rest.2)

  -- what an actor finds to do

  abbrev whole : List Entry → View
  whole history = view_at (at_end history) history

  pub justified_writable : (history : List Entry) (actor : Actor) (moment : ℕ) (act : Act) → MayChoose act → IsJustified (whole history) actor moment act → GoesThrough history (at_end history) act
  justified_writable history actor moment (acts.Admit name spec pending asked root) may just = absurd may
  justified_writable history actor moment (acts.MakeTaskRun name run task index mark) may just = subst (λ (h : List Entry). task_run_of h name ≡ None) (past_whole (length history) history (omega arith)) just.1.has.absent
  justified_writable history actor moment (acts.MakePod name task_run attempt plan mark) may just = subst (λ (h : List Entry). pod_of h name ≡ None) (past_whole (length history) history (omega arith)) just.2
  justified_writable history actor moment act may just = current_at (kind_of act) (name_of act) history

  -- a worker that sees all and has a choice writes it
  worker_writes : (history : List Entry) (actor : Actor) (moment : ℕ) (after : List Entry) (act : Act) → MayChoose act → IsJustified (whole history) actor moment act → WorkerTurn history actor (at_end history) moment after → length after ≡ suc (length history)
  worker_writes history actor moment after act may just turn = elim turn [
    | inl idle ↦ absurd (idle.0 act may just)
    | inr tried ↦ elim tried.2 [
      | inl went ↦ ap length went.1
      | inr refused ↦ absurd (refused.0 (justified_writable history actor moment tried.0 tried.1.mine tried.1.justified))
    ]
  ]

  abbrev CanWork : List Entry → ℕ → Actor → Type 0
  CanWork history moment actor = (act : Act) × MayChoose act × IsJustified (whole history) actor moment act

  -- a kubelet can claim a pod, or holds one in this life or an earlier one
  abbrev CanClaim : List Entry → ℕ → ℕ → Type 0
  CanClaim history number life = (name : List ℕ) × Has (pod_of history name) (ClaimRow (whole history) (actors.Kubelet number life))

  abbrev Holds : List Entry → ℕ → ℕ → Type 0
  Holds history number life = (name : List ℕ) × Has (pod_of history name) (λ (pod : PodState). (claim : Claim) × (pod.claim ≡ Some claim) × (pod.ended ≡ None) × (claim.number ≡ number) × (claim.life ≤ life))

  seen_whole : (history : List Entry) (name : List ℕ) → (whole history).pod name ≡ pod_of history name
  seen_whole history name = ap (λ (h : List Entry). pod_of h name) (past_whole (length history) history (omega arith))

  -- a kubelet that sees all and may try an entry writes one
  kubelet_writes : (w : World) (i : ℕ) (k now : KubeletState) (history : List Entry) → k.fronts ≡ at_end w.history → KubeletTurn script i k w.clock w.history history now → (act : Act) → MayTry script i k.life w.history (whole w.history) w.clock now.told act → length history ≡ suc (length w.history)
  kubelet_writes w i k now history fronts turn act may = elim turn.tries [
    | inl none ↦ absurd (none.0 act (subst (λ (f : Fronts). MayTry script i k.life w.history (view_at f w.history) w.clock now.told act) (sym fronts) may))
    | inr tried ↦ elim tried.2 [
      | inl went ↦ ap length went.1
      | inr refused ↦
          let first : MayTry script i k.life w.history (whole w.history) w.clock now.told tried.0 = subst (λ (f : Fronts). MayTry script i k.life w.history (view_at f w.history) w.clock now.told tried.0) fronts tried.1.may in
          let just = tried_justified script i k.life w.history (whole w.history) w.clock now.told tried.0 first in
          absurd (refused.0 (subst (λ (f : Fronts). GoesThrough w.history f tried.0) (sym fronts) (justified_writable w.history (actors.Kubelet i k.life) w.clock tried.0 just.0 just.1)))
    ]
  ]

  kubelet_moves : (w : World) (i : ℕ) (k now : KubeletState) (history : List Entry) → IsSound script w → slice_get w.kubelets i ≡ Some k → k.fronts ≡ at_end w.history → KubeletTurn script i k w.clock w.history history now → CanClaim w.history i k.life ⊎ Holds w.history i k.life → happened w < happened (with_kubelet (with_history w history) i now)
  kubelet_moves w i k now history sound at fronts turn why = by_cause why
    where
      goes : Goes w (with_kubelet (with_history w history) i now)
      goes = kubelet_goes w i k now history sound at turn

      wrote : (act : Act) → MayTry script i k.life w.history (whole w.history) w.clock now.told act → happened w < happened (with_kubelet (with_history w history) i now)
      wrote act may =
          let grew = kubelet_writes w i k now history fronts turn act may in
          let longer : length (deeds_of k.told) ≤ length (deeds_of now.told) = omega (arith, deeds_grow turn.goes_on.since k.told, ap (λ (t : List HostEvent). length (deeds_of t)) turn.goes_on.is) in
          omega (arith, grew, deeds_set w.kubelets i k now at, longer)

      by_adds : (length (deeds_of k.told) < length (deeds_of now.told)) → (length history ≡ suc (length w.history)) ⊎ (history ≡ w.history) → happened w < happened (with_kubelet (with_history w history) i now)
      by_adds less (inl grew) = omega (arith, grew, less, deeds_set w.kubelets i k now at)
      by_adds less (inr same) = omega (arith, ap length same, less, deeds_set w.kubelets i k now at)

      by_life : (name : List ℕ) (pod : PodState) (claim : Claim) → pod_of w.history name ≡ Some pod → pod.claim ≡ Some claim → pod.ended ≡ None → claim.number ≡ i → (claim.life ≡ k.life) ⊎ (claim.life < k.life) → happened w < happened (with_kubelet (with_history w history) i now)
      by_life name pod claim there has unended number (inr earlier) = wrote (acts.EndPod name [] outcomes.Lost) (record {
        it = pod;
        is = seen_whole w.history name ∙ there;
        has = record {
          number = i;
          life = k.life;
          by = refl;
          claimed_in = claim.life;
          claimed = has ∙ ap (λ (n : ℕ). Some (record { number = n; life = claim.life })) number;
          unended = unended;
          fits = inr (earlier, refl, refl);
        };
      })
      by_life name pod claim there has unended number (inl same) =
          let held : IsHeldBy i k.life pod = record { claimed = has ∙ (ap (λ (n : ℕ). Some (record { number = n; life = claim.life })) number ∙ ap (λ (l : ℕ). Some (record { number = i; life = l })) same); unended = unended } in
          elim (turn.moves fronts (sound.spared i k at) name pod there held) [
            | inl tried ↦ wrote tried.0 (subst (λ (f : Fronts). MayTry script i k.life w.history (view_at f w.history) w.clock now.told tried.0) fronts tried.1)
            | inr less ↦ by_adds less (adds_length (actors.Kubelet i k.life) w.history history (kubelet_by script i k now w.clock w.history history (sound.kubelets i k at) turn))
          ]

      by_cause : CanClaim w.history i k.life ⊎ Holds w.history i k.life → happened w < happened (with_kubelet (with_history w history) i now)
      by_cause (inl claim) = wrote (acts.ClaimPod claim.0) (record { it = claim.1.it; is = seen_whole w.history claim.0 ∙ claim.1.is; has = claim.1.has })
      by_cause (inr holds) =
          let pod = holds.1.has in
          by_life holds.0 holds.1.it pod.0 holds.1.is pod.1 pod.2 pod.3 (eq-or-lt_of_le pod.4)

  abbrev Wants : World → ℕ → Type 0
  Wants w i = (life : ℕ) × HasLife w i life × (CanClaim w.history i life ⊎ Holds w.history i life)

  wants_still : (w after : World) (i : ℕ) → IsStill w after → Wants w i → Wants after i
  wants_still w after i still wants = (wants.0, still.lives i wants.0 wants.1, subst (λ (h : List Entry). CanClaim h i wants.0 ⊎ Holds h i wants.0) (sym still.history) wants.2)

  -- its own turn in the round
  own_turn : (w : World) (i : ℕ) (after : World) → IsSound script w → Wants w i → Steps script w (kubelet_events i) after → happened w < happened after
  own_turn w i after sound wants done =
      let w1 = done.0 in
      let sound1 = sound_step script w (events.DeliverAll (viewers.Kubelet i)) w1 sound done.1 in
      let first = goes_step w (events.DeliverAll (viewers.Kubelet i)) w1 tt sound done.1 in
      let turn = done.2.1 in
      let at : slice_get (moved_at w.kubelets i (move_kubelet (λ fronts. at_end w.history)) (slice_get w.kubelets i)) i ≡ Some turn.k = subst (λ (x : World). slice_get x.kubelets i ≡ Some turn.k) done.1 turn.at in
      let value = moved_value w.kubelets i (move_kubelet (λ fronts. at_end w.history)) (slice_get w.kubelets i) turn.k refl at in
      let same_history : w1.history ≡ w.history = ap (λ (x : World). x.history) done.1 in
      let fronts : turn.k.fronts ≡ at_end w1.history = ap (λ (x : KubeletState). x.fronts) value.2 ∙ ap at_end (sym same_history) in
      let old : wants.1.it ≡ value.0 = same_Some wants.1.it value.0 (sym wants.1.is ∙ value.1) in
      let life : wants.0 ≡ turn.k.life = sym wants.1.has ∙ (ap (λ (x : KubeletState). x.life) old ∙ sym (ap (λ (x : KubeletState). x.life) value.2)) in
      let why : CanClaim w1.history i turn.k.life ⊎ Holds w1.history i turn.k.life = subst (λ (l : ℕ). CanClaim w1.history i l ⊎ Holds w1.history i l) life (subst (λ (h : List Entry). CanClaim h i wants.0 ⊎ Holds h i wants.0) (sym same_history) wants.2) in
      let moved = kubelet_moves w1 i turn.k turn.now turn.history sound1 turn.at fronts turn.turn why in
      let last : happened after ≡ happened (with_kubelet (with_history w1 turn.history) i turn.now) = ap happened (done.2.2 ∙ turn.leaves) in
      omega (arith, moved, first.more, last)

  kubelets_move : (w : World) (i first count : ℕ) (after : World) → first ≤ i → i < first + count → IsSound script w → Wants w i → Steps script w (for_each kubelet_events first count) after → happened w < happened after
  kubelets_move w i first zero after low high sound wants done = absurd (omega arith)
  kubelets_move w i first (suc count) after low high sound wants done =
      let parts = split w (kubelet_events first) (for_each kubelet_events (suc first) count) after done in
      let sound1 = sound_steps script w (kubelet_events first) parts.0 sound parts.1 in
      let rest = goes_steps parts.0 (for_each kubelet_events (suc first) count) after (fair_each kubelet_events fair_kubelet (suc first) count) sound1 parts.2 in
      let here = goes_steps w (kubelet_events first) parts.0 (fair_kubelet first) sound parts.1 in
      elim (eq-or-lt_of_le low) [
        | inl same ↦ (let own = own_turn w i parts.0 sound wants (subst (λ (n : ℕ). Steps script w (kubelet_events n) parts.0) same parts.1) in omega (arith, own, rest.more))
        | inr later ↦ elim here.moved [
          | inl less ↦ omega (arith, less, rest.more)
          | inr still ↦ (let then = kubelets_move parts.0 i (suc first) count after later (omega arith) sound1 (wants_still w parts.0 i still wants) parts.2 in omega (arith, then, here.more))
        ]
      ]

  -- a worker's turn in the round

  front_is : (w after : World) (i : ℕ) (fronts : Fronts) → Step script w (events.DeliverAll (viewers.Controller i)) after → slice_get after.controllers i ≡ Some fronts → fronts ≡ at_end after.history
  front_is w after i fronts done at =
      let here : slice_get (moved_at w.controllers i (λ f. at_end w.history) (slice_get w.controllers i)) i ≡ Some fronts = subst (λ (x : World). slice_get x.controllers i ≡ Some fronts) done at in
      let value = moved_value w.controllers i (λ f. at_end w.history) (slice_get w.controllers i) fronts refl here in
      value.2 ∙ ap at_end (sym (ap (λ (x : World). x.history) done))

  runs_move : (w w1 after : World) (i : ℕ) → Step script w (events.DeliverAll (viewers.Controller i)) w1 → Step script w1 (events.Turn (takers.Runs i)) after → CanWork w1.history w1.clock (actors.Runs i) → happened w1 < happened after
  runs_move w w1 after i delivered done can =
      let fronts = front_is w w1 i done.fronts delivered done.at in
      let grew = worker_writes w1.history (actors.Runs i) w1.clock done.history can.0 can.1 can.2 (subst (λ (f : Fronts). WorkerTurn w1.history (actors.Runs i) f w1.clock done.history) fronts done.turn) in
      let last : happened after ≡ happened (with_history w1 done.history) = ap happened done.leaves in
      omega (arith, grew, last)

  tasks_move : (w w1 after : World) (i : ℕ) → Step script w (events.DeliverAll (viewers.Controller i)) w1 → Step script w1 (events.Turn (takers.Tasks i)) after → CanWork w1.history w1.clock (actors.Tasks i) → happened w1 < happened after
  tasks_move w w1 after i delivered done can =
      let fronts = front_is w w1 i done.fronts delivered done.at in
      let grew = worker_writes w1.history (actors.Tasks i) w1.clock done.history can.0 can.1 can.2 (subst (λ (f : Fronts). WorkerTurn w1.history (actors.Tasks i) f w1.clock done.history) fronts done.turn) in
      let last : happened after ≡ happened (with_history w1 done.history) = ap happened done.leaves in
      omega (arith, grew, last)

  work_still : (w after : World) (actor : Actor) → IsStill w after → CanWork w.history w.clock actor → CanWork after.history after.clock actor
  work_still w after actor still can = subst (λ (h : List Entry). CanWork h after.clock actor) (sym still.history) (subst (λ (c : ℕ). CanWork w.history c actor) (sym still.clock) can)

  -- what is to be done while something is open

  abbrev IsDue : World → Type 0
  IsDue w = CanWork w.history w.clock (actors.Runs 0) ⊎ (CanWork w.history w.clock (actors.Tasks 0) ⊎ ((i : ℕ) × (i < length w.kubelets) × Wants w i))

  any_runs : (view : View) (n moment : ℕ) (act : Act) → IsJustified view (actors.Runs n) moment act → MayChoose act × IsJustified view (actors.Runs 0) moment act
  any_runs view n moment (acts.Admit name spec pending asked root) just = cc
  any_runs view n moment (acts.Ask name status) just = let is = just.0 in cc (is)
  any_runs view n moment (acts.Start name) just = (tt, just)
  any_runs view n moment (acts.Schedule name task bindings) just = (tt, just)
  any_runs view n moment (acts.MakeTaskRun name run task index mark) just = (tt, just)
  any_runs view n moment (acts.Halt name stop) just = (tt, just)
  any_runs view n moment (acts.CancelTaskRun name) just = (tt, just)
  any_runs view n moment (acts.OpenAttempt name) just = absurd just.0
  any_runs view n moment (acts.MakePod name task_run attempt plan mark) just = absurd just.0
  any_runs view n moment (acts.ClaimPod name) just = let is = just.has.by in cc (is)
  any_runs view n moment (acts.EndPod name exits outcome) just = let is = just.has.by in cc (is)
  any_runs view n moment (acts.Close name (closings.Attempt outcome)) just = absurd just.0
  any_runs view n moment (acts.Close name closings.TaskRun) just = absurd just.0
  any_runs view n moment (acts.Close name (closings.Run condition skipped results)) just = (tt, just)

  any_tasks : (view : View) (n moment : ℕ) (act : Act) → IsJustified view (actors.Tasks n) moment act → MayChoose act × IsJustified view (actors.Tasks 0) moment act
  any_tasks view n moment (acts.Admit name spec pending asked root) just = cc
  any_tasks view n moment (acts.Ask name status) just = let is = just.0 in cc (is)
  any_tasks view n moment (acts.Start name) just = absurd just.0
  any_tasks view n moment (acts.Schedule name task bindings) just = absurd just.0
  any_tasks view n moment (acts.MakeTaskRun name run task index mark) just = absurd just.0
  any_tasks view n moment (acts.Halt name stop) just = absurd just.0
  any_tasks view n moment (acts.CancelTaskRun name) just = absurd just.0
  any_tasks view n moment (acts.OpenAttempt name) just = (tt, just)
  any_tasks view n moment (acts.MakePod name task_run attempt plan mark) just = (tt, just)
  any_tasks view n moment (acts.ClaimPod name) just = let is = just.has.by in cc (is)
  any_tasks view n moment (acts.EndPod name exits outcome) just = let is = just.has.by in cc (is)
  any_tasks view n moment (acts.Close name (closings.Attempt outcome)) just = (tt, just)
  any_tasks view n moment (acts.Close name closings.TaskRun) just = (tt, just)
  any_tasks view n moment (acts.Close name (closings.Run condition skipped results)) just = absurd just.0

  any_kubelet : (history : List Entry) (life moment : ℕ) (act : Act) → IsJustified (whole history) (actors.Kubelet 0 life) moment act → CanClaim history 0 life ⊎ HoldsPod history
  any_kubelet history life moment (acts.ClaimPod name) just = inl (name, record { it = just.it; is = sym (seen_whole history name) ∙ just.is; has = just.has })
  any_kubelet history life moment (acts.EndPod name exits outcome) just = inr (record { name = name; held = record { it = just.it; is = sym (seen_whole history name) ∙ just.is; has = ((record { number = just.has.number; life = just.has.claimed_in }, just.has.claimed), just.has.unended) } })
  any_kubelet history life moment (acts.Admit name spec pending asked root) just = cc
  any_kubelet history life moment (acts.Ask name status) just = let is = just.0 in cc (is)
  any_kubelet history life moment (acts.Close name (closings.Attempt outcome)) just = absurd just.0
  any_kubelet history life moment (acts.Close name closings.TaskRun) just = absurd just.0
  any_kubelet history life moment (acts.Close name (closings.Run condition skipped results)) just = absurd just.0
  any_kubelet history life moment _ just = absurd just.0

  get_below : {X : Type 0} (xs : List X) (i : ℕ) (x : X) → slice_get xs i ≡ Some x → i < length xs
  get_below [] i x is = cc
  get_below (y ∷ xs) zero x is = omega arith
  get_below (y ∷ xs) (suc i) x is = omega (arith, get_below xs i x is)

  holder : (w : World) → IsSound script w → HoldsPod w.history → IsDue w
  holder w sound holds =
      let claim = holds.held.has.0 in
      let owner = sound.claims holds.name holds.held.it claim.0 holds.held.is claim.1 in
      inr (inr (
        claim.0.number,
        get_below w.kubelets claim.0.number owner.it owner.is,
        (
          owner.it.life,
          record { it = owner.it; is = owner.is; has = refl },
          inr (holds.name, record { it = holds.held.it; is = holds.held.is; has = (claim.0, claim.1, holds.held.has.1, refl, owner.has) }),
        ),
      ))

  due_by : (w : World) → IsSound script w → (k : KubeletState) → slice_get w.kubelets 0 ≡ Some k → (actor : Actor) (act : Act) → IsPartOfProgram 0 k.life actor → IsJustified (whole w.history) actor w.clock act → IsDue w
  due_by w sound k at (actors.Runs n) act by just = (let any = any_runs (whole w.history) n w.clock act just in inl (act, any.0, any.1))
  due_by w sound k at (actors.Tasks n) act by just = (let any = any_tasks (whole w.history) n w.clock act just in inr (inl (act, any.0, any.1)))
  due_by w sound k at (actors.Kubelet number life) act by just =
      elim (any_kubelet w.history k.life w.clock act (subst (λ (l : ℕ). IsJustified (whole w.history) (actors.Kubelet 0 l) w.clock act) by.1 (subst (λ (n : ℕ). IsJustified (whole w.history) (actors.Kubelet n life) w.clock act) by.0 just))) [
        | inl claim ↦ inr (inr (0, get_below w.kubelets 0 k at, (k.life, record { it = k; is = at; has = refl }, inl claim)))
        | inr holds ↦ holder w sound holds
      ]
  due_by w sound k at actors.Admission act by just = absurd by
  due_by w sound k at actors.User act by just = absurd by

  first_there : {X : Type 0} (xs : List X) → 0 < length xs → IsThere (slice_get xs 0)
  first_there [] some = absurd (omega arith)
  first_there (x ∷ xs) some = (x, refl)

  due : (w : World) → IsSound script w → 0 < length w.kubelets → IsOpen w.history → IsDue w
  due w sound some is_open =
      let k = first_there w.kubelets some in
      elim (never_stuck w.history sound.legal is_open 0 k.0.life w.clock) [
        | inl can ↦ due_by w sound k.0 k.1 can.entry.actor can.entry.act can.by_program
            (subst (λ (m : ℕ). IsJustified (whole w.history) can.entry.actor m can.entry.act) can.now (subst (λ (f : Fronts). IsJustified (view_at f w.history) can.entry.actor can.entry.moment can.entry.act) can.sees_all can.step.justified))
        | inr holds ↦ holder w sound holds
      ]

  -- controller 0 comes first in the round
  round_goes : (w : World) (controllers kubelets : ℕ) (after : World) → kubelets ≡ length w.kubelets → IsSound script w → IsDue w → Steps script w (round_events (suc controllers) kubelets) after → happened w < happened after
  round_goes w controllers kubelets after counts sound (inl can) done =
      let first = goes_step w (events.DeliverAll (viewers.Controller 0)) done.0 tt sound done.1 in
      let sound1 = sound_step script w (events.DeliverAll (viewers.Controller 0)) done.0 sound done.1 in
      let sound2 = sound_step script done.0 (events.Turn (takers.Runs 0)) done.2.0 sound1 done.2.1 in
      let rest = goes_steps done.2.0 ((events.DeliverAll (viewers.Controller 0) ∷ events.Turn (takers.Tasks 0) ∷ for_each controller_events 1 controllers) ++ for_each kubelet_events 0 kubelets) after
      (fair_append (events.DeliverAll (viewers.Controller 0) ∷ events.Turn (takers.Tasks 0) ∷ for_each controller_events 1 controllers) (for_each kubelet_events 0 kubelets) (tt, (tt, fair_each controller_events fair_controller 1 controllers)) (fair_each kubelet_events fair_kubelet 0 kubelets)) sound2 done.2.2 in
      elim first.moved [
        | inl less ↦ (let second = goes_step done.0 (events.Turn (takers.Runs 0)) done.2.0 tt sound1 done.2.1 in omega (arith, less, second.more, rest.more))
        | inr still ↦ (let moved = runs_move w done.0 done.2.0 0 done.1 done.2.1 (work_still w done.0 (actors.Runs 0) still can) in omega (arith, moved, first.more, rest.more))
      ]
  round_goes w controllers kubelets after counts sound (inr (inl can)) done =
      let parts = split w (events.DeliverAll (viewers.Controller 0) ∷ events.Turn (takers.Runs 0) ∷ []) ((events.DeliverAll (viewers.Controller 0) ∷ events.Turn (takers.Tasks 0) ∷ for_each controller_events 1 controllers) ++ for_each kubelet_events 0 kubelets) after done in
      let first = goes_steps w (events.DeliverAll (viewers.Controller 0) ∷ events.Turn (takers.Runs 0) ∷ []) parts.0 (tt, (tt, tt)) sound parts.1 in
      let sound1 = sound_steps script w (events.DeliverAll (viewers.Controller 0) ∷ events.Turn (takers.Runs 0) ∷ []) parts.0 sound parts.1 in
      let then = parts.2 in
      let second = goes_step parts.0 (events.DeliverAll (viewers.Controller 0)) then.0 tt sound1 then.1 in
      let sound2 = sound_step script parts.0 (events.DeliverAll (viewers.Controller 0)) then.0 sound1 then.1 in
      let third = goes_step then.0 (events.Turn (takers.Tasks 0)) then.2.0 tt sound2 then.2.1 in
      let sound3 = sound_step script then.0 (events.Turn (takers.Tasks 0)) then.2.0 sound2 then.2.1 in
      let rest = goes_steps then.2.0 (for_each controller_events 1 controllers ++ for_each kubelet_events 0 kubelets) after
      (fair_append (for_each controller_events 1 controllers) (for_each kubelet_events 0 kubelets) (fair_each controller_events fair_controller 1 controllers) (fair_each kubelet_events fair_kubelet 0 kubelets)) sound3 then.2.2 in
      elim (goes_trans w parts.0 then.0 first second).moved [
        | inl less ↦ omega (arith, less, third.more, rest.more)
        | inr still ↦ (let moved = tasks_move parts.0 then.0 then.2.0 0 then.1 then.2.1 (work_still w then.0 (actors.Tasks 0) still can) in omega (arith, moved, first.more, second.more, rest.more))
      ]
  round_goes w controllers kubelets after counts sound (inr (inr wants)) done =
      let parts = split w (for_each controller_events 0 (suc controllers)) (for_each kubelet_events 0 kubelets) after done in
      let first = goes_steps w (for_each controller_events 0 (suc controllers)) parts.0 (fair_each controller_events fair_controller 0 (suc controllers)) sound parts.1 in
      let sound1 = sound_steps script w (for_each controller_events 0 (suc controllers)) parts.0 sound parts.1 in
      let rest = goes_steps parts.0 (for_each kubelet_events 0 kubelets) after (fair_each kubelet_events fair_kubelet 0 kubelets) sound1 parts.2 in
      elim first.moved [
        | inl less ↦ omega (arith, less, rest.more)
        | inr still ↦ (let moved = kubelets_move parts.0 wants.0 0 kubelets after (omega arith) (omega (arith, wants.1, counts)) sound1 (wants_still w parts.0 wants.0 still wants.2) parts.2 in omega (arith, moved, first.more))
      ]

  pub round_moves : RoundMoves script
  round_moves w after sound peopled is_open done = by_count (length w.controllers) peopled.controllers done
    where
      by_count : (n : ℕ) → 0 < n → Steps script w (round_events n (length w.kubelets)) after → happened w < happened after
      by_count zero some steps = absurd (omega arith)
      by_count (suc n) some steps = round_goes w n (length w.kubelets) after refl sound (due w sound peopled.kubelets is_open) steps

  from_zero : (w : World) → IsSound script w → AreKept w.history 0 w.kubelets
  from_zero w sound i k at = subst (λ (n : ℕ). IsKept layout k.killed (pods_of n w.history) k.told) (omega arith) (sound.kept i k at)

  -- never more than the weight
  happened_within : (w : World) → IsSound script w → happened w ≤ weight w.history
  happened_within w sound = deeds_within_weight w.history (deeds_in w.kubelets) sound.legal (all_differ w.history 0 w.kubelets (from_zero w sound)) (all_of_pods w.history w.kubelets (from_zero w sound))

  pub rounds_end : RoundsEnd script
  rounds_end w after zero sound peopled done = omega (arith, happened_within w sound)
  rounds_end w after (suc rounds) sound peopled done =
      let between = done.1.0 in
      let moved = round_moves w between sound peopled done.0 done.1.1 in
      let fair = fair_append (for_each controller_events 0 (length w.controllers)) (for_each kubelet_events 0 (length w.kubelets)) (fair_each controller_events fair_controller 0 (length w.controllers)) (fair_each kubelet_events fair_kubelet 0 (length w.kubelets)) in
      let goes = goes_steps w (round_events (length w.controllers) (length w.kubelets)) between fair sound done.1.1 in
      let sound1 = sound_steps script w (round_events (length w.controllers) (length w.kubelets)) between sound done.1.1 in
      let rest = rounds_end between after rounds sound1 (record { controllers = omega (arith, peopled.controllers, goes.controllers); kubelets = omega (arith, peopled.kubelets, goes.kubelets) }) done.1.2 in
      omega (arith, moved, rest, goes.weighs)

  none_open : IsOpen [] → ⊥
  none_open (inl run) = let is = run.1.is in cc (is)
  none_open (inr task_run) = let is = task_run.1.is in cc (is)

  no_rounds : (w after : World) (rounds : ℕ) → w.history ≡ [] → OpenRounds script w rounds after → IsOpen after.history → ⊥
  no_rounds w after zero is done is_open = none_open (subst IsOpen (ap (λ (x : World). x.history) done ∙ is) is_open)
  no_rounds w after (suc rounds) is done is_open = none_open (subst IsOpen is done.0)

  pub rounds_close : RoundsClose script
  rounds_close w after rounds sound peopled enough done is_open = by_history w.history refl
    where
      by_history : (h : List Entry) → w.history ≡ h → ⊥
      by_history [] is = no_rounds w after rounds is done is_open
      by_history (e ∷ older) is = omega (arith, rounds_end w after rounds sound peopled done, enough, ap length is)

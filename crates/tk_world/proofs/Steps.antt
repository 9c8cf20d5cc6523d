-- Events one after the other, as calls take them.
use Rattle.std.proofs.Common.{◌≡◌, ℕ, zero, suc, ◌+◌, List, [], ◌∷◌, ◌++◌, length, map, replicate, Some, Ok, Err, take, drop, refl, sym, ◌∙◌, ap, subst, arith, append-nil}
use Rattle.std.specs.Prelude.{IfOk, OnOk, Result, slice_get}
use Rattle.std.proofs.lemmas.List.{length-map, take_more}
use Rattle.std.proofs.lemmas.Option.{get_or_from_slice_get, same_Some}
use Rattle.tk_journal.proofs.Attempts.{get_below}
use Rattle.tk_types.specs.declared.scenario.Event.{Event}
use Rattle.tk_types.specs.declared.scenario.Event.TheVariants as events
use Rattle.tk_journal.specs.Progress.{IsOpen}
use Rattle.tk_script.specs.declared.pod_script.PodScript.{PodScript}
use Rattle.tk_machine.specs.Hosts.{Script}
use Rattle.tk_machine.specs.State.{World, for_each, controller_events, kubelet_events}
use Rattle.tk_machine.specs.Machine.{Steps, Run, opened}
use Rattle.tk_machine.specs.Fair.{FairRound, OpenRounds}
use Rattle.tk_play.specs.Scripts.{script_of}
use Rattle.tk_world.specs.declared.stepped.Stepped.{Stepped}
use Rattle.tk_world.specs.Goes.{DoesAll, Goes, IsSame, Runs, Stays, Takes, TakesAll, TakesBehind, Took}
use Rattle.tk_world.specs.Stepped.{IsStepped}
use Rattle.tk_world.specs.Nodes.{scripts_in, state_of}
use Rattle.tk_world.specs.Whole.{IsWorld, Whole, fronts_of, machine_of, scripts_of}

-- the first of the events that are left
pub take_next : (xs : List Event) (i : ℕ) (x : Event) → slice_get xs i ≡ Some x → take (i + 1) xs ≡ take i xs ++ x ∷ []
take_next xs i x is =
    let within = get_below xs i x is in
    take_more xs i x within ∙ ap (λ (e : Event). take i xs ++ e ∷ []) (get_or_from_slice_get xs i x x is)

pub drop_next : (xs : List Event) (i : ℕ) (x : Event) → slice_get xs i ≡ Some x → drop i xs ≡ x ∷ drop (i + 1) xs
drop_next [] i x is = cc
drop_next (y ∷ ys) zero x is = ap (λ (e : Event). e ∷ ys) (same_Some y x is)
drop_next (y ∷ ys) (suc i) x is = let more : suc i + 1 ≡ suc (i + 1) = omega arith in subst (λ (n : ℕ). drop i ys ≡ x ∷ drop n (y ∷ ys)) (sym more) (drop_next ys i x is)

append_assoc : (xs ys zs : List Event) → (xs ++ ys) ++ zs ≡ xs ++ (ys ++ zs)
append_assoc [] ys zs = refl
append_assoc (x ∷ xs) ys zs = ap (λ (rest : List Event). x ∷ rest) (append_assoc xs ys zs)

each_last : (events : ℕ → List Event) (first count : ℕ) → for_each events first (suc count) ≡ for_each events first count ++ events (first + count)
each_last events first zero = append-nil (events first) ∙ ap events (omega arith)
each_last events first (suc count) =
    ap (λ (rest : List Event). events first ++ rest) (each_last events (suc first) count)
    ∙ (sym (append_assoc (events first) (for_each events (suc first) count) (events (suc first + count)))
    ∙ ap (λ (n : ℕ). (events first ++ for_each events (suc first) count) ++ events n) (omega arith))

-- those of one number more
each_next : (events : ℕ → List Event) (i : ℕ) → for_each events 0 i ++ events i ≡ for_each events 0 (i + 1)
each_next events i =
    let same : i ≡ 0 + i = omega arith in
    let next : suc i ≡ i + 1 = omega arith in
    ap (λ (n : ℕ). for_each events 0 i ++ events n) same ∙ (sym (each_last events 0 i) ∙ ap (for_each events 0) next)

module _ (script : Script) where
  steps_append : (w : World) (xs ys : List Event) (mid after : World) → Steps script w xs mid → Steps script mid ys after → Steps script w (xs ++ ys) after
  steps_append w [] ys mid after first second = subst (λ (m : World). Steps script m ys after) first second
  steps_append w (x ∷ xs) ys mid after first second = (first.0, first.1, steps_append first.0 xs ys mid after first.2 second)

  run_append : (w : World) (xs ys : List Event) (mid after : World) → Run script w xs mid → Run script mid ys after → Run script w (xs ++ ys) after
  run_append w [] ys mid after first second = subst (λ (m : World). Run script m ys after) first second
  run_append w (x ∷ xs) ys mid after first second = (first.0, first.1, run_append first.0 xs ys mid after first.2 second)

  pub rounds_next : (w : World) (rounds : ℕ) (mid after : World) → OpenRounds script w rounds mid → IsOpen mid.history → FairRound script mid after → OpenRounds script w (rounds + 1) after
  rounds_next w rounds mid after first is_open round = let more : suc rounds ≡ rounds + 1 = omega arith in subst (λ (n : ℕ). OpenRounds script w n after) more (next w rounds first)
    where
      next : (v : World) (n : ℕ) → OpenRounds script v n mid → OpenRounds script v (suc n) after
      next v zero done = (subst (λ (m : World). IsOpen m.history) done is_open, (after, subst (λ (m : World). FairRound script m after) done round, refl))
      next v (suc n) done = (done.0, (done.1.0, done.1.1, next done.1.0 n done.1.2))

pub stays_on : (a b c : Whole) → Stays a b → Stays b c → Stays a c
stays_on a b c first second = record {
  pods = second.pods ∙ first.pods;
  controllers = second.controllers ∙ first.controllers;
  nodes = second.nodes ∙ first.nodes;
  stands = second.stands;
}

pub goes_on : (xs ys : List Event) (a b c : Whole) → Goes xs a b → Goes ys b c → Goes (xs ++ ys) a c
goes_on xs ys a b c first second = record {
  steps = steps_append (script_of (scripts_of a)) (machine_of a) xs ys (machine_of b) (machine_of c) first.steps (subst (λ (pods : List PodScript). Steps (script_of (scripts_in pods)) (machine_of b) ys (machine_of c)) first.stays.pods second.steps);
  stays = stays_on a b c first.stays second.stays;
}

-- nothing has gone on yet
pub stays_same : (a : Whole) → IsWorld a → Stays a a
stays_same a world = record { pods = refl; controllers = refl; nodes = refl; stands = world }

pub goes_none : (a : Whole) → IsWorld a → Goes [] a a
goes_none a world = record { steps = refl; stays = stays_same a world }

-- and what each answered
does_on : (xs ys : List Event) (a b c : Whole) → DoesAll xs a b → DoesAll ys b c → DoesAll (xs ++ ys) a c
does_on [] ys a b c first second = subst (λ (w : Whole). DoesAll ys w c) first second
does_on (x ∷ xs) ys a b c first second = (first.0, first.1, does_on xs ys first.0 b c first.2 second)

pub took_on : (xs ys : List Event) (a b c : Whole) → Took xs a b → Took ys b c → Took (xs ++ ys) a c
took_on xs ys a b c first second = record { goes = goes_on xs ys a b c first.goes second.goes; each = does_on xs ys a b c first.each second.each }

pub took_one : (event : Event) (a b : Whole) (answer : Stepped) → Goes (event ∷ []) a b → IsStepped event a b answer → Took (event ∷ []) a b
took_one event a b answer goes is = record { goes = goes; each = (b, record { goes = goes; answer = answer; is = is }, refl) }

-- what a call comes to that answers so
pub took_of : {E : Type 0} (event : Event) (a b : Whole) (r : Result Stepped E) → OnOk r (Goes (event ∷ []) a b) → IfOk r (IsStepped event a b) → OnOk r (Took (event ∷ []) a b)
took_of event a b (Ok answer) goes is = took_one event a b answer goes is
took_of event a b (Err e) goes is = tt

pub took_none : (a : Whole) → IsWorld a → Took [] a a
took_none a world = record { goes = goes_none a world; each = refl }

pub took_next : (events : ℕ → List Event) (i : ℕ) (a b c : Whole) → Took (for_each events 0 i) a b → Took (events i) b c → Took (for_each events 0 (i + 1)) a c
took_next events i a b c first second = subst (λ (es : List Event). Took es a c) (each_next events i) (took_on (for_each events 0 i) (events i) a b c first second)

-- a look whether something is open

pub same_same : (a : Whole) → IsSame a a
same_same a = record { store = refl; clock = refl; controllers = refl; nodes = refl; pods = refl }

same_on : (a b c : Whole) → IsSame a b → IsSame b c → IsSame a c
same_on a b c first second = record {
  store = second.store ∙ first.store;
  clock = second.clock ∙ first.clock;
  controllers = second.controllers ∙ first.controllers;
  nodes = second.nodes ∙ first.nodes;
  pods = second.pods ∙ first.pods;
}

-- to the machine it is nothing
pub same_machine : (a b : Whole) → IsSame a b → machine_of b ≡ machine_of a
same_machine a b same = rw (same.store, same.clock, same.controllers, same.nodes) refl

takes_behind : (given : List Event) (a b c : Whole) → IsSame a b → TakesAll given b c → TakesAll given a c
takes_behind [] a b c same done = same_on a b c same done
takes_behind (event ∷ later) a b c same done = (
  done.0,
  record { looked = done.1.looked; same = same_on a b done.1.looked same done.1.same; takes = done.1.takes },
  done.2,
)

pub takes_on : (xs ys : List Event) (a b c : Whole) → TakesAll xs a b → TakesAll ys b c → TakesAll (xs ++ ys) a c
takes_on [] ys a b c first second = takes_behind ys a b c first second
takes_on (x ∷ xs) ys a b c first second = (first.0, first.1, takes_on xs ys first.0 b c first.2 second)

pub looked_behind : (given : List Event) (a b c : Whole) → TakesAll given a b → IsSame b c → TakesAll given a c
looked_behind [] a b c done same = same_on a b c done same
looked_behind (event ∷ later) a b c done same = (done.0, done.1, looked_behind later done.0 b c done.2 same)

takes_next : (given : List Event) (event : Event) (a b c : Whole) → TakesAll given a b → TakesBehind event b c → TakesAll (given ++ event ∷ []) a c
takes_next given event a b c first second = takes_on given (event ∷ []) a b c first (c, second, same_same c)

round_more : (rounds : ℕ) → replicate rounds events.Round ++ events.Round ∷ [] ≡ replicate (rounds + 1) events.Round
round_more zero = refl
round_more (suc rounds) =
    let more : suc (rounds + 1) ≡ suc rounds + 1 = omega arith in
    subst (λ (n : ℕ). events.Round ∷ (replicate rounds events.Round ++ events.Round ∷ []) ≡ replicate n events.Round) more
    (ap (λ (rest : List Event). events.Round ∷ rest) (round_more rounds))

pub runs_none : (a : Whole) → IsWorld a → Runs [] a a
runs_none a world = record { run = refl; each = same_same a; stays = stays_same a world }

pub runs_next : (given : List Event) (event : Event) (a b c : Whole) → Runs given a b → Takes event b c → Runs (given ++ event ∷ []) a c
runs_next given event a b c first second = record {
  run = run_append (script_of (scripts_of a)) (machine_of a) given (event ∷ []) (machine_of b) (machine_of c) first.run
      (machine_of c, subst (λ (pods : List PodScript). Steps (script_of (scripts_in pods)) (machine_of b) (opened (script_of (scripts_in pods)) (machine_of b) event) (machine_of c)) first.stays.pods second.goes.steps, refl);
  each = takes_next given event a b c first.each (record { looked = b; same = same_same b; takes = second });
  stays = stays_on a b c first.stays second.goes.stays;
}

-- the controllers' turns and then the kubelets' are a round
pub round_of : (a b c : Whole) → Took (for_each controller_events 0 (length a.controllers)) a b → Took (for_each kubelet_events 0 (length b.nodes)) b c → Takes events.Round a c
round_of a b c first second =
    let kubelets : length b.nodes ≡ length (map state_of a.nodes) = first.goes.stays.nodes ∙ sym (length-map a.nodes state_of) in
    let controllers : length a.controllers ≡ length (map fronts_of a.controllers) = sym (length-map a.controllers fronts_of) in
    subst (λ (n : ℕ). Took (for_each controller_events 0 n ++ for_each kubelet_events 0 (length (map state_of a.nodes))) a c) controllers
    (subst (λ (n : ℕ). Took (for_each controller_events 0 (length a.controllers) ++ for_each kubelet_events 0 n) a c) kubelets
    (took_on (for_each controller_events 0 (length a.controllers)) (for_each kubelet_events 0 (length b.nodes)) a b c first second))

-- one more fair round
pub finishes_next : (rounds : ℕ) (a b c d : Whole) → OpenRounds (script_of (scripts_of a)) (machine_of a) rounds (machine_of b)
    → TakesAll (replicate rounds events.Round) a b → Stays a b → IsOpen b.store.history → IsSame b c → Stays b c → Takes events.Round c d
    → OpenRounds (script_of (scripts_of a)) (machine_of a) (rounds + 1) (machine_of d) × TakesAll (replicate (rounds + 1) events.Round) a d × Stays a d
finishes_next rounds a b c d done each stays is_open same still takes = (
  rounds_next (script_of (scripts_of a)) (machine_of a) rounds (machine_of b) (machine_of d) done is_open
      (subst (λ (w : World). FairRound (script_of (scripts_of a)) w (machine_of d)) (same_machine b c same)
      (subst (λ (pods : List PodScript). FairRound (script_of (scripts_in pods)) (machine_of c) (machine_of d)) (still.pods ∙ stays.pods) takes.goes.steps)),
  subst (λ (given : List Event). TakesAll given a d) (round_more rounds)
      (takes_next (replicate rounds events.Round) events.Round a b d each (record { looked = c; same = same; takes = takes })),
  stays_on a c d (stays_on a b c stays still) takes.goes.stays,
)

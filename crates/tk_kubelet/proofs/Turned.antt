-- A whole turn, of its calls for the held pods and its entry.
use Rattle.std.proofs.Common.{◌≡◌, ◌≢◌, ℕ, ◌<◌, ◌≤◌, ◌+◌, ◌-◌, ◌^◌, List, [], ◌∷◌, ◌++◌, length, get_or, Option, Some, None, Ok, Err, Bool, true, false, refl, sym, ◌∙◌, ap, subst, arith, slice_get, inl, inr}
use Rattle.std.specs.Prelude.{◌⊎◌, if◌then◌else◌, Result, IfOk, OnOk, OnErr, min}
use Rattle.std.proofs.lemmas.List.{append_assoc}
use Rattle.std.proofs.lemmas.Option.{slice_get_within, slice_get-get_or, same_Some}
use Rattle.std.proofs.lemmas.Bool.{cases_Bool}
use Rattle.tk_edge.specs.declared.event.Event.{Event}
use Rattle.tk_edge.specs.History.{GoesOn}
use Rattle.tk_edge.specs.Plays.{Play}
use Rattle.tk_journal.specs.declared.act.Act.{Act}
use Rattle.tk_journal.specs.declared.act.Act.TheVariants as acts
use Rattle.tk_types.specs.declared.run.Outcome.TheVariants as outcomes
use Rattle.tk_steps.specs.declared.held.HeldPod.{HeldPod}
use Rattle.tk_steps.specs.Kills.{CountsKills, Rose}
use Rattle.tk_steps.specs.May.{Adds}
use Rattle.tk_steps.specs.Moves.{Acts, count_actions}
use Rattle.tk_steps.specs.Played.{WatchesFrom}
use Rattle.tk_steps.specs.Watched.{children_of, IsChild}
use Rattle.tk_store.specs.Writes.{Stored}
use Rattle.tk_held.specs.declared.running.Ran.{Ran}
use Rattle.tk_held.specs.Placed.{ArePlaced, StayReady}
use Rattle.tk_held.specs.Played.{ArePlayed, IsWatchedThrough}
use Rattle.tk_held.specs.Pods.{AreDone, IsDone, KeepsAll, MayAny, MovesAll, RoseBy, StayFailed, StaysDone, count_failed}
use Rattle.tk_held.specs.Settled.{settled_in}
use Rattle.tk_held.specs.Settling.{AreKilled, IsOfSettled, SparesOthers, StayKilled}
use Rattle.tk_held.specs.Watched.{AreWatched, IsWatchable, KeepAllChildren, KeepsChildren, WatchesOnly}
use Rattle.tk_held.proofs.Every.{all_none, all_then, done_none, failed_then}
use Rattle.tk_held.proofs.Stays.{placed_all, stay_none, stay_then}
use Rattle.tk_kubelet.specs.declared.kubelet.KubeletTurn.{KubeletTurn}
use Rattle.tk_kubelet.specs.declared.kubelet.KubeletTurn.TheVariants as turns
use Rattle.tk_kubelet.specs.Answer.{Answered, answer_of}
use Rattle.tk_kubelet.specs.Ends.{IsLost, Tries, TriesNone, claim_by, end_by}
use Rattle.tk_kubelet.specs.Entries.{HeldAfter, HeldClaim}
use Rattle.tk_kubelet.specs.Seat.{Seat, HostState, Hosts, entry_by}
use Rattle.tk_kubelet.proofs.Claims.{held_claim}
use Rattle.tk_kubelet.specs.Turn.{IsOfEnded, Concludes, EndGives, EndMissed, EntryAnswers, Readied, TurnAnswers, TurnGives, TurnMissed}

-- what the calls for all held pods came to
pub record HasRun (seat : Seat) (old ran : List HeldPod) (before between : HostState) : Type 0 where
  pub moves : MovesAll seat.root old ran before.told between.told
  pub stays : ArePlaced seat.root old → StayReady seat.root old ran before.told between.told
  pub failed : StayFailed old ran
  pub only : WatchesOnly seat.seen.view seat.moment ran before.watches between.watches
  pub killed : AreKilled seat.seen.view seat.moment between.killed old
  pub still : StayKilled before.killed between.killed
  pub spares : SparesOthers seat.seen.view seat.moment old before.killed between.killed
  pub plays : between.play ≡ before.play
  pub few : RoseBy (count_failed ran - count_failed old) before.faults between.faults

-- and on success
pub record HasRunWhole (seat : Seat) (ran : List HeldPod) (before between : HostState) : Type 0 where
  pub done : AreDone seat.seen.view seat.moment ran
  pub watched : AreWatched seat.seen.view seat.moment ran before.watches between.watches
  pub played : ArePlayed seat.seen.view seat.moment ran before.play between.killed before.told between.told

abbrev hosts : HostState → HostState → Hosts
hosts before now = record { before = before; now = now }

rose_then : (a b c f g h : ℕ) → c ≤ a + b → RoseBy a f g → RoseBy b g h → RoseBy c f h
rose_then a b c f g h few first second = omega (arith, few, first, second)

few_then : (m n k f g h : ℕ) → RoseBy (n - m) f g → RoseBy (k - n) g h → RoseBy (k - m) f h
few_then m n k f g h first second = rose_then (n - m) (k - n) (k - m) f g h (omega arith) first second

-- a pod of which no call failed is one of which none had failed
still_whole : (a b : HeldPod) → KeepsChildren a b → b.failed ≡ false → a.failed ≡ false
still_whole a b same kept = elim (cases_Bool a.failed) [
  | inl failed ↦ (let bad : true ≡ false = sym (same.failed failed) ∙ kept in cc)
  | inr whole ↦ whole
]

child_as : (a b : HeldPod) → children_of b ≡ children_of a → (child : ℕ) → IsChild b child → IsChild a child
child_as a b same child own = record { place = own.place; at = subst (λ (cs : List ℕ). slice_get cs own.place ≡ Some child) same own.at }

-- what adds to a history goes on from it
goes_on : (P : Event → List Event → Type 0) (old new : List Event) → Adds P old new → GoesOn old new
goes_on P old new adds = record { since = adds.since; is = adds.is }

goes_then : (a b c : List Event) → GoesOn a b → GoesOn b c → GoesOn a c
goes_then a b c first second = record {
  since = second.since ++ first.since;
  is = second.is ∙ (ap (λ (h : List Event). second.since ++ h) first.is ∙ sym (append_assoc second.since first.since a));
}

-- a pod of the same name and children was watched as well, up to a later moment
through_as : (play : Option Play) (killed : ℕ → Bool) (a b : HeldPod) (old new later : List Event) → b.name ≡ a.name → children_of b ≡ children_of a → GoesOn new later → IsWatchedThrough play killed a old new → IsWatchedThrough play killed b old later
through_as play killed a b old new later name children goes through = record {
  before = through.before;
  after = through.after;
  from_old = through.from_old;
  watches =
      let named : WatchesFrom play killed b.name 0 (children_of a) through.before through.after = subst (λ (n : List ℕ). WatchesFrom play killed n 0 (children_of a) through.before through.after) (sym name) through.watches in
      subst (λ (cs : List ℕ). WatchesFrom play killed b.name 0 cs through.before through.after) (sym children) named;
  to_new = goes_then through.after new later through.to_new goes;
}

entry_turn : (seat : Seat) (ready : List HeldPod) (hs : Hosts) (before after : Stored) (turn : KubeletTurn) → EntryAnswers seat ready hs.now before after turn → TurnAnswers seat ready hs before after turn
entry_turn seat ready hs before after (turns.Wrote version) answers = answers
entry_turn seat ready hs before after (turns.Conflict found) answers = answers
entry_turn seat ready hs before after turns.Acted answers = absurd answers.answered
entry_turn seat ready hs before after turns.Idle answers = absurd answers.answered
entry_turn seat ready hs before after turns.HostFault answers = absurd answers.answered

-- without an entry

module _ (seat : Seat) (ran : List HeldPod) (before between : HostState) (stored : Stored) (none : TriesNone seat ran) where
  none_answers : (r : Ran) → CountsKills r.failed before.faults between.faults → (r.failed ≡ false → Acts r.acted before.told between.told) → TurnAnswers seat ran (hosts before between) stored stored (answer_of r)
  none_answers r counts acts = elim (cases_Bool r.failed) [
    | inl failed ↦
        let rose : CountsKills true before.faults between.faults = subst (λ (b : Bool). CountsKills b before.faults between.faults) failed counts in
        rw failed (none, refl, rose.0)
    | inr whole ↦
        let same : CountsKills false before.faults between.faults = subst (λ (b : Bool). CountsKills b before.faults between.faults) whole counts in
        by_acts whole same (acts whole)
  ]
    where
      by_acts : r.failed ≡ false → between.faults ≡ before.faults → Acts r.acted before.told between.told → TurnAnswers seat ran (hosts before between) stored stored (answer_of r)
      by_acts whole same acted = elim (cases_Bool r.acted) [
        | inl hit ↦
            let more : Acts true before.told between.told = subst (λ (b : Bool). Acts b before.told between.told) hit acted in
            rw (whole, hit) (none, refl, same, more)
        | inr miss ↦
            let as_before : Acts false before.told between.told = subst (λ (b : Bool). Acts b before.told between.told) miss acted in
            rw (whole, miss) (none, refl, same, as_before)
      ]

module _ (seat : Seat) (old ran : List HeldPod) (before between : HostState) (run : HasRun seat old ran before between) where
  run_spares : (child : ℕ) → between.killed child ≡ true → (before.killed child ≡ true) ⊎ IsOfSettled seat.seen.view seat.moment old child ⊎ IsOfEnded seat ran child
  run_spares child dead = elim (run.spares child dead) [ inl was ↦ inl was | inr settled ↦ inr (inl settled) ]

  ran_readied : HasRunWhole seat ran before between → Readied seat old ran (hosts before between)
  ran_readied whole = record {
    moves = run.moves;
    stays = run.stays;
    done = whole.done;
    watched = whole.watched;
    only = run.only;
    played = record { dead = between.killed; later = λ child is. is; each = whole.played };
    plays = run.plays;
    killed = run.killed;
    still = run.still;
    spares = run_spares;
    failed = run.failed;
    few = run.few;
  }

  -- no entry was tried
  pub none_gives : HasRunWhole seat ran before between → (stored : Stored) → TriesNone seat ran → (r : Ran) → CountsKills r.failed before.faults between.faults → (r.failed ≡ false → Acts r.acted before.told between.told) → TurnGives seat old ran (hosts before between) stored stored (answer_of r)
  none_gives whole stored none r counts acts = record {
    ready = ran;
    readied = ran_readied whole;
    held = λ place pod at. inl (place, at);
    answers = none_answers seat ran before between stored none r counts acts;
  }

  -- an entry was tried without a call on the host
  pub entry_gives : HasRunWhole seat ran before between → (new : List HeldPod) (stored after : Stored) (turn : KubeletTurn) → HeldAfter ran new → EntryAnswers seat ran between stored after turn → TurnGives seat old new (hosts before between) stored after turn
  entry_gives whole new stored after turn held answers = record {
    ready = ran;
    readied = ran_readied whole;
    held = held;
    answers = entry_turn seat ran (hosts before between) stored after turn answers;
  }

  -- memory lacked
  pub run_missed : (stored : Stored) → TurnMissed seat old ran (hosts before between) stored stored
  run_missed stored = record {
    same = refl;
    moves = run.moves;
    stays = run.stays;
    only = run.only;
    plays = run.plays;
    still = run.still;
    spares = run_spares;
    failed = run.failed;
    few = run.few;
  }

  -- a claim was tried
  module _ {E : Type 0} (new : List HeldPod) (stored after : Stored) (name : List ℕ) (result : Result KubeletTurn E) where
    pub claim_gives : HasRunWhole seat ran before between → end_by seat ran ≡ None → claim_by seat ≡ Some name → IfOk result (λ turn. Answered stored (entry_by seat.me seat.seen seat.moment (acts.ClaimPod name)) turn after)
        → IfOk result (λ turn. HeldClaim seat.seen.view name turn ran new) → IfOk result (TurnGives seat old new (hosts before between) stored after)
    claim_gives whole no_end first answered claimed = go result answered claimed
      where
        go : (r : Result KubeletTurn E) → IfOk r (λ turn. Answered stored (entry_by seat.me seat.seen seat.moment (acts.ClaimPod name)) turn after) → IfOk r (λ turn. HeldClaim seat.seen.view name turn ran new) → IfOk r (TurnGives seat old new (hosts before between) stored after)
        go (Ok turn) answered claimed = entry_gives whole new stored after turn (held_claim seat.seen.view name ran new turn claimed) record { act = acts.ClaimPod name; tries = (no_end, first); answered = answered }
        go (Err e) answered claimed = tt

    pub claim_missed : OnErr result (after ≡ stored) → OnErr result (new ≡ ran) → OnErr result (TurnMissed seat old new (hosts before between) stored after)
    claim_missed stands kept = go result stands kept
      where
        go : (r : Result KubeletTurn E) → OnErr r (after ≡ stored) → OnErr r (new ≡ ran) → OnErr r (TurnMissed seat old new (hosts before between) stored after)
        go (Ok turn) stands kept = tt
        go (Err e) stands kept =
            let here : TurnMissed seat old ran (hosts before between) stored after = subst (λ (s : Stored). TurnMissed seat old ran (hosts before between) stored s) (sym stands) (run_missed stored) in
            subst (λ (ps : List HeldPod). TurnMissed seat old ps (hosts before between) stored after) (sym kept) here

  -- a pod was ended

  module _ (ready : List HeldPod) (now : HostState) (ended : Concludes seat ran ready (hosts between now)) where
    ends_moves : MovesAll seat.root old ready before.told now.told
    ends_moves = all_then seat.root old ran ready before.told between.told now.told run.moves ended.moves

    ends_stays : ArePlaced seat.root old → StayReady seat.root old ready before.told now.told
    ends_stays placed = stay_then seat.root old ran ready before.told between.told now.told run.moves.same_length (run.stays placed) (ended.stays (placed_all seat.root old ran before.told between.told run.moves placed))

    ends_watched : AreWatched seat.seen.view seat.moment ran before.watches between.watches → AreWatched seat.seen.view seat.moment ready before.watches now.watches
    ends_watched watched place pod at none kept child own =
        let was = ended.moves.same place pod at in
        let same = ended.children place was.was pod was.at at in
        let whole : was.was.failed ≡ false = still_whole was.was pod same kept in
        ap (λ (f : ℕ → ℕ). f child) ended.unwatched ∙ watched place was.was was.at (ap (settled_in seat.seen.view seat.moment) (sym was.name) ∙ none) whole child (child_as was.was pod same.same child own)

    -- what is told behind the watches leaves them as they were
    ends_played : ArePlayed seat.seen.view seat.moment ran before.play between.killed before.told between.told → ArePlayed seat.seen.view seat.moment ready before.play between.killed before.told now.told
    ends_played played place pod at none kept =
        let was = ended.moves.same place pod at in
        let same = ended.children place was.was pod was.at at in
        let whole : was.was.failed ≡ false = still_whole was.was pod same kept in
        let through = played place was.was was.at (ap (settled_in seat.seen.view seat.moment) (sym was.name) ∙ none) whole in
        through_as before.play between.killed was.was pod before.told between.told now.told was.name same.same (goes_on (MayAny seat.root ran) between.told now.told ended.moves.adds) through

    ends_only : WatchesOnly seat.seen.view seat.moment ready before.watches now.watches
    ends_only child =
        let here : now.watches child ≡ between.watches child = ap (λ (f : ℕ → ℕ). f child) ended.unwatched in
        elim (run.only child) [
          | inl same ↦ inl (here ∙ same)
          | inr seen ↦
              let own = seen.1 in
              let lengths = ended.moves.same_length in
              let within = slice_get_within ran seen.0 own.pod own.at in
              let found = slice_get-get_or ready seen.0 own.pod (omega (arith, within, lengths)) in
              let was = ended.moves.same seen.0 (get_or ready seen.0 own.pod) found in
              let is : was.was ≡ own.pod = same_Some was.was own.pod (sym was.at ∙ own.at) in
              let same = ended.children seen.0 own.pod (get_or ready seen.0 own.pod) own.at found in
              let name : (get_or ready seen.0 own.pod).name ≡ own.pod.name = was.name ∙ ap (λ (p : HeldPod). p.name) is in
              inr (
                seen.0,
                record {
                  pod = get_or ready seen.0 own.pod;
                  at = found;
                  not_settled = ap (settled_in seat.seen.view seat.moment) name ∙ own.not_settled;
                  own = child_as (get_or ready seen.0 own.pod) own.pod (sym same.same) child own.own;
                },
                here ∙ seen.2,
              )
        ]

    ends_spares : (child : ℕ) → now.killed child ≡ true → (before.killed child ≡ true) ⊎ IsOfSettled seat.seen.view seat.moment old child ⊎ IsOfEnded seat ready child
    ends_spares child dead = elim (ended.spares child dead) [
      | inl was ↦ elim (run.spares child was) [ inl first ↦ inl first | inr settled ↦ inr (inl settled) ]
      | inr last ↦ inr (inr last)
    ]

    ends_failed : StayFailed old ready
    ends_failed = failed_then old ran ready run.moves.same_length run.failed (λ place a b at_a at_b failed. (ended.children place a b at_a at_b).failed failed)

    ends_few : RoseBy (count_failed ready - count_failed old) before.faults now.faults
    ends_few = few_then (count_failed old) (count_failed ran) (count_failed ready) before.faults between.faults now.faults run.few ended.few

    ends_readied : HasRunWhole seat ran before between → Readied seat old ready (hosts before now)
    ends_readied whole = record {
      moves = ends_moves;
      stays = ends_stays;
      done = λ place pod at none.
          let was = ended.moves.same place pod at in
          ended.done place was.was pod was.at at (whole.done place was.was was.at (ap (settled_in seat.seen.view seat.moment) (sym was.name) ∙ none));
      watched = ends_watched whole.watched;
      only = ends_only;
      played = record { dead = between.killed; later = λ child is. ended.still child is; each = ends_played whole.played };
      plays = ended.plays ∙ run.plays;
      killed = λ place pod at settled i step at_step none. ended.still step.child (run.killed place pod at settled i step at_step none);
      still = λ child is. ended.still child (run.still child is);
      spares = ends_spares;
      failed = ends_failed;
      few = ends_few;
    }

  pub end_turn : {E : Type 0} (new : List HeldPod) (now : HostState) (stored after : Stored) (result : Result KubeletTurn E) → HasRunWhole seat ran before between → IfOk result (EndGives seat ran new (hosts between now) stored after) → IfOk result (TurnGives seat old new (hosts before now) stored after)
  end_turn new now stored after (Ok turn) whole gives = record {
    ready = gives.ready;
    readied = ends_readied gives.ready now gives.concludes whole;
    held = gives.held;
    answers = entry_turn seat gives.ready (hosts before now) stored after turn gives.answers;
  }
  end_turn new now stored after (Err e) whole gives = tt

  pub end_missed : {T E : Type 0} (new : List HeldPod) (now : HostState) (stored after : Stored) (result : Result T E) → OnErr result (EndMissed seat ran new (hosts between now) stored after) → OnErr result (TurnMissed seat old new (hosts before now) stored after)
  end_missed new now stored after (Ok turn) missed = tt
  end_missed new now stored after (Err e) missed = record {
    same = missed.same;
    moves = ends_moves new now missed.concludes;
    stays = ends_stays new now missed.concludes;
    only = ends_only new now missed.concludes;
    plays = missed.concludes.plays ∙ run.plays;
    still = λ child is. missed.concludes.still child (run.still child is);
    spares = ends_spares new now missed.concludes;
    failed = ends_failed new now missed.concludes;
    few = ends_few new now missed.concludes;
  }

-- nothing was done on the host
pub nothing_done : (seat : Seat) (held : List HeldPod) (now : HostState) → KeepsAll now.told held → Concludes seat held held (hosts now now)
nothing_done seat held now keeps = record {
  moves = all_none seat.root held now.told now.told refl keeps;
  stays = λ placed. stay_none seat.root held now.told now.told refl;
  done = done_none held;
  children = λ place a b at_a at_b. subst (KeepsChildren a) (same_Some a b (sym at_a ∙ at_b)) (record { same = refl; failed = λ failed. failed });
  unwatched = refl;
  plays = refl;
  still = λ child is. is;
  spares = λ child is. inl is;
  few = (let none : count_failed held - count_failed held ≡ 0 = omega arith in rw none (omega arith));
}

-- a pod of an earlier life was ended
module _ {E : Type 0} (seat : Seat) (held : List HeldPod) (now : HostState) (keeps : KeepsAll now.told held) (name : List ℕ) (stored after : Stored) where
  pub lost_gives : end_by seat held ≡ Some name → IsLost seat.me seat.seen.view name → (result : Result KubeletTurn E) → IfOk result (λ turn. Answered stored (entry_by seat.me seat.seen seat.moment (acts.EndPod name [] outcomes.Lost)) turn after)
      → IfOk result (EndGives seat held held (hosts now now) stored after)
  lost_gives first lost (Ok turn) answered = record {
    ready = held;
    concludes = nothing_done seat held now keeps;
    held = λ place pod at. inl (place, at);
    answers = record { act = acts.EndPod name [] outcomes.Lost; tries = (first, (lost, refl)); answered = answered };
  }
  lost_gives first lost (Err e) answered = tt

  pub lost_missed : (result : Result KubeletTurn E) → OnErr result (after ≡ stored) → OnErr result (EndMissed seat held held (hosts now now) stored after)
  lost_missed (Ok turn) stands = tt
  lost_missed (Err e) stands = record { same = stands; concludes = nothing_done seat held now keeps }

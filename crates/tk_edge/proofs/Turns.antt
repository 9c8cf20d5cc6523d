-- What a turn of an armed entrypoint owes where it misses, and which files it may change.
use Rattle.std.proofs.Common.{◌≡◌, ◌⊎◌, ℕ, List, [], Option, Some, None, true, false, Result, OnErr, Ok, Err, refl, sym, ◌∙◌, ap, subst, inl, inr}
use Rattle.tk_edge.specs.declared.miss.Miss.{Miss}
use Rattle.tk_edge.specs.declared.miss.Miss.TheVariants as misses
use Rattle.tk_edge.specs.declared.event.Event.{Event}
use Rattle.tk_edge.specs.declared.event.Event.TheVariants as events
use Rattle.tk_edge.specs.declared.armed.Armed.{Armed}
use Rattle.tk_edge.specs.Armed.{FindsExit, Looks, is_over, noted, left_file, MissesNote, MissesPut, MissesPosts, IsPostFile, IsTurnFile, TurnMissed}
use Rattle.tk_edge.specs.Calls.{TellsCall, TellsMiss}
use Rattle.tk_edge.specs.Files.{Files, MayChange, IsOwnFile, broken}
use Rattle.tk_edge.specs.History.{started_orders}
use Rattle.tk_edge.specs.Markers.{IsPolledFile}

-- a put that missed

pub missed_put : (path bytes put text : List ℕ) (old new : List Event) (miss : Miss) → put ≡ path → text ≡ bytes → TellsMiss (events.Put put text false) old new miss → MissesPut path bytes old new
missed_put path bytes put text old new misses.Failed same whole told = inr (rw (← same, ← whole) told)
missed_put path bytes put text old new misses.Memory same whole told = inl told

pub put_missed : (path bytes put text : List ℕ) (old new : List Event) (result : Result (Unit {0}) Miss) → put ≡ path → text ≡ bytes → TellsCall (events.Put put text true) (events.Put put text false) old new result → OnErr result (MissesPut path bytes old new)
put_missed path bytes put text old new (Ok done) same whole told = tt
put_missed path bytes put text old new (Err miss) same whole told = missed_put path bytes put text old new miss same whole told

-- nothing was started

none_put : (path bytes : List ℕ) (old new : List Event) → MissesPut path bytes old new → started_orders new ≡ started_orders old
none_put path bytes old new (inl none) = ap started_orders none
none_put path bytes old new (inr failed) = ap started_orders failed

none_noted : (note : Option (List ℕ)) (exit : ℕ) (old : List Event) → started_orders (noted note exit old) ≡ started_orders old
none_noted None exit old = refl
none_noted (Some note) exit old = refl

none_note : (note : Option (List ℕ)) (exit : ℕ) (old new : List Event) → MissesNote note exit old new → started_orders new ≡ started_orders old
none_note None exit old new missed = ap started_orders missed
none_note (Some note) exit old new missed = none_put note _ old new missed

none_posted : (note : Option (List ℕ)) (exit : ℕ) (path : List ℕ) (old new : List Event) → MissesPosts note exit path old new → started_orders new ≡ started_orders old
none_posted note exit path old new (inl missed) = none_note note exit old new missed
none_posted note exit path old new (inr missed) = none_put path [] (noted note exit old) new missed ∙ none_noted note exit old

none_found : (child : ℕ) (kept : Option ℕ) (exit : ℕ) (old new : List Event) → FindsExit child kept exit old new → started_orders new ≡ started_orders old
none_found child (Some kept) exit old new found = ap started_orders found.1
none_found child None exit old new (inl first) = ap started_orders first.1
none_found child None exit old new (inr again) = ap started_orders again.1

pub missed_before : (old new : Armed) (told now : List Event) → is_over old.last ≡ false → new ≡ old → now ≡ told → TurnMissed old new told now
missed_before old new told now going same none = record { not_over = going; none_started = ap started_orders none; missed = inl record { same = same; nothing = inl none } }

pub missed_refusal : (old new : Armed) (told now : List Event) → Looks old → new ≡ old → MissesPut (broken old.post) [] told now → TurnMissed old new told now
missed_refusal old new told now looks same (inl none) = missed_before old new told now looks.not_over same none
missed_refusal old new told now looks same (inr failed) = record {
  not_over = looks.not_over;
  none_started = ap started_orders failed;
  missed = inl record { same = same; nothing = inr (looks, failed) };
}

pub missed_behind : (old new : Armed) (told between now : List Event) (child exit : ℕ) → is_over old.last ≡ false → old.child ≡ Some child → FindsExit child old.exit exit told between → MissesPosts old.note exit (left_file old exit) between now → new ≡ record old { exit = Some exit } → TurnMissed old new told now
missed_behind old new told between now child exit going its found missed kept = record {
  not_over = going;
  none_started = none_posted old.note exit (left_file old exit) between now missed ∙ none_found child old.exit exit told between found;
  missed = inr record { child = child; its_child = its; exit = exit; between = between; found = found; missed = missed; kept = kept };
}

-- which files changed

pub may_same : (may : List ℕ → Type 0) (old new : Option Files) → new ≡ old → MayChange may old new
may_same may None new is = is
may_same may (Some old) new is = (old, is, λ path differ. refl)

pub may_widen : (may more : List ℕ → Type 0) (old new : Option Files) → ((path : List ℕ) → may path → more path) → MayChange may old new → MayChange more old new
may_widen may more None new wide is = is
may_widen may more (Some old) new wide is = (is.0, is.1, λ path differ. is.2 path (λ at. differ (wide path at)))

pub may_both : (may : List ℕ → Type 0) (old between new : Option Files) → MayChange may old between → MayChange may between new → MayChange may old new
may_both may None between new first second = subst (λ (o : Option Files). MayChange may o new) first second
may_both may (Some old) between new first second =
    let then : MayChange may (Some first.0) new = subst (λ (o : Option Files). MayChange may o new) first.1 second in
    (then.0, then.1, λ path differ. then.2 path differ ∙ first.2 path differ)

-- a put of the post file, in its turn
pub turn_post : (armed : Armed) (told : List Event) (old new : Option Files) → MayChange (IsPostFile armed) old new → MayChange (IsTurnFile armed told) old new
turn_post armed told old new is = may_widen (IsPostFile armed) (IsTurnFile armed told) old new (λ path at. inl at) is

-- a start
pub turn_start : (armed : Armed) (told : List Event) (old new : Option Files) → MayChange (IsOwnFile armed.order.pod) old new → MayChange (IsTurnFile armed told) old new
turn_start armed told old new is = may_widen (IsOwnFile armed.order.pod) (IsTurnFile armed told) old new (λ path at. inr (inr (inl at))) is

-- a poll
pub turn_poll : (armed : Armed) (told : List Event) (child : ℕ) (old new : Option Files) → armed.child ≡ Some child → MayChange (IsPolledFile child told) old new → MayChange (IsTurnFile armed told) old new
turn_poll armed told child old new its is =
    may_widen (IsPolledFile child told) (IsTurnFile armed told) old new (λ path at. inr (inr (inr record { it = child; is = its; has = at }))) is

-- a poll, and the puts behind it
pub turn_behind : (armed : Armed) (told : List Event) (child : ℕ) (old between new : Option Files) → armed.child ≡ Some child → MayChange (IsPolledFile child told) old between → MayChange (λ path. IsPostFile armed path ⊎ (armed.note ≡ Some path)) between new → MayChange (IsTurnFile armed told) old new
turn_behind armed told child old between new its polled puts =
    may_both (IsTurnFile armed told) old between new (turn_poll armed told child old between its polled)
    (may_widen (λ path. IsPostFile armed path ⊎ (armed.note ≡ Some path)) (IsTurnFile armed told) between new wide puts)
  where
    wide : (path : List ℕ) → IsPostFile armed path ⊎ (armed.note ≡ Some path) → IsTurnFile armed told path
    wide path (inl at) = inl at
    wide path (inr at) = inr (inl at)

-- the note, and the post file behind it
pub puts_both : (armed : Armed) (old between new : Option Files) → MayChange (λ path. armed.note ≡ Some path) old between → MayChange (IsPostFile armed) between new → MayChange (λ path. IsPostFile armed path ⊎ (armed.note ≡ Some path)) old new
puts_both armed old between new first second =
    may_both (λ path. IsPostFile armed path ⊎ (armed.note ≡ Some path)) old between new
    (may_widen (λ path. armed.note ≡ Some path) (λ path. IsPostFile armed path ⊎ (armed.note ≡ Some path)) old between (λ path at. inr at) first)
    (may_widen (IsPostFile armed) (λ path. IsPostFile armed path ⊎ (armed.note ≡ Some path)) between new (λ path at. inl at) second)

-- the put of one file
pub puts_one : (may : List ℕ → Type 0) (put : List ℕ) (old new : Option Files) → may put → MayChange (λ other. other ≡ put) old new → MayChange may old new
puts_one may put old new at is = may_widen (λ other. other ≡ put) may old new (λ path same. subst may (sym same) at) is

-- Behind an end each child that was started since has its exit or was killed.
use Rattle.std.proofs.Common.{◌≡◌, ◌⊎◌, ℕ, List, [], ◌∷◌, Option, Some, None, Bool, false, refl, sym, ◌∙◌, ap, subst, inl, inr}
use Rattle.std.proofs.lemmas.Bool.Decides.{eqb_tells}
use Rattle.tk_edge.specs.declared.miss.Miss.{Miss}
use Rattle.tk_edge.specs.declared.miss.Miss.TheVariants as misses
use Rattle.tk_edge.specs.declared.order.Order.{Order}
use Rattle.tk_edge.specs.declared.event.Event.{Event}
use Rattle.tk_edge.specs.declared.event.Event.TheVariants as events
use Rattle.tk_edge.specs.declared.armed.Armed.{Armed}
use Rattle.tk_edge.specs.Armed.{FindsExit, TurnMissed, MissesPosts, MissesNote, MissesPut, exit_text, left_file, noted}
use Rattle.tk_edge.specs.Calls.{MarksKilled, TellsMiss}
use Rattle.tk_edge.specs.History.{Has, IsNew, exit_of, order_of}
use Rattle.tk_edge.specs.InOrder.{IsSettled}
use Rattle.tk_edge.proofs.InOrder.{order_new}
use Rattle.tk_edge.proofs.Keeps.{kill_settles}
use Rattle.tk_edge.proofs.Logs.{nat_eq_true}
use Rattle.tk_entry.specs.declared.entry.Turn.TheVariants as turns
use Rattle.tk_entry.specs.Entry.{Entry, EntryAnswers, seen_of}
use Rattle.tk_enter.specs.declared.words.EntryWords.{EntryWords}
use Rattle.tk_enter.specs.Enter.{Moment, began, ended, refused, Ends, IsRefused, AreSettled}
use Rattle.tk_enter.specs.Going.{IsGoing, IsBeginning, KillsChild}

-- a child that is new wasn't started
none_started : (child : ℕ) (told : List Event) → IsNew child told → Has (order_of child told) (λ _. Unit {0}) → ⊥
none_started child told new has = cc (order_new child told new, has.is)

-- where nothing was started
pub nothing_settled : (told : List Event) (killed : ℕ → Bool) → AreSettled told told killed
nothing_settled told killed child new has = absurd (none_started child told new has)

-- a history that starts no other children
same_has : (child : ℕ) (old new : List Event) → order_of child new ≡ order_of child old → Has (order_of child new) (λ _. Unit {0}) → Has (order_of child old) (λ _. Unit {0})
same_has child old new same has = record { it = has.it; is = sym same ∙ has.is; has = tt }

-- the only child that was started is its command
only_its : (order : Order) (child other : ℕ) (told : List Event) → IsNew other told → Has (order_of other (events.Started child order ∷ told)) (λ _. Unit {0}) → other ≡ child
only_its order child other told new has = elim (eqb_tells other child) [
  | inl hit ↦ hit.1
  | inr miss ↦
      let skips : order_of other (events.Started child order ∷ told) ≡ order_of other told = rw miss.0 refl in
      absurd (none_started other told new (same_has other told (events.Started child order ∷ told) skips has))
]

-- a kill of it settles it
kill_its : (child other : ℕ) (told : List Event) (before killed : ℕ → Bool) → other ≡ child → Has (order_of other told) (λ _. Unit {0}) → MarksKilled child told before killed → IsSettled killed other told
kill_its child other told before killed same has marks =
    kill_settles before killed told other (inr has) (subst (λ (c : ℕ). MarksKilled c told before killed) (sym same) marks)

-- a kill of its command, between two turns or behind a turn that started nothing
pub kill_settled : (w : EntryWords) (order : Order) (entry : Entry) (first now : Moment) (told : List Event) (command : Option ℕ) (before killed : ℕ → Bool) → IsGoing w order entry first now → command ≡ entry.armed.child → ((other : ℕ) → order_of other told ≡ order_of other now.told) → KillsChild command told before killed → AreSettled first.told told killed
kill_settled w order entry first now told command before killed going its same kills other new has =
    let earlier : Has (order_of other now.told) (λ _. Unit {0}) = same_has other now.told told (same other) has in
    elim going.how [
      | inl waited ↦ absurd (none_started other first.told new (subst (λ (h : List Event). Has (order_of other h) (λ _. Unit {0})) waited.nothing earlier))
      | inr begun ↦
          let here : Has (order_of other (began w order begun.child first.told)) (λ _. Unit {0}) = subst (λ (h : List Event). Has (order_of other h) (λ _. Unit {0})) begun.is earlier in
          let marks : MarksKilled begun.child told before killed = subst (λ (c : Option ℕ). KillsChild c told before killed) (its ∙ begun.its_child) kills in
          kill_its begun.child other told before killed (only_its order begun.child other first.told new here) has marks
    ]

-- the same where the history stands since
pub left_settled : (w : EntryWords) (order : Order) (entry : Entry) (first now : Moment) (told last : List Event) (before killed : ℕ → Bool) → IsGoing w order entry first now → told ≡ now.told → last ≡ told → KillsChild entry.armed.child told before killed → AreSettled first.told last killed
left_settled w order entry first now told last before killed going same still kills =
    subst (λ (h : List Event). AreSettled first.told h killed) (sym still)
    (kill_settled w order entry first now told entry.armed.child before killed going refl (λ other. ap (order_of other) same) kills)

-- the same behind the turn that started it
start_settled : (w : EntryWords) (order : Order) (entry : Entry) (first now : Moment) (told : List Event) (before killed : ℕ → Bool) → IsBeginning w order entry first now → ((other : ℕ) → order_of other told ≡ order_of other now.told) → KillsChild entry.armed.child told before killed → AreSettled first.told told killed
start_settled w order entry first now told before killed b same kills other new has =
    let here : Has (order_of other (events.Started b.child order ∷ first.told)) (λ _. Unit {0}) = subst (λ (h : List Event). Has (order_of other h) (λ _. Unit {0})) b.told (same_has other now.told told (same other) has) in
    let marks : MarksKilled b.child told before killed = subst (λ (c : Option ℕ). KillsChild c told before killed) b.its_child kills in
    kill_its b.child other told before killed (only_its order b.child other first.told new here) has marks

-- a put behind it changes nothing of that
pub put_settled : (first told now : List Event) (killed after : ℕ → Bool) (path bytes : List ℕ) (answered : Bool) → AreSettled first told killed → now ≡ events.Put path bytes answered ∷ told → after ≡ killed → AreSettled first now after
put_settled first told now killed after path bytes answered settled is same =
    let behind : AreSettled first (events.Put path bytes answered ∷ told) killed = settled in
    subst (λ (h : List Event). AreSettled first h after) (sym is) (subst (λ (k : ℕ → Bool). AreSettled first (events.Put path bytes answered ∷ told) k) (sym same) behind)

-- nor does one that missed
pub miss_settled : (first told now : List Event) (killed after : ℕ → Bool) (path bytes : List ℕ) (miss : Miss) → AreSettled first told killed → TellsMiss (events.Put path bytes false) told now miss → after ≡ killed → AreSettled first now after
miss_settled first told now killed after path bytes misses.Failed settled is same = put_settled first told now killed after path bytes false settled is same
miss_settled first told now killed after path bytes misses.Memory settled is same =
    subst (λ (h : List Event). AreSettled first h after) (sym is) (subst (λ (k : ℕ → Bool). AreSettled first told k) (sym same) settled)

-- a put that missed started nothing
missed_put : (path bytes : List ℕ) (old new : List Event) (miss : Miss) → TellsMiss (events.Put path bytes false) old new miss → (other : ℕ) → order_of other new ≡ order_of other old
missed_put path bytes old new misses.Failed told other = ap (order_of other) told
missed_put path bytes old new misses.Memory told other = ap (order_of other) told

-- behind a start whose file couldn't be put
pub start_missed : (w : EntryWords) (order : Order) (entry : Entry) (first now : Moment) (told last : List Event) (path bytes : List ℕ) (miss : Miss) (before killed : ℕ → Bool) → IsBeginning w order entry first now → TellsMiss (events.Put path bytes false) now.told told miss → last ≡ told → KillsChild entry.armed.child told before killed → AreSettled first.told last killed
start_missed w order entry first now told last path bytes miss before killed begins missed still kills =
    subst (λ (h : List Event). AreSettled first.told h killed) (sym still)
    (start_settled w order entry first now told before killed begins (missed_put path bytes now.told told miss missed) kills)

-- a turn that missed started nothing

put_same : (path bytes : List ℕ) (old new : List Event) (other : ℕ) → MissesPut path bytes old new → order_of other new ≡ order_of other old
put_same path bytes old new other (inl none) = ap (order_of other) none
put_same path bytes old new other (inr failed) = ap (order_of other) failed

noted_same : (note : Option (List ℕ)) (exit : ℕ) (old : List Event) (other : ℕ) → order_of other (noted note exit old) ≡ order_of other old
noted_same None exit old other = refl
noted_same (Some note) exit old other = refl

note_same : (note : Option (List ℕ)) (exit : ℕ) (old new : List Event) (other : ℕ) → MissesNote note exit old new → order_of other new ≡ order_of other old
note_same None exit old new other missed = ap (order_of other) missed
note_same (Some note) exit old new other missed = put_same note (exit_text exit) old new other missed

posts_same : (note : Option (List ℕ)) (exit : ℕ) (path : List ℕ) (old new : List Event) (other : ℕ) → MissesPosts note exit path old new → order_of other new ≡ order_of other old
posts_same note exit path old new other (inl missed) = note_same note exit old new other missed
posts_same note exit path old new other (inr missed) = put_same path [] (noted note exit old) new other missed ∙ noted_same note exit old other

found_same : (child : ℕ) (kept : Option ℕ) (exit : ℕ) (old new : List Event) (other : ℕ) → FindsExit child kept exit old new → order_of other new ≡ order_of other old
found_same child (Some kept) exit old new other found = ap (order_of other) found.1
found_same child None exit old new other (inl first) = ap (order_of other) first.1
found_same child None exit old new other (inr again) = ap (order_of other) again.1

pub missed_turn : (old new : Armed) (told now : List Event) → TurnMissed old new told now → (other : ℕ) → order_of other now ≡ order_of other told
missed_turn old new told now missed other = elim missed.missed [
  | inl before ↦ elim before.nothing [
    | inl none ↦ ap (order_of other) none
    | inr failed ↦ ap (order_of other) failed.1
  ]
  | inr behind ↦ posts_same old.note behind.exit (left_file old behind.exit) behind.between now other behind.missed ∙ found_same behind.child old.exit behind.exit told behind.between other behind.found
]

-- and its command is the same
pub missed_child : (old new : Armed) (told now : List Event) → TurnMissed old new told now → new.child ≡ old.child
missed_child old new told now missed = elim missed.missed [
  | inl before ↦ ap (λ (a : Armed). a.child) before.same
  | inr behind ↦ ap (λ (a : Armed). a.child) behind.kept
]

-- a kill behind it
pub missed_settled : (w : EntryWords) (order : Order) (old new : Entry) (first now : Moment) (told last : List Event) (before killed : ℕ → Bool) → IsGoing w order old first now → TurnMissed old.armed new.armed now.told told → last ≡ told → KillsChild new.armed.child told before killed → AreSettled first.told last killed
missed_settled w order old new first now told last before killed going missed still kills =
    subst (λ (h : List Event). AreSettled first.told h killed) (sym still)
    (kill_settled w order old first now told new.armed.child before killed going (missed_child old.armed new.armed now.told told missed) (missed_turn old.armed new.armed now.told told missed) kills)

-- the same of one in which its host failed
pub fault_settled : (w : EntryWords) (order : Order) (old new : Entry) (first now : Moment) (told last : List Event) (faults : ℕ) (before killed : ℕ → Bool) → IsGoing w order old first now → EntryAnswers old new (seen_of now.told told now.faults faults) now.files turns.HostFault → last ≡ told → KillsChild new.armed.child told before killed → AreSettled first.told last killed
fault_settled w order old new first now told last faults before killed going (inl fault) still kills = missed_settled w order old new first now told last before killed going fault.missed still kills
fault_settled w order old new first now told last faults before killed going (inr again) still kills = cc (going.its.not_failed, again.failed)

-- its command ended

exit_told : (child exit : ℕ) (told : List Event) → exit_of child (events.Exited child exit ∷ told) ≡ Some exit
exit_told child exit told = rw (nat_eq_true child child refl) refl

pub ends_settled : (w : EntryWords) (order : Order) (passed : Bool) (first last : Moment) (killed : ℕ → Bool) → Ends w order passed first last → AreSettled first.told last.told killed
ends_settled w order passed first last killed e other new has =
    let here : Has (order_of other (ended w order e.child e.exit first.told)) (λ _. Unit {0}) = subst (λ (h : List Event). Has (order_of other h) (λ _. Unit {0})) e.told has in
    let same : other ≡ e.child = only_its order e.child other first.told new here in
    let exits : exit_of e.child (ended w order e.child e.exit first.told) ≡ Some e.exit = exit_told e.child e.exit (began w order e.child first.told) in
    inl record {
      it = e.exit;
      is = ap (exit_of other) e.told ∙ (ap (λ (c : ℕ). exit_of c (ended w order e.child e.exit first.told)) same ∙ exits);
      has = tt;
    }

pub refused_settled : (w : EntryWords) (first last : Moment) (killed : ℕ → Bool) → last.told ≡ refused w first.told → AreSettled first.told last.told killed
refused_settled w first last killed told other new has =
    absurd (none_started other first.told new (subst (λ (h : List Event). Has (order_of other h) (λ _. Unit {0})) told has))

pub broke_settled : (w : EntryWords) (order : Order) (first last : Moment) (killed : ℕ → Bool) → Ends w order false first last ⊎ IsRefused w first last → AreSettled first.told last.told killed
broke_settled w order first last killed (inl e) = ends_settled w order false first last killed e
broke_settled w order first last killed (inr r) = refused_settled w first last killed r.told

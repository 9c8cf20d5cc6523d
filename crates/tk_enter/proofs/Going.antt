-- What a turn of an entrypoint leaves, and which files it changes.
use Rattle.std.proofs.Common.{◌≡◌, ◌⊎◌, ℕ, List, [], ◌∷◌, Option, Some, None, Bool, true, false, refl, sym, ◌∙◌, ap, subst, inl, inr}
use Rattle.std.proofs.lemmas.Option.{same_Some}
use Rattle.std.specs.Prelude.{IsTrue, ◌↔◌}
use Rattle.tk_pod.specs.Exits.{passes}
use Rattle.tk_types.specs.declared.value.Pair.{Pair}
use Rattle.tk_edge.specs.declared.order.Order.{Order}
use Rattle.tk_edge.specs.declared.order.Watch.{Watch}
use Rattle.tk_edge.specs.declared.order.Watch.TheVariants as watches
use Rattle.tk_edge.specs.declared.event.Event.{Event}
use Rattle.tk_edge.specs.declared.event.Event.TheVariants as events
use Rattle.tk_edge.specs.declared.armed.Armed.{Armed}
use Rattle.tk_edge.specs.Armed.{TurnAnswers, Posts, FindsExit, is_over, exit_text, IsTurnFile, StartedTurn, WaitsTurn, RunsTurn, Ends as EndsNow}
use Rattle.tk_edge.specs.Calls.{TellsExit}
use Rattle.tk_edge.specs.Causes.{raised}
use Rattle.tk_edge.specs.Files.{Files, MayChange, WhereTold, IsOwnFile, broken}
use Rattle.tk_edge.specs.History.{Has, IsNew, exit_of, order_of}
use Rattle.tk_edge.specs.Markers.{Stands, IsPolledFile}
use Rattle.tk_edge.proofs.Logs.{nat_eq_true}
use Rattle.tk_edge.proofs.Turns.{may_widen, may_both}
use Rattle.tk_entry.specs.declared.entry.Turn.{Turn}
use Rattle.tk_entry.specs.declared.entry.Turn.TheVariants as turns
use Rattle.tk_entry.specs.Entry.{Entry, Seen, seen_of, turn_of, EntryAnswers, first_entry, with_note}
use Rattle.tk_enter.specs.declared.words.EntryWords.{EntryWords}
use Rattle.tk_enter.specs.Enter.{Moment, moment, order_in, IsItsFile, began, left, ended, Ends, IsRefused, EndsAs, Finishes, Rises}
use Rattle.tk_enter.specs.declared.entering.Ended.{Ended}
use Rattle.tk_enter.specs.declared.entering.Ended.TheVariants as ways
use Rattle.tk_enter.specs.Going.{IsOf, HasWaited, HasBegun, IsGoing, IsBeginning}

-- a new number has no exit
pub exit_new : (child : ℕ) (h : List Event) → IsNew child h → exit_of child h ≡ None
exit_new child [] new = refl
exit_new child (events.Exited other exit ∷ older) new = rw new.0 (exit_new child older new.1)
exit_new child (_ ∷ older) new = exit_new child older new.1

-- the order of a child that began
pub order_began : (w : EntryWords) (order : Order) (child : ℕ) (told : List Event) → order_of child (began w order child told) ≡ Some order
order_began w order child told = rw (nat_eq_true child child refl) refl

-- a file that the order of a child may change
polled_file : (w : EntryWords) (order : Order) (child : ℕ) (told : List Event) (path : List ℕ) → order.pod ≡ [] → IsPolledFile child (began w order child told) path → IsOwnFile [] path
polled_file w order child told path no_pod at =
    let same : at.1.it ≡ order = same_Some at.1.it order (sym at.1.is ∙ order_began w order child told) in
    subst (λ (pod : List ℕ). IsOwnFile pod path) (ap (λ (o : Order). o.pod) same ∙ no_pod) at.1.has

-- a file that a turn may change is one of its own
pub turn_file : (w : EntryWords) (order : Order) (entry : Entry) (first now : Moment) (path : List ℕ) → IsOf w order entry → HasWaited entry first.told now.told ⊎ HasBegun w order entry first.told now.told → IsTurnFile entry.armed now.told path → IsItsFile w path
turn_file w order entry first now path its how (inl (inl at)) = inr (inr (inl (at ∙ its.posts)))
turn_file w order entry first now path its how (inl (inr at)) = inr (inr (inr (inl (at ∙ ap broken its.posts))))
turn_file w order entry first now path its how (inr (inl at)) = inr (inl (same_Some path w.exit (sym at ∙ its.notes)))
turn_file w order entry first now path its how (inr (inr (inl at))) =
    inr (inr (inr (inr (subst (λ (pod : List ℕ). IsOwnFile pod path) (ap (λ (o : Order). o.pod) its.own_order ∙ its.no_pod) at))))
turn_file w order entry first now path its (inl waited) (inr (inr (inr at))) = cc (waited.no_child, at.is)
turn_file w order entry first now path its (inr begun) (inr (inr (inr at))) =
    let same : at.it ≡ begun.child = same_Some at.it begun.child (sym at.is ∙ begun.its_child) in
    let here : IsPolledFile begun.child now.told path = subst (λ (c : ℕ). IsPolledFile c now.told path) same at.has in
    inr (inr (inr (inr (polled_file w order begun.child first.told path its.no_pod (subst (λ (h : List Event). IsPolledFile begun.child h path) begun.is here)))))

-- so it changes no other
pub turn_changes : (w : EntryWords) (order : Order) (entry : Entry) (first now : Moment) (files : Option Files) → IsGoing w order entry first now → MayChange (IsTurnFile entry.armed now.told) now.files files → MayChange (IsItsFile w) first.files files
turn_changes w order entry first now files g is =
    may_both (IsItsFile w) first.files now.files files g.changed
    (may_widen (IsTurnFile entry.armed now.told) (IsItsFile w) now.files files (λ path. turn_file w order entry first now path g.its g.how) is)

-- it is still of these words behind a turn that told no exit and is not over
still_of : (w : EntryWords) (order : Order) (old new : Entry) (child : Option ℕ) (last : Option Watch) → IsOf w order old → new.armed ≡ record old.armed { child = child; last = last } → new.failed ≡ false → is_over last ≡ false → IsOf w order new
still_of w order old new child last its is not_failed going = record {
  own_order = ap (λ (a : Armed). a.order) is ∙ its.own_order;
  no_pod = its.no_pod;
  waits = ap (λ (a : Armed). a.wait) is ∙ its.waits;
  posts = ap (λ (a : Armed). a.post) is ∙ its.posts;
  keeps = ap (λ (a : Armed). a.keep_going) is ∙ its.keeps;
  notes = ap (λ (a : Armed). a.note) is ∙ its.notes;
  no_exit = ap (λ (a : Armed). a.exit) is ∙ its.no_exit;
  not_over = ap (λ (a : Armed). is_over a.last) is ∙ going;
  not_failed = not_failed;
}

waits_on : (w : EntryWords) (order : Order) (old new : Entry) (first now : Moment) (told : List Event) (files : Option Files) (killed : ℕ → Bool) (faults : ℕ) → IsGoing w order old first now → new.failed ≡ false → faults ≡ now.faults → killed ≡ now.killed → MayChange (IsItsFile w) first.files files → WaitsTurn old.armed new.armed now.told told now.files → IsGoing w order new first (moment told files killed faults)
waits_on w order old new first now told files killed faults g not_failed count same changed t = record {
  its = still_of w order old new old.armed.child (Some watches.Waits) g.its t.armed not_failed refl;
  how = elim g.how [
    | inl waited ↦ inl record { no_child = ap (λ (a : Armed). a.child) t.armed ∙ waited.no_child; nothing = t.nothing ∙ waited.nothing }
    | inr begun ↦ cc (t.looks.no_child, begun.its_child)
  ];
  changed = changed;
  killed = same ∙ g.killed;
  count = count ∙ g.count;
}

runs_on : (w : EntryWords) (order : Order) (old new : Entry) (first now : Moment) (told : List Event) (files : Option Files) (killed : ℕ → Bool) (faults : ℕ) → IsGoing w order old first now → new.failed ≡ false → faults ≡ now.faults → killed ≡ now.killed → MayChange (IsItsFile w) first.files files → RunsTurn old.armed new.armed now.told told → IsGoing w order new first (moment told files killed faults)
runs_on w order old new first now told files killed faults g not_failed count same changed t = record {
  its = still_of w order old new old.armed.child (Some watches.Runs) g.its t.armed not_failed refl;
  how = elim g.how [
    | inl waited ↦ cc (t.its_child, waited.no_child)
    | inr begun ↦ inr record { child = begun.child; its_child = ap (λ (a : Armed). a.child) t.armed ∙ begun.its_child; fresh = begun.fresh; is = t.nothing ∙ begun.is }
  ];
  changed = changed;
  killed = same ∙ g.killed;
  count = count ∙ g.count;
}

begins_on : (w : EntryWords) (order : Order) (old new : Entry) (first now : Moment) (told : List Event) (files : Option Files) (killed : ℕ → Bool) (faults : ℕ) → IsGoing w order old first now → new.failed ≡ false → faults ≡ now.faults → killed ≡ now.killed → MayChange (IsItsFile w) first.files files → StartedTurn old.armed new.armed now.told told now.files → IsBeginning w order new first (moment told files killed faults)
begins_on w order old new first now told files killed faults g not_failed count same changed t = elim g.how [
  | inl waited ↦ record {
    its = still_of w order old new (Some t.child) (Some watches.Started) g.its t.armed not_failed refl;
    child = t.child;
    its_child = ap (λ (a : Armed). a.child) t.armed;
    fresh = subst (IsNew t.child) waited.nothing t.fresh;
    told = t.started ∙ (ap (λ (o : Order). events.Started t.child o ∷ now.told) g.its.own_order ∙ ap (λ (h : List Event). events.Started t.child order ∷ h) waited.nothing);
    changed = changed;
    killed = same ∙ g.killed;
    count = count ∙ g.count;
  }
  | inr begun ↦ cc (t.looks.no_child, begun.its_child)
]

-- a turn that answers that it waits, that its command runs, or that it was started

waits_by : (w : EntryWords) (order : Order) (old new : Entry) (first now : Moment) (told : List Event) (files : Option Files) (killed : ℕ → Bool) (faults : ℕ) (watch : Watch) → IsGoing w order old first now → new.failed ≡ false → faults ≡ now.faults → killed ≡ now.killed → MayChange (IsItsFile w) first.files files → turns.Waits ≡ turn_of watch → TurnAnswers old.armed new.armed now.told told now.files watch → IsGoing w order new first (moment told files killed faults)
waits_by w order old new first now told files killed faults watches.Waits g f c s m is t = waits_on w order old new first now told files killed faults g f c s m t
waits_by w order old new first now told files killed faults watches.Started g f c s m is t = cc
waits_by w order old new first now told files killed faults watches.Runs g f c s m is t = cc
waits_by w order old new first now told files killed faults (watches.Passed exit) g f c s m is t = cc
waits_by w order old new first now told files killed faults (watches.Broke exit) g f c s m is t = cc

pub waits : (w : EntryWords) (order : Order) (old new : Entry) (first now : Moment) (told : List Event) (files : Option Files) (killed : ℕ → Bool) (faults : ℕ) → IsGoing w order old first now → killed ≡ now.killed → MayChange (IsTurnFile old.armed now.told) now.files files → EntryAnswers old new (seen_of now.told told now.faults faults) now.files turns.Waits → IsGoing w order new first (moment told files killed faults)
waits w order old new first now told files killed faults g s m a = waits_by w order old new first now told files killed faults a.watch g a.still a.count s (turn_changes w order old first now files g m) a.is a.answers

runs_by : (w : EntryWords) (order : Order) (old new : Entry) (first now : Moment) (told : List Event) (files : Option Files) (killed : ℕ → Bool) (faults : ℕ) (watch : Watch) → IsGoing w order old first now → new.failed ≡ false → faults ≡ now.faults → killed ≡ now.killed → MayChange (IsItsFile w) first.files files → turns.Runs ≡ turn_of watch → TurnAnswers old.armed new.armed now.told told now.files watch → IsGoing w order new first (moment told files killed faults)
runs_by w order old new first now told files killed faults watches.Runs g f c s m is t = runs_on w order old new first now told files killed faults g f c s m t
runs_by w order old new first now told files killed faults watches.Started g f c s m is t = cc
runs_by w order old new first now told files killed faults watches.Waits g f c s m is t = cc
runs_by w order old new first now told files killed faults (watches.Passed exit) g f c s m is t = cc
runs_by w order old new first now told files killed faults (watches.Broke exit) g f c s m is t = cc

pub runs : (w : EntryWords) (order : Order) (old new : Entry) (first now : Moment) (told : List Event) (files : Option Files) (killed : ℕ → Bool) (faults : ℕ) → IsGoing w order old first now → killed ≡ now.killed → MayChange (IsTurnFile old.armed now.told) now.files files → EntryAnswers old new (seen_of now.told told now.faults faults) now.files turns.Runs → IsGoing w order new first (moment told files killed faults)
runs w order old new first now told files killed faults g s m a = runs_by w order old new first now told files killed faults a.watch g a.still a.count s (turn_changes w order old first now files g m) a.is a.answers

begins_by : (w : EntryWords) (order : Order) (old new : Entry) (first now : Moment) (told : List Event) (files : Option Files) (killed : ℕ → Bool) (faults : ℕ) (watch : Watch) → IsGoing w order old first now → new.failed ≡ false → faults ≡ now.faults → killed ≡ now.killed → MayChange (IsItsFile w) first.files files → turns.Started ≡ turn_of watch → TurnAnswers old.armed new.armed now.told told now.files watch → IsBeginning w order new first (moment told files killed faults)
begins_by w order old new first now told files killed faults watches.Started g f c s m is t = begins_on w order old new first now told files killed faults g f c s m t
begins_by w order old new first now told files killed faults watches.Runs g f c s m is t = cc
begins_by w order old new first now told files killed faults watches.Waits g f c s m is t = cc
begins_by w order old new first now told files killed faults (watches.Passed exit) g f c s m is t = cc
begins_by w order old new first now told files killed faults (watches.Broke exit) g f c s m is t = cc

pub begins : (w : EntryWords) (order : Order) (old new : Entry) (first now : Moment) (told : List Event) (files : Option Files) (killed : ℕ → Bool) (faults : ℕ) → IsGoing w order old first now → killed ≡ now.killed → MayChange (IsTurnFile old.armed now.told) now.files files → EntryAnswers old new (seen_of now.told told now.faults faults) now.files turns.Started → IsBeginning w order new first (moment told files killed faults)
begins w order old new first now told files killed faults g s m a = begins_by w order old new first now told files killed faults a.watch g a.still a.count s (turn_changes w order old first now files g m) a.is a.answers

-- its command ended

-- the exit is told in this turn
exit_told : (w : EntryWords) (order : Order) (child exit : ℕ) (told between : List Event) → IsNew child told → TellsExit child exit (began w order child told) between → between ≡ events.Exited child exit ∷ began w order child told
exit_told w order child exit told between new (inl first) = first.1
exit_told w order child exit told between new (inr again) =
    let none : exit_of child (began w order child told) ≡ None = exit_new child told new in
    cc (none, again.0)

ends_now : (w : EntryWords) (order : Order) (old new : Entry) (first now : Moment) (told : List Event) (exit : ℕ) (path : List ℕ) (watch : Watch) → IsGoing w order old first now → path ≡ left w (passes w.keep_going exit) → EndsNow exit path watch old.armed new.armed now.told told → (child : ℕ) × IsNew child first.told × (told ≡ ended w order child exit first.told)
ends_now w order old new first now told exit path watch g is e = elim g.how [
  | inl waited ↦ cc (e.its_child, waited.no_child)
  | inr begun ↦
      let same : e.child ≡ begun.child = same_Some e.child begun.child (sym e.its_child ∙ begun.its_child) in
      let found : TellsExit e.child exit now.told e.between = subst (λ (kept : Option ℕ). FindsExit e.child kept exit now.told e.between) g.its.no_exit e.found in
      let here : TellsExit begun.child exit (began w order begun.child first.told) e.between =
      subst (λ (h : List Event). TellsExit begun.child exit h e.between) begun.is (subst (λ (c : ℕ). TellsExit c exit now.told e.between) same found) in
      let between : e.between ≡ events.Exited begun.child exit ∷ began w order begun.child first.told = exit_told w order begun.child exit first.told e.between begun.fresh here in
      let posted : told ≡ events.Put path [] true ∷ events.Put w.exit (exit_text exit) true ∷ e.between =
      subst (λ (note : Option (List ℕ)). Posts note exit path e.between told) g.its.notes e.posted in
      (begun.child, begun.fresh, posted ∙ (ap (λ (p : List ℕ). events.Put p [] true ∷ events.Put w.exit (exit_text exit) true ∷ e.between) is ∙ ap (λ (h : List Event). events.Put (left w (passes w.keep_going exit)) [] true ∷ events.Put w.exit (exit_text exit) true ∷ h) between))
]

passes_by : (w : EntryWords) (order : Order) (old new : Entry) (first now : Moment) (told : List Event) (files : Option Files) (killed : ℕ → Bool) (faults : ℕ) (watch : Watch) → IsGoing w order old first now → turns.Passed ≡ turn_of watch → TurnAnswers old.armed new.armed now.told told now.files watch → Ends w order true first (moment told files killed faults)
passes_by w order old new first now told files killed faults (watches.Passed exit) g is (inl again) =
    let over : is_over old.armed.last ≡ true = ap is_over again.answered in
    cc (over, g.its.not_over)
passes_by w order old new first now told files killed faults (watches.Passed exit) g is (inr t) =
    let good : passes w.keep_going exit ≡ true = subst (λ (k : Bool). passes k exit ≡ true) g.its.keeps t.0 in
    let e = ends_now w order old new first now told exit old.armed.post (watches.Passed exit) g (g.its.posts ∙ ap (left w) (sym good)) t.1 in
    record { child = e.0; fresh = e.1; exit = exit; is = good; told = e.2 }
passes_by w order old new first now told files killed faults watches.Started g is t = cc
passes_by w order old new first now told files killed faults watches.Runs g is t = cc
passes_by w order old new first now told files killed faults watches.Waits g is t = cc
passes_by w order old new first now told files killed faults (watches.Broke exit) g is t = cc

pub passed : (w : EntryWords) (order : Order) (old new : Entry) (first now : Moment) (told : List Event) (files : Option Files) (killed : ℕ → Bool) (faults : ℕ) → IsGoing w order old first now → EntryAnswers old new (seen_of now.told told now.faults faults) now.files turns.Passed → Ends w order true first (moment told files killed faults) × (faults ≡ first.faults)
passed w order old new first now told files killed faults g a = (passes_by w order old new first now told files killed faults a.watch g a.is a.answers, a.count ∙ g.count)

breaks_by : (w : EntryWords) (order : Order) (old new : Entry) (first now : Moment) (told : List Event) (files : Option Files) (killed : ℕ → Bool) (faults : ℕ) (watch : Watch) → IsGoing w order old first now → turns.Broke ≡ turn_of watch → TurnAnswers old.armed new.armed now.told told now.files watch → Ends w order false first (moment told files killed faults) ⊎ IsRefused w first (moment told files killed faults)
breaks_by w order old new first now told files killed faults (watches.Broke (Some exit)) g is (inl again) =
    let over : is_over old.armed.last ≡ true = ap is_over again.answered in
    cc (over, g.its.not_over)
breaks_by w order old new first now told files killed faults (watches.Broke (Some exit)) g is (inr t) =
    let bad : passes w.keep_going exit ≡ false = subst (λ (k : Bool). passes k exit ≡ false) g.its.keeps t.0 in
    let e = ends_now w order old new first now told exit (broken old.armed.post) (watches.Broke (Some exit)) g (ap broken g.its.posts ∙ ap (left w) (sym bad)) t.1 in
    inl record { child = e.0; fresh = e.1; exit = exit; is = bad; told = e.2 }
breaks_by w order old new first now told files killed faults (watches.Broke None) g is (inl again) =
    let over : is_over old.armed.last ≡ true = ap is_over again.answered in
    cc (over, g.its.not_over)
breaks_by w order old new first now told files killed faults (watches.Broke None) g is (inr t) = elim g.how [
  | inl waited ↦ inr record {
    told = t.posted ∙ (ap (λ (p : List ℕ). events.Put (broken p) [] true ∷ now.told) g.its.posts ∙ ap (λ (h : List Event). events.Put (broken w.post) [] true ∷ h) waited.nothing);
    because = record { files = now.files; meanwhile = g.changed; stood = subst (λ (p : List ℕ). WhereTold now.files (Stands (broken p))) g.its.waits t.error };
  }
  | inr begun ↦ cc (t.looks.no_child, begun.its_child)
]
breaks_by w order old new first now told files killed faults watches.Started g is t = cc
breaks_by w order old new first now told files killed faults watches.Runs g is t = cc
breaks_by w order old new first now told files killed faults watches.Waits g is t = cc
breaks_by w order old new first now told files killed faults (watches.Passed exit) g is t = cc

pub broke : (w : EntryWords) (order : Order) (old new : Entry) (first now : Moment) (told : List Event) (files : Option Files) (killed : ℕ → Bool) (faults : ℕ) → IsGoing w order old first now → EntryAnswers old new (seen_of now.told told now.faults faults) now.files turns.Broke → (Ends w order false first (moment told files killed faults) ⊎ IsRefused w first (moment told files killed faults)) × (faults ≡ first.faults)
broke w order old new first now told files killed faults g a = (breaks_by w order old new first now told files killed faults a.watch g a.is a.answers, a.count ∙ g.count)

-- a call on the host failed
pub faulted : (w : EntryWords) (order : Order) (old new : Entry) (first now : Moment) (told : List Event) (faults : ℕ) → IsGoing w order old first now → EntryAnswers old new (seen_of now.told told now.faults faults) now.files turns.HostFault → faults ≡ raised first.faults
faulted w order old new first now told faults g (inl fault) = fault.count ∙ ap raised g.count
faulted w order old new first now told faults g (inr again) = cc (g.its.not_failed, again.failed)

-- the program ends behind a kill of its command

pub fault_left : (w : EntryWords) (order : Order) (gone : Bool) (first last : Moment) (end : Ended) (files : Option Files) (faults : ℕ) → end ≡ ways.Fault → (last.faults ≡ faults) ⊎ (last.faults ≡ raised faults) → faults ≡ raised first.faults → last.files ≡ files → MayChange (IsItsFile w) first.files files → Finishes w order gone first last end
fault_left w order gone first last end files faults same count risen still changed = record {
  how = subst (λ (e : Ended). EndsAs w order gone first last e) (sym same) (rises count);
  changed = subst (λ (f : Option Files). MayChange (IsItsFile w) first.files f) (sym still) changed;
}
  where
    rises : (last.faults ≡ faults) ⊎ (last.faults ≡ raised faults) → Rises first.faults last.faults
    rises (inl is) = inl (is ∙ risen)
    rises (inr is) = inr (is ∙ ap raised risen)

pub memory_left : (w : EntryWords) (order : Order) (gone : Bool) (first last : Moment) (end : Ended) (files : Option Files) → end ≡ ways.Memory → last.files ≡ files → MayChange (IsItsFile w) first.files files → Finishes w order gone first last end
memory_left w order gone first last end files same still changed = record {
  how = subst (λ (e : Ended). EndsAs w order gone first last e) (sym same) tt;
  changed = subst (λ (f : Option Files). MayChange (IsItsFile w) first.files f) (sym still) changed;
}

-- the answer that was given
pub given : (old new : Entry) (seen : Seen) (files : Option Files) (turn wanted : Turn) → turn ≡ wanted → EntryAnswers old new seen files turn → EntryAnswers old new seen files wanted
given old new seen files turn wanted is answers = subst (λ (t : Turn). EntryAnswers old new seen files t) is answers

-- a look changes nothing
pub looked : (w : EntryWords) (order : Order) (entry : Entry) (first : Moment) (told now : List Event) (files then : Option Files) (killed after : ℕ → Bool) (faults count : ℕ) → now ≡ told → then ≡ files → after ≡ killed → count ≡ faults → IsGoing w order entry first (moment told files killed faults) → IsGoing w order entry first (moment now then after count)
looked w order entry first told now files then killed after faults count same still alike none g = record {
  its = g.its;
  how = subst (λ (h : List Event). HasWaited entry first.told h ⊎ HasBegun w order entry first.told h) (sym same) g.how;
  changed = subst (λ (f : Option Files). MayChange (IsItsFile w) first.files f) (sym still) g.changed;
  killed = alike ∙ g.killed;
  count = none ∙ g.count;
}

-- a file that was found stands
pub found : (files then : Option Files) (asked path : List ℕ) (stands : Bool) → then ≡ files → asked ≡ path → stands ≡ true → WhereTold files (λ f. IsTrue stands ↔ Has (f asked) (λ _. Unit {0})) → WhereTold then (Stands path)
found files then asked path stands same whole is told =
    subst (λ (f : Option Files). WhereTold f (Stands path)) (sym same) (subst (λ (p : List ℕ). WhereTold files (Stands p)) whole
    (by_files files (subst (λ (b : Bool). WhereTold files (λ f. IsTrue b ↔ Has (f asked) (λ _. Unit {0}))) is told)))
  where
    by_files : (files : Option Files) → WhereTold files (λ f. IsTrue true ↔ Has (f asked) (λ _. Unit {0})) → WhereTold files (Stands asked)
    by_files None told = tt
    by_files (Some f) told = told.0 refl

may_same : (may : List ℕ → Type 0) (files : Option Files) → MayChange may files files
may_same may None = refl
may_same may (Some files) = (files, refl, λ path differ. refl)

-- one that hasn't had a turn waits
pub fresh : (w : EntryWords) (env : List Pair) (entry : Entry) (first : Moment) → entry ≡ with_note w.exit (first_entry (order_in w env) w.wait w.post w.keep_going) → IsGoing w entry.armed.order entry first first
fresh w env entry first is = record {
  its = record {
    own_order = refl;
    no_pod = ap (λ (e : Entry). e.armed.order.pod) is;
    waits = ap (λ (e : Entry). e.armed.wait) is;
    posts = ap (λ (e : Entry). e.armed.post) is;
    keeps = ap (λ (e : Entry). e.armed.keep_going) is;
    notes = ap (λ (e : Entry). e.armed.note) is;
    no_exit = ap (λ (e : Entry). e.armed.exit) is;
    not_over = ap (λ (e : Entry). is_over e.armed.last) is;
    not_failed = ap (λ (e : Entry). e.failed) is;
  };
  how = inl record { no_child = ap (λ (e : Entry). e.armed.child) is; nothing = refl };
  changed = may_same (IsItsFile w) first.files;
  killed = refl;
  count = refl;
}

pub own_order : (w : EntryWords) (env : List Pair) (entry : Entry) → entry ≡ with_note w.exit (first_entry (order_in w env) w.wait w.post w.keep_going) → entry.armed.order ≡ order_in w env
own_order w env entry is = ap (λ (e : Entry). e.armed.order) is

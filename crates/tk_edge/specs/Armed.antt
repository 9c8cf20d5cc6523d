-- One turn of an armed entrypoint over a host's calls of look, put, start and poll.
use Rattle.std.specs.Prelude.{◌≡◌, ◌⊎◌, ℕ, Bool, true, false, if◌then◌else◌, List, [], ◌∷◌, ◌++◌, Option, Some, None, Result, MatchResult}
use Rattle.std.specs.Fmt.{decimal}
use Rattle.tk_pod.specs.Exits.{passes}
use Rattle.tk_edge.specs.declared.miss.Miss.{Miss}
use Rattle.tk_edge.specs.declared.order.Poll.{Poll}
use Rattle.tk_edge.specs.declared.order.Poll.TheVariants as polls
use Rattle.tk_edge.specs.declared.order.Watch.{Watch}
use Rattle.tk_edge.specs.declared.order.Watch.TheVariants as watches
use Rattle.tk_edge.specs.declared.event.Event.{Event}
use Rattle.tk_edge.specs.declared.event.Event.TheVariants as events
use Rattle.tk_edge.specs.declared.armed.Armed.{Armed}
use Rattle.tk_edge.specs.Files.{Files, WhereTold, IsOwnFile, broken}
use Rattle.tk_edge.specs.Markers.{Stands, IsPolledFile}
use Rattle.tk_edge.specs.History.{Has, IsNew, exit_of, started_orders}
use Rattle.tk_edge.specs.Calls.{TellsExit}

-- the file that tells an exit
abbrev pub exit_text : ℕ → List ℕ
exit_text exit = decimal exit ++ 10 ∷ []

-- it answered Passed or Broke, and answers so for good
abbrev pub is_over : Option Watch → Bool
is_over (Some (watches.Passed exit)) = true
is_over (Some (watches.Broke exit)) = true
is_over _ = false

-- the entrypoint still looks for its wait file
pub record Looks (armed : Armed) : Type 0 where
  pub no_child : armed.child ≡ None
  pub not_over : is_over armed.last ≡ false

-- the child's exit, as it was kept or as a poll gives it now
abbrev pub FindsExit : ℕ → Option ℕ → ℕ → List Event → List Event → Type 0
FindsExit child (Some kept) exit old new = (exit ≡ kept) × (new ≡ old)
FindsExit child None exit old new = TellsExit child exit old new

-- the same of a turn, which may find that the child runs
abbrev pub FindsPoll : ℕ → Option ℕ → List Event → List Event → Poll → Type 0
FindsPoll child kept old new polls.Runs = (kept ≡ None) × (exit_of child old ≡ None) × (new ≡ old)
FindsPoll child kept old new (polls.Exited exit) = FindsExit child kept exit old new

-- the file of a step that passes, or of one that doesn't
abbrev pub post_for : Bool → Armed → List ℕ
post_for passed armed = if passed then armed.post else broken armed.post

-- the file that is left behind an exit
abbrev pub left_file : Armed → ℕ → List ℕ
left_file armed exit = post_for (passes armed.keep_going exit) armed

-- the history behind a put of the exit at the note's path, where there is one
abbrev pub noted : Option (List ℕ) → ℕ → List Event → List Event
noted None exit old = old
noted (Some note) exit old = events.Put note (exit_text exit) true ∷ old

-- the exit is put at the note's path, where there is one, and then the file is put
abbrev pub Posts : Option (List ℕ) → ℕ → List ℕ → List Event → List Event → Type 0
Posts note exit path old new = new ≡ events.Put path [] true ∷ noted note exit old

-- a put that missed is told as failed, or not at all
abbrev pub MissesPut : List ℕ → List ℕ → List Event → List Event → Type 0
MissesPut path bytes old new = (new ≡ old) ⊎ (new ≡ events.Put path bytes false ∷ old)

abbrev pub MissesNote : Option (List ℕ) → ℕ → List Event → List Event → Type 0
MissesNote None exit old new = new ≡ old
MissesNote (Some note) exit old new = MissesPut note (exit_text exit) old new

-- one of the puts behind an exit missed, and no other came behind it
abbrev pub MissesPosts : Option (List ℕ) → ℕ → List ℕ → List Event → List Event → Type 0
MissesPosts note exit path old new = MissesNote note exit old new ⊎ MissesPut path [] (noted note exit old) new

-- a file that is put behind an exit
abbrev pub IsPostFile : Armed → List ℕ → Type 0
IsPostFile armed path = (path ≡ armed.post) ⊎ (path ≡ broken armed.post)

-- a file that a turn may change: its post file, without `.err` and with it, its note, and its order's own
abbrev pub IsTurnFile : Armed → List Event → List ℕ → Type 0
IsTurnFile armed told path =
    IsPostFile armed path ⊎ (armed.note ≡ Some path) ⊎ IsOwnFile armed.order.pod path ⊎ Has armed.child (λ child. IsPolledFile child told path)

-- a turn that finds the exit, posts it and answers
pub record Ends (exit : ℕ) (path : List ℕ) (watch : Watch) (old new : Armed) (told now : List Event) : Type 0 where
  pub not_over : is_over old.last ≡ false
  pub child : ℕ
  pub its_child : old.child ≡ Some child
  pub between : List Event
  pub found : FindsExit child old.exit exit told between
  pub posted : Posts old.note exit path between now
  pub armed : new ≡ record old { exit = Some exit; last = Some watch }

-- a later turn repeats the answer
pub record Repeats (watch : Watch) (old new : Armed) (told now : List Event) : Type 0 where
  pub answered : old.last ≡ Some watch
  pub armed : new ≡ old
  pub nothing : now ≡ told

pub record WaitsTurn (old new : Armed) (told now : List Event) (files : Option Files) : Type 0 where
  pub looks : Looks old
  pub armed : new ≡ record old { last = Some watches.Waits }
  pub nothing : now ≡ told
  pub no_error : WhereTold files (λ f. Stands (broken old.wait) f → ⊥)
  pub no_file : WhereTold files (λ f. Stands old.wait f → ⊥)

pub record StartedTurn (old new : Armed) (told now : List Event) (files : Option Files) : Type 0 where
  pub looks : Looks old
  pub child : ℕ
  pub armed : new ≡ record old { child = Some child; last = Some watches.Started }
  pub fresh : IsNew child told
  pub started : now ≡ events.Started child old.order ∷ told
  pub no_error : WhereTold files (λ f. Stands (broken old.wait) f → ⊥)
  pub file : WhereTold files (Stands old.wait)

pub record RunsTurn (old new : Armed) (told now : List Event) : Type 0 where
  pub not_over : is_over old.last ≡ false
  pub child : ℕ
  pub its_child : old.child ≡ Some child
  pub no_exit : old.exit ≡ None
  pub runs : exit_of child told ≡ None
  pub armed : new ≡ record old { last = Some watches.Runs }
  pub nothing : now ≡ told

pub record RefusedTurn (old new : Armed) (told now : List Event) (files : Option Files) : Type 0 where
  pub looks : Looks old
  pub armed : new ≡ record old { last = Some (watches.Broke None) }
  pub posted : now ≡ events.Put (broken old.post) [] true ∷ told
  pub error : WhereTold files (Stands (broken old.wait))

abbrev pub PassesNow : ℕ → Armed → Armed → List Event → List Event → Type 0
PassesNow exit old new told now = (passes old.keep_going exit ≡ true) × Ends exit old.post (watches.Passed exit) old new told now

abbrev pub BreaksNow : ℕ → Armed → Armed → List Event → List Event → Type 0
BreaksNow exit old new told now =
    (passes old.keep_going exit ≡ false) × Ends exit (broken old.post) (watches.Broke (Some exit)) old new told now

-- what each answer says
abbrev pub TurnAnswers : Armed → Armed → List Event → List Event → Option Files → Watch → Type 0
TurnAnswers old new told now files watches.Waits = WaitsTurn old new told now files
TurnAnswers old new told now files watches.Started = StartedTurn old new told now files
TurnAnswers old new told now files watches.Runs = RunsTurn old new told now
TurnAnswers old new told now files (watches.Passed exit) = Repeats (watches.Passed exit) old new told now ⊎ PassesNow exit old new told now
TurnAnswers old new told now files (watches.Broke (Some exit)) = Repeats (watches.Broke (Some exit)) old new told now ⊎ BreaksNow exit old new told now
TurnAnswers old new told now files (watches.Broke None) = Repeats (watches.Broke None) old new told now ⊎ RefusedTurn old new told now files

-- a turn without an answer that found no exit now: all is as before, and at most the put of one that is refused is told as failed
pub record MissedBefore (old new : Armed) (told now : List Event) : Type 0 where
  pub same : new ≡ old
  pub nothing : (now ≡ told) ⊎ (Looks old × (now ≡ events.Put (broken old.post) [] false ∷ told))

-- one that found the exit, which is kept, and whose puts behind it missed
pub record MissedBehind (old new : Armed) (told now : List Event) : Type 0 where
  pub child : ℕ
  pub its_child : old.child ≡ Some child
  pub exit : ℕ
  pub between : List Event
  pub found : FindsExit child old.exit exit told between
  pub missed : MissesPosts old.note exit (left_file old exit) between now
  pub kept : new ≡ record old { exit = Some exit }

-- a turn without an answer: nothing was started, and all but the exit that was found is as before
pub record TurnMissed (old new : Armed) (told now : List Event) : Type 0 where
  pub not_over : is_over old.last ≡ false
  pub none_started : started_orders now ≡ started_orders told
  pub missed : MissedBefore old new told now ⊎ MissedBehind old new told now

abbrev pub TurnGives : Armed → Armed → List Event → List Event → Option Files → Result Watch Miss → Type 0
TurnGives old new told now files result = MatchResult result (TurnAnswers old new told now files) (λ _. TurnMissed old new told now)

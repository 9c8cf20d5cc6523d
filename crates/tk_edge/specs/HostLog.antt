-- What a host's record says of its history, and how its index of the children agrees with it.
use Rattle.std.specs.Prelude.{◌≡◌, ◌≤◌, ◌<◌, ℕ, Bool, true, false, List, Option, None, slice_index_or, length}
use Rattle.std.specs.Option.{is_some, option_map}
use Rattle.tk_edge.specs.declared.event.Arming.{Arming}
use Rattle.tk_edge.specs.declared.event.Event.{Event}
use Rattle.tk_edge.specs.declared.host_log.ChildLog.{ChildLog}
use Rattle.tk_edge.specs.Files.{broken}
use Rattle.tk_edge.specs.History.{arming_of, order_of, exit_of, is_refused}
use Rattle.tk_edge.specs.Memory.{is_named}

-- A record as contracts see it: the history, the newest first, whether each child was killed, how often each was
-- watched, how many children there are, and for how many more events and children there is room.
pub record Logged : Type 0 where
  pub told : List Event
  pub killed : List Bool
  pub watches : List ℕ
  pub count : ℕ
  pub room : ℕ
  pub child_room : ℕ

-- the wait file with `.err` of one that was armed so
abbrev pub failed_wait : Option Arming → Option (List ℕ)
failed_wait arming = option_map (λ (a : Arming). broken a.wait) arming

-- how often each child was watched
abbrev pub counts : List ℕ → ℕ → ℕ
counts watches child = slice_index_or watches child 0

-- whether each number was killed: one that wasn't given wasn't
abbrev pub flags : List Bool → ℕ → Bool
flags killed child = slice_index_or killed child false

-- a child of which nothing is told
abbrev pub blank : ChildLog
blank = record { armed = None; failed = None; started = false; exit = None; refused = false }

-- the child's entry in the index
abbrev pub entry : List ChildLog → ℕ → ChildLog
entry children child = slice_index_or children child blank

-- the index says of each child what the history says, and events name those numbers that were given
pub record IsIndexed (told : List Event) (children : List ChildLog) : Type 0 where
  pub armings : (child : ℕ) → arming_of child told ≡ (entry children child).armed
  pub failures : (child : ℕ) → failed_wait (arming_of child told) ≡ (entry children child).failed
  pub starts : (child : ℕ) → is_some (order_of child told) ≡ (entry children child).started
  pub exits : (child : ℕ) → exit_of child told ≡ (entry children child).exit
  pub refusals : (child : ℕ) → is_refused child told ≡ (entry children child).refused
  pub names : (child : ℕ) → length children ≤ child → is_named child told ≡ false
  pub known : (child : ℕ) → child < length children → is_named child told ≡ true

-- the record's lists fit together: each child has one place in each
pub record IsWhole (told : List Event) (children : List ChildLog) (killed : List Bool) (watches : List ℕ) : Type 0 where
  pub index : IsIndexed told children
  pub marked : length killed ≡ length children
  pub watched : length watches ≡ length children

-- What a store answers to an entry that makes an object, and to one that changes an object.
use Rattle.std.specs.Prelude.{◌≡◌, ◌≤◌, ◌<◌, ℕ, suc, List, [], ◌∷◌, length, false, ◌&&◌, bytes_eq, if◌then◌else◌}
use Rattle.tk_types.specs.declared.scenario.Kind.{Kind}
use Rattle.tk_journal.specs.declared.entry.Entry.{Entry}
use Rattle.tk_journal.specs.Effects.{name_of, kind_of}
use Rattle.tk_journal.specs.Fronts.{AreWithin}
use Rattle.tk_journal.specs.History.{past, version_of, front_of, view_at, creates}
use Rattle.tk_journal.specs.Rows.{IsJustified}
use Rattle.tk_journal.specs.Legal.{IsFree, is_admit, Fits}
use Rattle.tk_store.specs.declared.answers.Create.{Create}
use Rattle.tk_store.specs.declared.answers.Create.TheVariants as creates_
use Rattle.tk_store.specs.declared.answers.Update.{Update}
use Rattle.tk_store.specs.declared.answers.Update.TheVariants as updates

-- what a contract sees of a store: its journal's entries, the newest first, and how many entries more take no memory
pub record Stored : Type 0 where
  pub history : List Entry
  pub spare : ℕ

-- an entry of a user, a worker or a kubelet that its fronts justify; those of an Ask are the end
pub record MayBeTried (history : List Entry) (e : Entry) : Type 0 where
  pub no_admission : is_admit e.act ≡ false
  pub fits : Fits history e e.act
  pub within : AreWithin e.fronts history
  pub justified : IsJustified (view_at e.fronts history) e.actor e.moment e.act

-- the position of the entry that made the object, or 0
abbrev pub made_at : Kind → List ℕ → List Entry → ℕ
made_at kind name [] = 0
made_at kind name (e ∷ older) = if creates kind e.act && bytes_eq (name_of e.act) name then suc (length older) else made_at kind name older

-- where the entry's object was made
abbrev pub holder_of : List Entry → Entry → ℕ
holder_of history e = made_at (kind_of e.act) (name_of e.act) history

-- the version of the entry's object, now and at its front
abbrev pub version_now : List Entry → Entry → ℕ
version_now history e = version_of (kind_of e.act) (name_of e.act) history

abbrev pub version_seen : List Entry → Entry → ℕ
version_seen history e = version_of (kind_of e.act) (name_of e.act) (past (front_of (kind_of e.act) e.fronts) history)

-- no object has the entry's kind and name
abbrev pub IsNew : List Entry → Entry → Type 0
IsNew history e = IsFree (kind_of e.act) (name_of e.act) history

-- the entry is the newest one, at this position, and took at most one of the places that were spare
pub record IsAdded (before : Stored) (e : Entry) (version : ℕ) (after : Stored) : Type 0 where
  pub added : after.history ≡ e ∷ before.history
  pub at : version ≡ suc (length before.history)
  pub room : before.spare ≤ suc after.spare

-- the name is taken, by the object that this entry made and that has this version now
pub record IsTaken (before : Stored) (e : Entry) (holder version : ℕ) : Type 0 where
  pub there : 0 < holder
  pub made : holder ≡ holder_of before.history e
  pub written : version ≡ version_now before.history e

-- the object was written after it was seen, last by this entry
pub record HasMoved (before : Stored) (e : Entry) (found : ℕ) : Type 0 where
  pub now : found ≡ version_now before.history e
  pub newer : version_seen before.history e < found

-- Ok and Memory come where the name is free, Exists where it is taken
abbrev pub IsCreated : Stored → Entry → Create → Stored → Type 0
IsCreated before e (creates_.Ok version) after = IsNew before.history e × IsAdded before e version after
IsCreated before e (creates_.Exists holder version) after = IsTaken before e holder version × (after ≡ before)
IsCreated before e creates_.Memory after = IsNew before.history e × (before.spare ≡ 0) × (after ≡ before)

-- Ok and Memory come where the object is as it was seen, Conflict where it was written since
abbrev pub IsUpdated : Stored → Entry → Update → Stored → Type 0
IsUpdated before e (updates.Ok version) after = (version_seen before.history e ≡ version_now before.history e) × IsAdded before e version after
IsUpdated before e (updates.Conflict found) after = HasMoved before e found × (after ≡ before)
IsUpdated before e updates.Memory after = (version_seen before.history e ≡ version_now before.history e) × (before.spare ≡ 0) × (after ≡ before)

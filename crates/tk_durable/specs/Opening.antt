-- What it is to open a journal.
use Rattle.std.specs.Prelude.{◌≡◌, ℕ, List, reverse, ⊤}
use Rattle.tk_disk.specs.Disk.{LeavesOnly}
use Rattle.tk_durable.specs.declared.opening.Opened.{Opened}
use Rattle.tk_durable.specs.declared.opening.Opened.TheVariants.{Ok as IsOpen, Damaged, DiskFault, Memory}
use Rattle.tk_durable.specs.Damage.{IsDamaged}
use Rattle.tk_durable.specs.History.{HoldsFile}
use Rattle.tk_durable.specs.Journal.{IsJournal}

-- the disk that is handed back
abbrev pub disk_of : {D : Type 0} → Opened D → D
disk_of (IsOpen durable entries) = durable.disk
disk_of (Damaged disk offset) = disk
disk_of (DiskFault disk) = disk
disk_of (Memory disk) = disk

-- nothing was written: the content stays, and each image since is one from before
pub record OnlyRead {D : Type 0} (content : D → List ℕ) (images : D → List ℕ → Type 0) (moment : D → ℕ) (images_since : D → ℕ → List ℕ → Type 0) (old new : D) : Type 0 where
  pub same : content new ≡ content old
  pub leaves : LeavesOnly moment images_since old new (images old)

-- the entries are the journal of the content, which is durable; or the content has none, with the gate at fault
abbrev pub OpensAs : {D : Type 0} → (D → List ℕ) → (D → List ℕ → Type 0) → Opened D → Type 0
OpensAs content images (IsOpen durable entries) =
    IsJournal entries (content durable.disk) × HoldsFile (reverse entries) (content durable.disk) (images durable.disk)
OpensAs content images (Damaged disk offset) = IsDamaged offset (content disk)
OpensAs content images (DiskFault disk) = ⊤
OpensAs content images (Memory disk) = ⊤

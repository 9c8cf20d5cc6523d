-- What it is to begin a journal.
use Rattle.std.specs.Prelude.{ℕ, List, [], ⊤}
use Rattle.tk_durable.specs.declared.creation.Created.{Created}
use Rattle.tk_durable.specs.declared.creation.Created.TheVariants.{Ok as IsCreated, DiskFault}
use Rattle.tk_durable.specs.History.{HoldsFile}

-- the disk that is handed back
abbrev pub disk_of : {D : Type 0} → Created D → D
disk_of (IsCreated durable) = durable.disk
disk_of (DiskFault disk) = disk

-- a journal with no entry, all of it durable
abbrev pub CreatesAs : {D : Type 0} → (D → List ℕ) → (D → List ℕ → Type 0) → Created D → Type 0
CreatesAs content images (IsCreated durable) = HoldsFile [] (content durable.disk) (images durable.disk)
CreatesAs content images (DiskFault disk) = ⊤

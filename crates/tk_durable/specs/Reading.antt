-- What a journal file is read as.
use Rattle.std.specs.Prelude.{◌≡◌, ℕ, List}
use Rattle.tk_durable.specs.declared.file.FileRead.{FileRead}
use Rattle.tk_durable.specs.declared.file.FileRead.TheVariants as file_reads
use Rattle.tk_durable.specs.declared.file.Reading.{Reading}
use Rattle.tk_durable.specs.declared.file.Reading.TheVariants.{Whole, Damaged}
use Rattle.tk_durable.specs.Damage.{IsDamaged}
use Rattle.tk_durable.specs.Journal.{IsJournal, end_of}

-- the entries of the file's journal, or the gate at fault where it has none
abbrev pub IsFileReading : List ℕ → FileRead → Type 0
IsFileReading file (file_reads.Ok entries) = IsJournal entries file
IsFileReading file (file_reads.Damaged offset) = IsDamaged offset file

-- the same, with the place of the last gate
abbrev pub IsReadingOf : List ℕ → Reading → Type 0
IsReadingOf file (Whole entries gate) = IsJournal entries file × (gate ≡ end_of entries)
IsReadingOf file (Damaged offset) = IsDamaged offset file

-- What an append leaves, for the history that the disk holds.
use Rattle.std.proofs.Common.{◌≡◌, ℕ, ◌+◌, List, [], ◌∷◌, ◌++◌, length, reverse, subst}
use Rattle.tk_disk.specs.Disk.{LeavesOnly, Only}
use Rattle.tk_journal.specs.declared.entry.Entry.{Entry}
use Rattle.tk_payload.specs.Fits.{IsEntry}
use Rattle.tk_payload.specs.Forms.{entry_text}
use Rattle.tk_durable.specs.Gates.{IsAdded, IsAddedOrNot}
use Rattle.tk_durable.specs.History.{HoldsFile, IsFileWithOrWithout}
use Rattle.tk_durable.specs.Journal.{sized, HasLength, Stands}
use Rattle.tk_durable.proofs.Histories.{stands_as, with_or_without_more}
use Rattle.tk_durable.proofs.Journals.{added, with_or_without}
use Rattle.tk_durable.proofs.Moments.{weaker}

-- an entry, and the bytes that are written of it
pub record IsBlockOf (e : Entry) (bytes : List ℕ) : Type 0 where
  pub is_entry : IsEntry e
  pub fits : HasLength e
  pub is : bytes ≡ sized (entry_text e) ++ 0 ∷ []

module _ {D : Type 0} (content : D → List ℕ) (images : D → List ℕ → Type 0) where
  pub leaves : (moment : D → ℕ) (images_since : D → ℕ → List ℕ → Type 0) (old new : D) (gate : ℕ) (entries history : List Entry) (e : Entry) (bytes : List ℕ) → Stands entries (content old) (images old) gate → IsBlockOf e bytes
      → LeavesOnly moment images_since old new (IsAddedOrNot gate (content old) bytes) → HoldsFile history (content old) (images old) → LeavesOnly moment images_since old new (IsFileWithOrWithout history e)
  leaves moment images_since old new gate entries history e bytes stands block any holds =
      let own = stands_as history entries (content old) (images old) gate holds stands in
      let same = subst (λ (b : List ℕ). LeavesOnly moment images_since old new (IsAddedOrNot gate (content old) b)) block.is any in
      weaker moment images_since old new _ _ same
      (λ c left. with_or_without_more history e c (with_or_without (reverse history) (content old) (images old) gate own e block.is_entry block.fits c left))

  pub stands_more : (old new : D) (gate next : ℕ) (entries : List Entry) (e : Entry) (bytes : List ℕ) → Stands entries (content old) (images old) gate → IsBlockOf e bytes
      → IsAdded gate (content old) bytes (content new) → Only (content new) (images new) → next ≡ gate + length bytes → Stands (entries ++ e ∷ []) (content new) (images new) next
  stands_more old new gate next entries e bytes stands block is_added only at =
      let same = subst (λ (b : List ℕ). IsAdded gate (content old) b (content new)) block.is is_added in
      added entries (content old) (images old) gate stands e block.is_entry block.fits (content new) (images new) next same only (subst (λ (b : List ℕ). next ≡ gate + length b) block.is at)

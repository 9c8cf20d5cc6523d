-- A history that is held, its newest entry first.
use Rattle.std.proofs.Common.{◌≡◌, inl, inr, ℕ, List, [], ◌∷◌, ◌++◌, reverse, sym, subst}
use Rattle.std.proofs.lemmas.Grind.{reverse_onto}
use Rattle.tk_journal.specs.declared.entry.Entry.{Entry}
use Rattle.tk_durable.specs.History.{HoldsFile, IsFileWithOrWithout}
use Rattle.tk_durable.specs.Journal.{IsJournal, IsWithOrWithout, Stands}
use Rattle.tk_durable.proofs.OneJournal.{one_journal}

-- the history that a disk holds is the one that stands there
pub stands_as : (history entries : List Entry) (content : List ℕ) (images : List ℕ → Type 0) (gate : ℕ) → HoldsFile history content images → Stands entries content images gate → Stands (reverse history) content images gate
stands_as history entries content images gate holds stands =
    subst (λ (es : List Entry). Stands es content images gate) (one_journal entries (reverse history) content stands.journal holds.journal) stands

-- the newest entry is the last one of the file
more : (history : List Entry) (e : Entry) → reverse (e ∷ history) ≡ reverse history ++ e ∷ []
more history e = reverse_onto history e []

pub with_or_without_more : (history : List Entry) (e : Entry) (file : List ℕ) → IsWithOrWithout (reverse history) e file → IsFileWithOrWithout history e file
with_or_without_more history e file (inl without) = inl without
with_or_without_more history e file (inr with_it) = inr (subst (λ (es : List Entry). IsJournal es file) (sym (more history e)) with_it)

pub holds_more : (history : List Entry) (e : Entry) (content : List ℕ) (images : List ℕ → Type 0) (gate : ℕ) → Stands (reverse history ++ e ∷ []) content images gate → HoldsFile (e ∷ history) content images
holds_more history e content images gate stands = record {
  journal = subst (λ (es : List Entry). IsJournal es content) (sym (more history e)) stands.journal;
  only = stands.only;
}

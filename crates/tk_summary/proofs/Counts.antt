-- Counts of a history, one position at a time.
use Rattle.std.proofs.Common.{◌≡◌, ℕ, suc, ◌+◌, ◌≤◌, ◌<◌, List, [], ◌∷◌, length, Some, Bool, true, false, refl, ap, ◌∙◌, sym, arith, cond}
use Rattle.std.specs.Prelude.{count_by}
use Rattle.std.proofs.lemmas.List.Sums.{count_by-le-length, sum_by-cons}
use Rattle.tk_journal.specs.declared.entry.Entry.{Entry}
use Rattle.tk_journal.specs.Journal.{entry_at}
use Rattle.tk_journal.specs.History.{past}
use Rattle.tk_journal.proofs.Past.{length-past, past_whole}
use Rattle.tk_journal.proofs.Positions.{past_none, past_step}
use Rattle.tk_summary.specs.declared.counting.Counted.{Counted}
use Rattle.tk_summary.specs.Summary.{count_of, is_counted}

module _ (what : Counted) (history : List Entry) where
  pub count_none : count_of what (past 0 history) ≡ 0
  count_none = ap (count_of what) (past_none history)

  pub count_all : (place : ℕ) → length history ≤ place → count_of what (past place history) ≡ count_of what history
  count_all place within = ap (count_of what) (past_whole place history within)

  module _ (place : ℕ) (e : Entry) (at : entry_at (place + 1) history ≡ Some e) where
    step : count_of what (past (place + 1) history) ≡ cond (is_counted what e.act) 1 0 + count_of what (past place history)
    step = ap (count_of what) (past_step place e history at) ∙ sum_by-cons (λ (x : Entry). cond (is_counted what x.act) 1 0) e (past place history)

    pub count_yes : is_counted what e.act ≡ true → count_of what (past (place + 1) history) ≡ count_of what (past place history) + 1
    count_yes is = step ∙ rw is (omega arith)

    pub count_no : is_counted what e.act ≡ false → count_of what (past (place + 1) history) ≡ count_of what (past place history)
    count_no is = step ∙ rw is (omega arith)

  -- a count is at most the number of all entries
  pub count_within : (place : ℕ) → count_of what (past place history) ≤ length history
  count_within place =
      let some : count_of what (past place history) ≤ length (past place history) = count_by-le-length (λ (e : Entry). is_counted what e.act) (past place history) in
      let all : length (past place history) ≤ length history = length-past place history in
      omega (arith, some, all)

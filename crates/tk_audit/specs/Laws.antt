-- The laws of audited histories.
use Rattle.std.specs.Prelude.{◌≡◌, ◌≤◌, ◌↔◌, ℕ, List, ◌∷◌, ◌++◌, Bool, true, false, All}
use Rattle.tk_journal.specs.declared.entry.Entry.{Entry}
use Rattle.tk_journal.specs.History.{past}
use Rattle.tk_journal.specs.Legal.{is_admit, IsLegal, IsStep}
use Rattle.tk_journal.specs.Right.{IsRight}
use Rattle.tk_audit.specs.declared.why.Why.{Why}
use Rattle.tk_time.specs.Moment.{last_moment}
use Rattle.tk_audit.specs.Audit.{Keeps, AreAudited}

-- the moments are a clock's
abbrev pub AreInLimit : List Entry → Type 0
AreInLimit history = All (λ (e : Entry). e.moment ≤ last_moment) history

-- the history is what is admitted, and behind it no Admit
pub record BeginsWith (admitted history : List Entry) : Type 0 where
  pub since : List Entry
  pub same : history ≡ since ++ admitted
  pub all : All (λ (e : Entry). is_admit e.act ≡ true) admitted
  pub no_more : All (λ (e : Entry). is_admit e.act ≡ false) since

-- a history that is audited at each position is legal for what its Admit entries admit, and right at each position
pub record AuditedIsRight : Type 0 where
  pub legal : (history : List Entry) → AreAudited history → IsLegal history
  pub begins : (history : List Entry) → AreAudited history → (admitted : List Entry) × BeginsWith admitted history
  pub right : (history : List Entry) → AreAudited history → (n : ℕ) → IsRight (past n history)

-- a legal history whose moments are a clock's is audited at each position, and so is each part of it
abbrev pub LegalIsAudited : Type 0
LegalIsAudited = (history : List Entry) → IsLegal history → AreInLimit history → (n : ℕ) → AreAudited (past n history)

-- behind a legal history, the reasons ask of an entry, but for the moment's limit, just what legality does
abbrev pub ReasonsAreLegality : Type 0
ReasonsAreLegality = (older : List Entry) (e : Entry) → IsLegal older → ((why : Why) → Keeps why older e) ↔ IsStep older e

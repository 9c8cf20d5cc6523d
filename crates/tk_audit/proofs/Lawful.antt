-- The laws of audited histories.
use Rattle.std.proofs.Common.{◌≡◌, ℕ, zero, suc, ◌<◌, ◌≤◌, ◌↔◌, List, [], ◌∷◌, ◌++◌, length, Bool, true, false, All, refl, sym, ap, ◌∙◌, arith, inl, inr}
use Rattle.std.specs.Prelude.{nat_le}
use Rattle.std.proofs.lemmas.Bool.{cases_Bool}
use Rattle.std.proofs.lemmas.List.Elements.{All-nil, All-cons, All-head, All-tail}
use Rattle.tk_journal.specs.declared.act.Act.{Act}
use Rattle.tk_journal.specs.declared.act.Act.TheVariants as acts
use Rattle.tk_journal.specs.declared.entry.Entry.{Entry}
use Rattle.tk_journal.specs.History.{past}
use Rattle.tk_journal.specs.Legal.{is_admit, IsLegal, IsStep}
use Rattle.tk_journal.proofs.Statements.{legal_is_right}
use Rattle.tk_audit.specs.declared.why.Why.{Why}
use Rattle.tk_audit.specs.declared.why.Why.TheVariants as whys
use Rattle.tk_time.specs.Moment.{last_moment}
use Rattle.tk_audit.specs.Audit.{ComesInTime, Keeps, IsInLimit, Meets, IsAudited, AreAudited}
use Rattle.tk_audit.specs.Laws.{AreInLimit, BeginsWith, AuditedIsRight, LegalIsAudited, ReasonsAreLegality}
use Rattle.tk_audit.proofs.Steps.{step_of, keeps_of}

pub audited_is_legal : (history : List Entry) → AreAudited history → IsLegal history
audited_is_legal [] audited = audited
audited_is_legal (e ∷ older) audited =
    let legal = audited_is_legal older audited.0 in
    (legal, step_of older e legal (λ why. (audited.1 why).0))

behind : (older : List Entry) (act : Act) → ComesInTime older act → is_admit act ≡ true → All (λ (before : Entry). is_admit before.act ≡ true) older
behind older (acts.Admit name spec pending asked root) late is = late
behind older act late is = cc

begins_with : (history : List Entry) → AreAudited history → (admitted : List Entry) × BeginsWith admitted history
begins_with [] audited = ([], record { since = []; same = refl; all = All-nil _; no_more = All-nil _ })
begins_with (e ∷ older) audited = elim (cases_Bool (is_admit e.act)) [
  | inl hit ↦ (
    e ∷ older,
    record {
      since = [];
      same = refl;
      all = All-cons (λ (x : Entry). is_admit x.act ≡ true) e older hit (behind older e.act (audited.1 whys.Late).0 hit);
      no_more = All-nil _;
    },
  )
  | inr never ↦
      let before = begins_with older audited.0 in (
        before.0,
        record {
          since = e ∷ before.1.since;
          same = ap (λ (xs : List Entry). e ∷ xs) before.1.same;
          all = before.1.all;
          no_more = All-cons (λ (x : Entry). is_admit x.act ≡ false) e before.1.since never before.1.no_more;
        },
      )
]

pub audited_is_right : AuditedIsRight
audited_is_right = record {
  legal = audited_is_legal;
  begins = begins_with;
  right = λ history audited n. legal_is_right history (audited_is_legal history audited) n;
}

in_limit : (why : Why) (moment : ℕ) → moment ≤ last_moment → IsInLimit why moment
in_limit whys.Row moment le = le
in_limit whys.Late moment le = tt
in_limit whys.Front moment le = tt
in_limit whys.Unsound moment le = tt
in_limit whys.Taken moment le = tt
in_limit whys.Absent moment le = tt
in_limit whys.Moved moment le = tt

all_audited : (history : List Entry) → IsLegal history → AreInLimit history → AreAudited history
all_audited [] legal limits = tt
all_audited (e ∷ older) legal limits = (
  all_audited older legal.0 (All-tail (λ (x : Entry). x.moment ≤ last_moment) e older limits),
  λ why. (keeps_of older e legal.0 legal.1 why, in_limit why e.moment (All-head (λ (x : Entry). x.moment ≤ last_moment) e older limits)),
)

pub past_audited : (n : ℕ) (history : List Entry) → AreAudited history → AreAudited (past n history)
past_audited n [] audited = audited
past_audited n (e ∷ older) audited = elim (cases_Bool (nat_le (suc (length older)) n)) [
  | inl hit ↦ rw hit audited
  | inr miss ↦ rw miss (past_audited n older audited.0)
]

pub legal_is_audited : LegalIsAudited
legal_is_audited history legal limits n = past_audited n history (all_audited history legal limits)

pub reasons_are_legality : ReasonsAreLegality
reasons_are_legality older e legal = (step_of older e legal, keeps_of older e legal)

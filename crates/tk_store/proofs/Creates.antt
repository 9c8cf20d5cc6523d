-- Which entries make an object, and that an object that was made has a version.
use Rattle.std.proofs.Common.{◌≡◌, ℕ, suc, ◌<◌, List, [], ◌∷◌, length, true, false, refl, inl, inr, arith}
use Rattle.std.specs.Prelude.{bytes_eq, nat_lt, ◌&&◌}
use Rattle.std.proofs.lemmas.Bool.{cases_Bool, and_parts, lt-ltb}
use Rattle.tk_types.specs.declared.scenario.Kind.{Kind}
use Rattle.tk_types.specs.declared.scenario.Kind.TheVariants as kinds
use Rattle.tk_journal.specs.declared.act.Act.{Act}
use Rattle.tk_journal.specs.declared.act.Act.TheVariants as acts
use Rattle.tk_journal.specs.declared.act.Admission.TheVariants as admissions
use Rattle.tk_journal.specs.declared.entry.Entry.{Entry}
use Rattle.tk_journal.specs.Effects.{name_of, kind_of, same_kind, writes, is_create}
use Rattle.tk_journal.specs.History.{creates, counts, version_of}
use Rattle.tk_store.specs.Writes.{made_at}

pub same_kind_is : (a b : Kind) → same_kind a b ≡ true → a ≡ b
same_kind_is kinds.Runs kinds.Runs is = refl
same_kind_is kinds.TaskRuns kinds.TaskRuns is = refl
same_kind_is kinds.Pods kinds.Pods is = refl
same_kind_is a b is = cc

-- a create is of its kind
pub creates_kind : (kind : Kind) (act : Act) → creates kind act ≡ true → same_kind kind (kind_of act) ≡ true
creates_kind kinds.Runs (acts.Admit name (admissions.Run spec) pending asked root) is = refl
creates_kind kinds.TaskRuns (acts.Admit name (admissions.Task spec) pending asked root) is = refl
creates_kind kinds.TaskRuns (acts.MakeTaskRun name run task index mark) is = refl
creates_kind kinds.Pods (acts.MakePod name task_run attempt plan mark) is = refl
creates_kind kind act is = cc

pub creates_create : (kind : Kind) (act : Act) → creates kind act ≡ true → is_create act ≡ true
creates_create kind (acts.Admit name spec pending asked root) is = refl
creates_create kind (acts.MakeTaskRun name run task index mark) is = refl
creates_create kind (acts.MakePod name task_run attempt plan mark) is = refl
creates_create kinds.Runs act is = cc
creates_create kinds.TaskRuns act is = cc
creates_create kinds.Pods act is = cc

-- an update makes nothing, and a create makes something of its own kind
pub creates_none : (act : Act) → is_create act ≡ false → creates (kind_of act) act ≡ false
creates_none act update = elim (cases_Bool (creates (kind_of act) act)) [
  | inl hit ↦ absurd (let made = creates_create (kind_of act) act hit in cc)
  | inr miss ↦ miss
]

pub creates_own : (act : Act) → is_create act ≡ true → creates (kind_of act) act ≡ true
creates_own (acts.Admit name (admissions.Run spec) pending asked root) is = refl
creates_own (acts.Admit name (admissions.Task spec) pending asked root) is = refl
creates_own (acts.MakeTaskRun name run task index mark) is = refl
creates_own (acts.MakePod name task_run attempt plan mark) is = refl
creates_own act is = cc

-- what was made has a version
pub has_version : (kind : Kind) (name : List ℕ) (history : List Entry) → 0 < made_at kind name history → 0 < version_of kind name history
has_version kind name [] there = absurd (omega (arith, there))
has_version kind name (e ∷ older) there = elim (cases_Bool (creates kind e.act && bytes_eq (name_of e.act) name)) [
  | inl hit ↦
      let parts = and_parts (creates kind e.act) (bytes_eq (name_of e.act) name) hit in
      let kinds_same = creates_kind kind e.act parts.0 in
      let create = creates_create kind e.act parts.0 in
      rw (kinds_same, parts.1, create) (omega arith)
  | inr miss ↦
      let before : 0 < version_of kind name older = has_version kind name older (rw miss at there) in
      elim (cases_Bool (writes kind name e && counts e (version_of kind name older))) [
        | inl last ↦ rw last (omega arith)
        | inr other ↦ rw other before
      ]
]

-- what was made is written by an update
pub is_written : (kind : Kind) (name : List ℕ) (e : Entry) (history : List Entry) → writes kind name e ≡ true → is_create e.act ≡ false → 0 < made_at kind name history → version_of kind name (e ∷ history) ≡ suc (length history)
is_written kind name e history hit update there =
    let positive : nat_lt 0 (version_of kind name history) ≡ true = lt-ltb 0 (version_of kind name history) (has_version kind name history there) in
    rw (hit, update, positive) refl

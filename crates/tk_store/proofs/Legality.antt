-- A tried entry goes through at the end, and a version that moved is greater than the one that was seen.
use Rattle.std.proofs.Common.{◌≡◌, ℕ, suc, ◌<◌, ◌≤◌, List, [], ◌∷◌, ◌++◌, length, reverse, Bool, true, false, refl, sym, subst, inl, inr, arith}
use Rattle.std.specs.Prelude.{nat_le, ◌&&◌}
use Rattle.std.proofs.lemmas.Bool.{cases_Bool}
use Rattle.tk_journal.specs.declared.entry.Entry.{Entry}
use Rattle.tk_journal.specs.Effects.{name_of, kind_of, writes, is_create}
use Rattle.tk_journal.specs.History.{past, last_of, front_of, counts}
use Rattle.tk_journal.specs.Legal.{IsLegal, IsStep, IsWritable}
use Rattle.tk_journal.proofs.Past.{last_of-le}
use Rattle.tk_store.specs.Writes.{MayBeTried, holder_of, version_now, version_seen}
use Rattle.tk_store.proofs.There.{is_free, is_there}

tried_step : (history : List Entry) (e : Entry) → MayBeTried history e → IsWritable (is_create e.act) (kind_of e.act) (name_of e.act) e.fronts history → IsStep history e
tried_step history e tried writable = record {
  runs_front = tried.within.runs;
  task_runs_front = tried.within.task_runs;
  pods_front = tried.within.pods;
  fits = tried.fits;
  justified = tried.justified;
  writable = writable;
}

pub created_step : (history : List Entry) (e : Entry) → MayBeTried history e → is_create e.act ≡ true → holder_of history e ≡ 0 → IsStep history e
created_step history e tried create none = tried_step history e tried
    (subst (λ (b : Bool). IsWritable b (kind_of e.act) (name_of e.act) e.fronts history) (sym create) (is_free (kind_of e.act) history (name_of e.act) none))

pub updated_step : (history : List Entry) (e : Entry) → MayBeTried history e → is_create e.act ≡ false → version_seen history e ≡ version_now history e → IsStep history e
updated_step history e tried update same = tried_step history e tried
    (subst (λ (b : Bool). IsWritable b (kind_of e.act) (name_of e.act) e.fronts history) (sym update) same)

-- an update that goes through finds its object
pub step_there : (history : List Entry) (e : Entry) → IsStep history e → is_create e.act ≡ false → 0 < holder_of history e
step_there history e step update = is_there history e.fronts e.actor e.moment e.act update step.justified step.writable (kind_of e.act) refl

-- the older part of a legal history is legal, and its next entry goes through there
pub legal_older : (newer older : List Entry) → IsLegal (newer ++ older) → IsLegal older
legal_older [] older legal = legal
legal_older (e ∷ newer) older legal = legal_older newer older legal.0

last_past : (mine : Entry → Bool) (n : ℕ) (history : List Entry) → last_of mine (past n history) ≤ last_of mine history
last_past mine n [] = omega arith
last_past mine n (e ∷ older) = elim (cases_Bool (nat_le (suc (length older)) n)) [
  | inl hit ↦ rw hit (omega arith)
  | inr miss ↦
      let rest = last_past mine n older in
      let few = last_of-le mine older in
      elim (cases_Bool (mine e && counts e (last_of mine older))) [
        | inl own ↦ rw (miss, own) (omega (arith, rest, few))
        | inr other ↦ rw (miss, other) rest
      ]
]

pub seen_less : (history : List Entry) (e : Entry) → (version_seen history e ≡ version_now history e → ⊥) → version_seen history e < version_now history e
seen_less history e moved =
    let le = last_past (writes (kind_of e.act) (name_of e.act)) (front_of (kind_of e.act) e.fronts) history in
    omega (arith, le, moved)

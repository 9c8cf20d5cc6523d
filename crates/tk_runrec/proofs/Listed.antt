-- The list of a run's children, and what is found in it.
use Rattle.std.proofs.Common.{◌≡◌, ℕ, zero, suc, ◌+◌, ◌<◌, List, [], ◌∷◌, length, filter, Option, Some, None, Bool, true, false, refl, sym, ◌∙◌, ap, subst, inl, inr, ◌⊎◌, arith, Contains}
use Rattle.std.specs.Prelude.{not, find, option_map, option_and_then, slice_get, if◌then◌else◌}
use Rattle.std.specs.List.{list_any}
use Rattle.std.proofs.lemmas.Bool.{cases_Bool}
use Rattle.std.proofs.lemmas.Option.{same_Some}
use Rattle.std.proofs.lemmas.List.Elements.{Contains-append_left, Contains-append_right, Contains-append_cases}
use Rattle.tk_types.specs.declared.run.Child.{Child}
use Rattle.tk_types.specs.declared.run.Outcome.{Outcome}
use Rattle.tk_types.specs.declared.run.RunSpec.{RunSpec}
use Rattle.tk_types.specs.declared.verdict.Binding.{Binding}
use Rattle.tk_journal.specs.declared.act.Act.{Act}
use Rattle.tk_journal.specs.declared.object.Scheduled.{Scheduled}
use Rattle.std.specs.Option.{option_map_or}
use Rattle.tk_types.specs.declared.task.PipelineTask.{PipelineTask}
use Rattle.tk_verdict.specs.Facts.{is_good}
use Rattle.tk_journal.specs.History.{children_from, children_in}
use Rattle.tk_journal.specs.RunRows.{BadChild}
use Rattle.tk_runrec.specs.declared.found.Found.{Found}
use Rattle.tk_runrec.specs.Found.{first_found, sooner, is_before}
use Rattle.tk_labels.specs.Kept.{is_bad, ended_badly}
use Rattle.tk_runrec.proofs.Meaning.{here, there, split, none_in, any_is, any_from, not_is}

-- a child of a scheduled task
pub record IsListed (f : ℕ → ℕ → Option Outcome) (scheduled : List Scheduled) (child : Child) : Type 0 where
  pub part : Scheduled
  pub has : Contains scheduled part
  pub index : ℕ
  pub within : index < length part.bindings
  pub is : child ≡ record { task = part.task; index = index; outcome = f part.task index }

from_of : (f : ℕ → Option Outcome) (task first : ℕ) (bindings : List Binding) (child : Child) → Contains (children_from f task first bindings) child → (k : ℕ) × (k < length bindings) × (child ≡ record { task = task; index = first + k; outcome = f (first + k) })
from_of f task first [] child has = absurd (none_in child has)
from_of f task first (binding ∷ bindings) child has = elim (split _ child (children_from f task (suc first) bindings) has) [
  | inl same ↦ let e : first ≡ first + 0 = omega arith in (0, omega arith, sym same ∙ ap (λ (i : ℕ). record { task = task; index = i; outcome = f i }) e)
  | inr later ↦
      let rest = from_of f task (suc first) bindings child later in
      let less = rest.1 in
      let e : suc first + rest.0 ≡ first + suc rest.0 = omega arith in
      (suc rest.0, omega (arith, less), rest.2 ∙ ap (λ (i : ℕ). record { task = task; index = i; outcome = f i }) e)
]

in_from : (f : ℕ → Option Outcome) (task first : ℕ) (bindings : List Binding) (k : ℕ) → k < length bindings → Contains (children_from f task first bindings) record { task = task; index = first + k; outcome = f (first + k) }
in_from f task first [] k less = absurd (omega (arith, less))
in_from f task first (binding ∷ bindings) zero less = let e : first + 0 ≡ first = omega arith in rw e (here _ _)
in_from f task first (binding ∷ bindings) (suc k) less = let e : first + suc k ≡ suc first + k = omega arith in rw e (there _ _ _ (in_from f task (suc first) bindings k (omega (arith, less))))

pub listed : (f : ℕ → ℕ → Option Outcome) (scheduled : List Scheduled) (child : Child) → Contains (children_in f scheduled) child → IsListed f scheduled child
listed f [] child has = absurd (none_in child has)
listed f (s ∷ ss) child has = elim (Contains-append_cases (children_from (f s.task) s.task 0 s.bindings) (children_in f ss) child has) [
  | inl own ↦
      let found = from_of (f s.task) s.task 0 s.bindings child own in
      let z : 0 + found.0 ≡ found.0 = omega arith in
      record { part = s; has = here s ss; index = found.0; within = found.1; is = rw z at found.2 }
  | inr later ↦
      let rest = listed f ss child later in
      record { part = rest.part; has = there s rest.part ss rest.has; index = rest.index; within = rest.within; is = rest.is }
]

pub is_listed : (f : ℕ → ℕ → Option Outcome) (scheduled : List Scheduled) (part : Scheduled) (index : ℕ) → Contains scheduled part → index < length part.bindings → Contains (children_in f scheduled) record { task = part.task; index = index; outcome = f part.task index }
is_listed f [] part index has within = absurd (none_in part has)
is_listed f (s ∷ ss) part index has within = elim (split s part ss has) [
  | inl same ↦
      let z : 0 + index ≡ index = omega arith in
      subst (λ (p : Scheduled). Contains (children_in f (s ∷ ss)) record { task = p.task; index = index; outcome = f p.task index }) same
      (Contains-append_left (children_from (f s.task) s.task 0 s.bindings) (children_in f ss) _
      (rw z at (in_from (f s.task) s.task 0 s.bindings index (subst (λ (p : Scheduled). index < length p.bindings) (sym same) within))))
  | inr later ↦ Contains-append_right (children_from (f s.task) s.task 0 s.bindings) (children_in f ss) _ (is_listed f ss part index later within)
]

-- children that ended badly

badly_is : (o : Option Outcome) (task : PipelineTask) → ended_badly o task ≡ true → (outcome : Outcome) × (o ≡ Some outcome) × (is_good task outcome ≡ false)
badly_is None task is = absurd (cc (is))
badly_is (Some outcome) task is = (outcome, refl, not_is (is_good task outcome) is)

-- of a task that is there
bad_task : (outcome : Option Outcome) (o : Option PipelineTask) → option_map_or (ended_badly outcome) o false ≡ true → (task : PipelineTask) × (o ≡ Some task) × (ended_badly outcome task ≡ true)
bad_task outcome None is = absurd (cc (is))
bad_task outcome (Some task) is = (task, refl, is)

pub bad_is : (spec : RunSpec) (f : ℕ → ℕ → Option Outcome) (scheduled : List Scheduled) → list_any (is_bad spec) (children_in f scheduled) ≡ true → BadChild spec f scheduled
bad_is spec f scheduled is =
    let found = any_is (is_bad spec) (children_in f scheduled) is in
    let child = listed f scheduled found.0 found.1 in
    let bad : is_bad spec record { task = child.part.task; index = child.index; outcome = f child.part.task child.index } ≡ true = ap (is_bad spec) (sym child.is) ∙ found.2 in
    let task = bad_task (f child.part.task child.index) (slice_get spec.tasks child.part.task) bad in
    let outcome = badly_is (f child.part.task child.index) task.0 task.2 in
    record { part = child.part; scheduled_part = child.has; index = child.index; within = child.within; task = task.0; of_tasks = task.1; outcome = outcome.0; ended = outcome.1; bad = outcome.2 }

pub is_bad_of : (spec : RunSpec) (f : ℕ → ℕ → Option Outcome) (scheduled : List Scheduled) → BadChild spec f scheduled → list_any (is_bad spec) (children_in f scheduled) ≡ true
is_bad_of spec f scheduled bad =
    any_from (is_bad spec) (children_in f scheduled) record { task = bad.part.task; index = bad.index; outcome = f bad.part.task bad.index } (is_listed f scheduled bad.part bad.index bad.scheduled_part bad.within)
    (ap (λ (o : Option PipelineTask). option_map_or (ended_badly (f bad.part.task bad.index)) o false) bad.of_tasks ∙ (ap (λ (o : Option Outcome). ended_badly o bad.task) bad.ended ∙ ap not bad.bad))

-- the first that passes

pub find_is : {X : Type 0} (test : X → Bool) (xs : List X) (x : X) → find test xs ≡ Some x → Contains xs x × (test x ≡ true)
find_is test [] x is = absurd (cc (is))
find_is test (y ∷ xs) x is = elim (cases_Bool (test y)) [
  | inl hit ↦
      let now : Some y ≡ Some x = rw hit at is in
      let same = same_Some y x now in
      (subst (Contains (y ∷ xs)) same (here y xs), ap test (sym same) ∙ hit)
  | inr miss ↦ let rest = find_is test xs x (rw miss at is) in (there y x xs rest.0, rest.1)
]

pub find_none : {X : Type 0} (test : X → Bool) (xs : List X) (x : X) → find test xs ≡ None → Contains xs x → test x ≡ false
find_none test [] x none has = absurd (none_in x has)
find_none test (y ∷ xs) x none has = elim (cases_Bool (test y)) [
  | inl hit ↦ let now : Some y ≡ None = rw hit at none in absurd (cc (now))
  | inr miss ↦ elim (split y x xs has) [
    | inl same ↦ ap test (sym same) ∙ miss
    | inr later ↦ find_none test xs x (rw miss at none) later
  ]
]

pub find_nothing : {X : Type 0} (test : X → Bool) (xs : List X) → ((x : X) → test x ≡ false) → find test xs ≡ None
find_nothing test [] never = refl
find_nothing test (x ∷ xs) never = rw (never x) (find_nothing test xs never)

-- where a test holds

pub when_is : {X : Type 0} (b : Bool) (o : Option X) (x : X) → (if b then o else None) ≡ Some x → (b ≡ true) × (o ≡ Some x)
when_is true o x is = (refl, is)
when_is false o x is = absurd (cc (is))

pub when_none : {X : Type 0} (b : Bool) (o : Option X) → b ≡ true → (if b then o else None) ≡ None → o ≡ None
when_none true o hit none = none
when_none false o hit none = absurd (cc (hit))

pub when_true : {X : Type 0} (b : Bool) (o : Option X) → b ≡ true → (if b then o else None) ≡ o
when_true true o hit = refl
when_true false o hit = absurd (cc (hit))

pub when_false : {X : Type 0} (b : Bool) (o : Option X) → b ≡ false → (if b then o else None) ≡ None
when_false true o miss = absurd (cc (miss))
when_false false o miss = refl

pub if_true : {X : Type 0} (b : Bool) (x y o : X) → b ≡ true → (if b then x else y) ≡ o → x ≡ o
if_true true x y o hit is = is
if_true false x y o hit is = absurd (cc (hit))

pub if_false : {X : Type 0} (b : Bool) (x y o : X) → b ≡ false → (if b then x else y) ≡ o → y ≡ o
if_false true x y o miss is = absurd (cc (miss))
if_false false x y o miss is = is

-- acts

pub map_is : {X : Type 0} (f : X → Act) (o : Option X) (act : Act) → option_map f o ≡ Some act → (x : X) × (o ≡ Some x) × (f x ≡ act)
map_is f None act is = absurd (cc (is))
map_is f (Some x) act is = (x, refl, same_Some (f x) act is)

pub map_none : {X : Type 0} (f : X → Act) (o : Option X) → option_map f o ≡ None → o ≡ None
map_none f None none = refl
map_none f (Some x) none = absurd (cc (none))

pub then_is : {X : Type 0} (f : X → Option Act) (o : Option X) (act : Act) → option_and_then f o ≡ Some act → (x : X) × (o ≡ Some x) × (f x ≡ Some act)
then_is f None act is = absurd (cc (is))
then_is f (Some x) act is = (x, refl, is)

-- the first by task and index

sooner_is : (best found : Option Found) (f : Found) → sooner best found ≡ Some f → (best ≡ Some f) ⊎ (found ≡ Some f)
sooner_is best None f is = inl is
sooner_is None (Some found) f is = inr is
sooner_is (Some best) (Some found) f is = elim (cases_Bool (is_before found best)) [
  | inl hit ↦ inr (rw hit at is)
  | inr miss ↦ inl (rw miss at is)
]

pub found_is : {X : Type 0} (finds : X → Option Found) (best : Option Found) (xs : List X) (f : Found) → first_found finds best xs ≡ Some f → (best ≡ Some f) ⊎ ((x : X) × Contains xs x × (finds x ≡ Some f))
found_is finds best [] f is = inl is
found_is finds best (x ∷ xs) f is = elim (found_is finds (sooner best (finds x)) xs f is) [
  | inl sooner_one ↦ elim (sooner_is best (finds x) f sooner_one) [
    | inl was ↦ inl was
    | inr first ↦ inr (x, here x xs, first)
  ]
  | inr later ↦ inr (later.0, there x later.0 xs later.1, later.2)
]

pub filter_is : {X : Type 0} (test : X → Bool) (xs : List X) (x : X) → Contains (filter test xs) x → Contains xs x × (test x ≡ true)
filter_is test [] x has = absurd (none_in x has)
filter_is test (y ∷ xs) x has = elim (cases_Bool (test y)) [
  | inl hit ↦ elim (split y x (filter test xs) (rw hit at has)) [
    | inl same ↦ (subst (Contains (y ∷ xs)) same (here y xs), ap test (sym same) ∙ hit)
    | inr later ↦ let rest = filter_is test xs x later in (there y x xs rest.0, rest.1)
  ]
  | inr miss ↦ let rest = filter_is test xs x (rw miss at has) in (there y x xs rest.0, rest.1)
]

pub is_filtered : {X : Type 0} (test : X → Bool) (xs : List X) (x : X) → Contains xs x → test x ≡ true → Contains (filter test xs) x
is_filtered test [] x has hit = absurd (none_in x has)
is_filtered test (y ∷ xs) x has hit = elim (split y x xs has) [
  | inl same ↦ let at_y : test y ≡ true = ap test same ∙ hit in rw at_y (subst (Contains (y ∷ filter test xs)) same (here y (filter test xs)))
  | inr later ↦ elim (cases_Bool (test y)) [
    | inl first ↦ rw first (there y x (filter test xs) (is_filtered test xs x later hit))
    | inr miss ↦ rw miss (is_filtered test xs x later hit)
  ]
]

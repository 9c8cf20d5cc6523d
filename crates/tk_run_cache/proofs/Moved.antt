-- Children of scheduled tasks: once outcomes moved on, and where a task gets its children.
use Rattle.std.proofs.Common.{◌≡◌, ◌≢◌, ℕ, suc, ◌<◌, ◌≤◌, ◌+◌, List, [], ◌∷◌, ◌++◌, length, map, get_or, Option, None, refl, sym, ◌∙◌, ap, ap₂, arith, Contains, All}
use Rattle.std.specs.List.{range_with_len}
use Rattle.std.proofs.lemmas.Bool.{ne_eqb}
use Rattle.std.proofs.lemmas.List.{map-append, map-id}
use Rattle.std.proofs.lemmas.List.Elements.{All-nil, All-cons, All-append, All-head, All-tail, All-weaker, Contains-append_left, Contains-append_right}
use Rattle.std.proofs.lemmas.List.FromFn.{length-map-range_with_len, get_or-map-range_with_len, fill_by_all}
use Rattle.tk_types.specs.declared.run.Child.{Child}
use Rattle.tk_types.specs.declared.run.Outcome.{Outcome}
use Rattle.tk_types.specs.declared.verdict.Binding.{Binding}
use Rattle.tk_verdict.specs.Facts.{children_at}
use Rattle.tk_labels.specs.Change.{child_at, children_with}
use Rattle.tk_journal.specs.declared.object.Scheduled.{Scheduled}
use Rattle.tk_journal.specs.History.{children_from, children_in}

abbrev pub child_of : ℕ → ℕ → Option Outcome → Child
child_of task index outcome = record { task = task; index = index; outcome = outcome }

-- each child as a function makes it of what it was

from_moved : (g : Child → Child) (f h : ℕ → Option Outcome) (task index : ℕ) (bindings : List Binding) → ((i : ℕ) → index ≤ i → i < index + length bindings → child_of task i (h i) ≡ g (child_of task i (f i)))
    → children_from h task index bindings ≡ map g (children_from f task index bindings)
from_moved g f h task index [] moved = refl
from_moved g f h task index (binding ∷ bindings) moved =
    ap₂ (λ (c : Child) (rest : List Child). c ∷ rest) (moved index (omega arith) (omega arith))
    (from_moved g f h task (suc index) bindings (λ i low high. moved i (omega arith) (omega arith)))

pub children_moved : (g : Child → Child) (f h : ℕ → ℕ → Option Outcome) (scheduled : List Scheduled)
    → ((part : Scheduled) → Contains scheduled part → (index : ℕ) → index < length part.bindings → child_of part.task index (h part.task index) ≡ g (child_of part.task index (f part.task index)))
    → children_in h scheduled ≡ map g (children_in f scheduled)
children_moved g f h [] moved = refl
children_moved g f h (s ∷ ss) moved =
    ap₂ (λ (xs ys : List Child). xs ++ ys)
    (from_moved g (f s.task) (h s.task) s.task 0 s.bindings (λ i low high. moved s (Contains-append_left (s ∷ []) ss s (0, omega arith, refl)) i (omega arith)))
    (children_moved g f h ss (λ part has. moved part (Contains-append_right (s ∷ []) ss part has)))
    ∙ sym (map-append g (children_from (f s.task) s.task 0 s.bindings) (children_in f ss))

pub children_same : (f h : ℕ → ℕ → Option Outcome) (scheduled : List Scheduled)
    → ((part : Scheduled) → Contains scheduled part → (index : ℕ) → index < length part.bindings → f part.task index ≡ h part.task index)
    → children_in f scheduled ≡ children_in h scheduled
children_same f h scheduled same =
    sym (children_moved (λ (c : Child). c) f h scheduled (λ part has index below. ap (child_of part.task index) (sym (same part has index below))) ∙ map-id (children_in f scheduled))

-- each child has its outcome

abbrev pub HasOutcome : (ℕ → ℕ → Option Outcome) → Child → Type 0
HasOutcome f child = child.outcome ≡ f child.task child.index

from_outcome : (f : ℕ → ℕ → Option Outcome) (task index : ℕ) (bindings : List Binding) → All (HasOutcome f) (children_from (f task) task index bindings)
from_outcome f task index [] = All-nil (HasOutcome f)
from_outcome f task index (binding ∷ bindings) = All-cons (HasOutcome f) (child_of task index (f task index)) _ refl (from_outcome f task (suc index) bindings)

pub children_outcome : (f : ℕ → ℕ → Option Outcome) (scheduled : List Scheduled) → All (HasOutcome f) (children_in f scheduled)
children_outcome f [] = All-nil (HasOutcome f)
children_outcome f (s ∷ ss) = All-append (HasOutcome f) (children_from (f s.task) s.task 0 s.bindings) (children_in f ss) (from_outcome f s.task 0 s.bindings) (children_outcome f ss)

-- each child is of a scheduled task

pub record IsOf (scheduled : List Scheduled) (child : Child) : Type 0 where
  pub part : Scheduled
  pub has : Contains scheduled part
  pub of_task : part.task ≡ child.task
  pub below : child.index < length part.bindings

abbrev IsBelow : ℕ → ℕ → Child → Type 0
IsBelow task end child = (child.task ≡ task) × (child.index < end)

from_below : (f : ℕ → Option Outcome) (task index end : ℕ) (bindings : List Binding) → index + length bindings ≤ end → All (IsBelow task end) (children_from f task index bindings)
from_below f task index end [] long = All-nil (IsBelow task end)
from_below f task index end (binding ∷ bindings) long =
    All-cons (IsBelow task end) (child_of task index (f index)) _ (refl, omega arith) (from_below f task (suc index) end bindings (omega arith))

pub children_of_parts : (f : ℕ → ℕ → Option Outcome) (scheduled : List Scheduled) → All (IsOf scheduled) (children_in f scheduled)
children_of_parts f [] = All-nil (IsOf [])
children_of_parts f (s ∷ ss) =
    All-append (IsOf (s ∷ ss)) (children_from (f s.task) s.task 0 s.bindings) (children_in f ss)
    (All-weaker (IsBelow s.task (length s.bindings)) (IsOf (s ∷ ss))
    (λ child is. record { part = s; has = Contains-append_left (s ∷ []) ss s (0, omega arith, refl); of_task = sym is.0; below = is.1 })
    (children_from (f s.task) s.task 0 s.bindings) (from_below (f s.task) s.task 0 (length s.bindings) s.bindings (omega arith)))
    (All-weaker (IsOf ss) (IsOf (s ∷ ss))
    (λ child is. record { part = is.part; has = Contains-append_right (s ∷ []) ss is.part is.has; of_task = is.of_task; below = is.below })
    (children_in f ss) (children_of_parts f ss))

-- the children of a task that has none so far

pub none_of : (task : ℕ) (children : List Child) → All (λ (c : Child). c.task ≢ task) children → children_at children task ≡ []
none_of task [] each = refl
none_of task (c ∷ cs) each = rw (ne_eqb c.task task (All-head (λ (x : Child). x.task ≢ task) c cs each)) (none_of task cs (All-tail (λ (x : Child). x.task ≢ task) c cs each))

from_range : (o : ℕ → Option Outcome) (task first : ℕ) (bindings : List Binding) → children_from o task first bindings ≡ map (λ (i : ℕ). child_of task i (o i)) (range_with_len first (length bindings))
from_range o task first [] = refl
from_range o task first (binding ∷ bindings) =
    let next : suc first ≡ first + 1 = omega arith in
    ap (λ (rest : List Child). child_of task first (o first) ∷ rest)
    (from_range o task (suc first) bindings ∙ ap (λ (n : ℕ). map (λ (i : ℕ). child_of task i (o i)) (range_with_len n (length bindings))) next)

pub children_range : (o : ℕ → Option Outcome) (task : ℕ) (bindings : List Binding) → children_from o task 0 bindings ≡ map (λ (i : ℕ). child_of task i (o i)) (range_with_len 0 (length bindings))
children_range o task bindings = from_range o task 0 bindings

pub new_children : (o : ℕ → Option Outcome) (task : ℕ) (bindings : List Binding) → children_from o task 0 bindings ≡ children_with task (map o (range_with_len 0 (length bindings)))
new_children o task bindings = from_range o task 0 bindings ∙ (fill_by_all (child_at task outcomes) made n (child_of 0 0 None) long each ∙ ap (λ (k : ℕ). map (child_at task outcomes) (range_with_len 0 k)) (sym many))
  where
    n : ℕ
    n = length bindings

    outcomes : List (Option Outcome)
    outcomes = map o (range_with_len 0 n)

    made : List Child
    made = map (λ (i : ℕ). child_of task i (o i)) (range_with_len 0 n)

    many : length outcomes ≡ n
    many = length-map-range_with_len o 0 n

    long : length made ≡ n
    long = length-map-range_with_len (λ (i : ℕ). child_of task i (o i)) 0 n

    each : (k : ℕ) → k < n → get_or made k (child_of 0 0 None) ≡ child_at task outcomes k
    each k below =
        let here : 0 + k ≡ k = omega arith in
        get_or-map-range_with_len (λ (i : ℕ). child_of task i (o i)) 0 n k k (child_of 0 0 None) below here
        ∙ ap (child_of task k) (sym (get_or-map-range_with_len o 0 n k k None below here))

-- A failure is found from the child as from its task.
use Rattle.std.proofs.Common.{◌≡◌, ℕ, zero, suc, ◌+◌, ◌<◌, Bool, true, false, ◌&&◌, ◌||◌, not, cond, List, [], ◌∷◌, refl, sym, ap, ◌∙◌, zero-add, arith}
use Rattle.std.specs.Prelude.{nat_eq, slice_get}
use Rattle.std.specs.List.{list_any, enumerate_from}
use Rattle.std.specs.Option.{option_map_or}
use Rattle.std.proofs.lemmas.Bool.{ne_eqb, eq-eqb}
use Rattle.tk_types.specs.declared.task.PipelineTask.{PipelineTask}
use Rattle.tk_types.specs.declared.run.Facts.{Facts}
use Rattle.tk_types.specs.declared.run.Child.{Child}
use Rattle.tk_verdict.specs.Condition.{has_failure}
use Rattle.tk_verdict.specs.Facts.{all_tasks, children_at, has_ended, is_failure}
use Rattle.tk_verdict.specs.Failures.{has_failure_among}

and-off : (b r : Bool) → (b && false || r) ≡ r
and-off true r = refl
and-off false r = refl

any_none : {X : Type 0} (test : X → Bool) (xs : List X) → list_any (λ x. test x && false) xs ≡ false
any_none test [] = refl
any_none test (x ∷ xs) = and-off (test x) (list_any (λ y. test y && false) xs) ∙ any_none test xs

-- a disjunction is told apart
four : (a b c d : Bool) → (a || b || (c || d)) ≡ (a || c || (b || d))
four true b c d = refl
four false true true d = refl
four false true false d = refl
four false false c d = refl

any_or : {X : Type 0} (f g : X → Bool) (xs : List X) → list_any (λ x. f x || g x) xs ≡ (list_any f xs || list_any g xs)
any_or f g [] = refl
any_or f g (x ∷ xs) = ap (λ b. f x || g x || b) (any_or f g xs) ∙ four (f x) (g x) (list_any f xs) (list_any g xs)

and-on : (b : Bool) → (b && true || false) ≡ b
and-on true = refl
and-on false = refl

-- a place before all of them is none of them
any_past : {X : Type 0} (test : X → Bool) (n k : ℕ) (xs : List X) → k < n → list_any (λ (e : ℕ × X). test e.1 && nat_eq k e.0) (enumerate_from n xs) ≡ false
any_past test n k [] lt = refl
any_past {X} test n k (x ∷ xs) lt =
    ap (λ b. test x && b || list_any (λ (e : ℕ × X). test e.1 && nat_eq k e.0) (enumerate_from (n + 1) xs)) (ne_eqb k n (λ e. absurd (omega arith)))
    ∙ (and-off (test x) (list_any (λ (e : ℕ × X). test e.1 && nat_eq k e.0) (enumerate_from (n + 1) xs)) ∙ any_past test (n + 1) k xs (omega arith))

-- some element passes at one place: the element there passes
any_at : {X : Type 0} (test : X → Bool) (n j k : ℕ) (xs : List X) → k ≡ n + j → list_any (λ (e : ℕ × X). test e.1 && nat_eq k e.0) (enumerate_from n xs) ≡ option_map_or test (slice_get xs j) false
any_at test n j k [] is = refl
any_at {X} test n zero k (x ∷ xs) is =
    ap (λ b. test x && b || list_any (λ (e : ℕ × X). test e.1 && nat_eq k e.0) (enumerate_from (n + 1) xs)) (eq-eqb k n (omega arith))
    ∙ (ap (λ b. test x && true || b) (any_past test (n + 1) k xs (omega arith)) ∙ and-on (test x))
any_at {X} test n (suc j) k (x ∷ xs) is =
    ap (λ b. test x && b || list_any (λ (e : ℕ × X). test e.1 && nat_eq k e.0) (enumerate_from (n + 1) xs)) (ne_eqb k n (λ e. absurd (omega arith)))
    ∙ (and-off (test x) (list_any (λ (e : ℕ × X). test e.1 && nat_eq k e.0) (enumerate_from (n + 1) xs)) ∙ any_at test (n + 1) j k xs (omega arith))

picked : (b : Bool) (c : Child) (cs : List Child) → list_any (has_ended is_failure) (cond b (c ∷ cs) cs) ≡ cond b (has_ended is_failure c || list_any (has_ended is_failure) cs) (list_any (has_ended is_failure) cs)
picked true c cs = refl
picked false c cs = refl

split : (ignores own fails others : Bool) → (not ignores && cond own (fails || others) others) ≡ (fails && not ignores && own || not ignores && others)
split true own true others = refl
split true own false others = refl
split false true true others = refl
split false true false others = refl
split false false true others = refl
split false false false others = refl

-- some task has a child that failed and that it doesn't ignore: some child is one
failures : (tasks : List PipelineTask) (children : List Child)
    → list_any (λ (e : ℕ × PipelineTask). not e.1.ignore_failure && list_any (has_ended is_failure) (children_at children e.0)) (enumerate_from 0 tasks)
    ≡ list_any (has_failure_among tasks) children
failures tasks [] = any_none (λ (e : ℕ × PipelineTask). not e.1.ignore_failure) (enumerate_from 0 tasks)
failures tasks (c ∷ children) =
    let fails = has_ended is_failure in
    let own : ℕ × PipelineTask → Bool = λ e. fails c && not e.1.ignore_failure && nat_eq c.task e.0 in
    let others : ℕ × PipelineTask → Bool = λ e. not e.1.ignore_failure && list_any fails (children_at children e.0) in
    ap (λ (test : ℕ × PipelineTask → Bool). list_any test (enumerate_from 0 tasks))
    (λ i e. (ap (λ b. not e.1.ignore_failure && b) (picked (nat_eq c.task e.0) c (children_at children e.0))
    ∙ split e.1.ignore_failure (nat_eq c.task e.0) (fails c) (list_any fails (children_at children e.0))) i)
    ∙ (any_or own others (enumerate_from 0 tasks)
    ∙ (ap (λ b. b || list_any others (enumerate_from 0 tasks)) (any_at (λ (t : PipelineTask). fails c && not t.ignore_failure) 0 c.task c.task tasks (sym (zero-add c.task)))
    ∙ ap (λ b. has_failure_among tasks c || b) (failures tasks children)))

-- the same of a run
pub failures_of : (facts : Facts) → list_any (has_failure_among (all_tasks facts)) facts.children ≡ has_failure facts
failures_of facts = sym (failures (all_tasks facts) facts.children)

-- Available results: look-ups under a map, tasks that aren't good, and one task after the other.
use Rattle.std.proofs.Common.{◌≡◌, ℕ, ◌+◌, ◌<◌, ◌≤◌, Bool, true, false, cond, List, [], ◌∷◌, ◌++◌, length, map, take, get_or, find, Option, Some, None, option_map, bytes_eq, refl, sym, ap, ◌∙◌, arith, append_assoc, append-nil}
use Rattle.std.specs.List.{filter_map, flat_map, enumerate_from, cons_option}
use Rattle.std.proofs.lemmas.List.{length-take-le, take_all, take_more}
use Rattle.std.proofs.lemmas.Grind.{flat_map-append}
use Rattle.tk_types.specs.declared.value.Param.{Param}
use Rattle.tk_types.specs.declared.task.PipelineTask.{PipelineTask}
use Rattle.tk_types.specs.declared.run.Facts.{Facts}
use Rattle.tk_types.specs.declared.value.Value.{Value}
use Rattle.tk_types.specs.declared.value.Value.TheVariants.{Arr}
use Rattle.tk_types.specs.Value.{value_named}
use Rattle.std.specs.Prelude.{if◌then◌else◌, is_some, option_and_then}
use Rattle.tk_types.specs.Lists.{all_some}
use Rattle.tk_types.specs.declared.run.Child.{Child}
use Rattle.tk_bind.specs.Substitute.{as_text}
use Rattle.tk_bind.specs.declared.env.Given.{Given}
use Rattle.tk_verdict.specs.Facts.{all_ended, children_of, is_good}
use Rattle.tk_verdict.specs.GivenResults.{given}
use Rattle.tk_verdict.specs.Available.{available, available_of, by_index, candidates, emitted, emitted_texts}

found-cond : {X Y : Type 0} (f : X → Y) (b : Bool) (x : X) (rest : Option Y) (found : Option X) → rest ≡ option_map f found → cond b (Some (f x)) rest ≡ option_map f (cond b (Some x) found)
found-cond f true x rest found e = refl
found-cond f false x rest found e = e

find-map : {X Y : Type 0} (f : X → Y) (test : Y → Bool) (xs : List X) → find test (map f xs) ≡ option_map f (find (λ x. test (f x)) xs)
find-map f test [] = refl
find-map f test (x ∷ xs) = found-cond f (test (f x)) x (find test (map f xs)) (find (λ y. test (f y)) xs) (find-map f test xs)

-- the value of the first that has the name
pub value_found : {X : Type 0} (param : X → Param) (name : List ℕ) (xs : List X) (found : Option X) → found ≡ find (λ x. bytes_eq (param x).name name) xs → value_named name (map param xs) ≡ option_map (λ (p : Param). p.value) (option_map param found)
value_found param name xs found is =
    ap (option_map (λ (p : Param). p.value)) (find-map param (λ (p : Param). bytes_eq p.name name) xs ∙ ap (option_map param) (sym is))

-- what is copied of the first that has the name
pub first_given : {X : Type 0} (param : X → Param) (xs : List X) (x : X) (task name t n m : List ℕ) (v : Value) → Some x ≡ find (λ x. bytes_eq (param x).name m) xs → m ≡ name → t ≡ task → n ≡ name → v ≡ (param x).value
    → Some (given t n v) ≡ option_map (given task name) (value_named name (map param xs))
first_given param xs x task name t n m v is asked t_is n_is v_is =
    (λ i. Some (given (t_is i) (n_is i) (v_is i))) ∙ ap (option_map (given task name)) (sym (value_found param name xs (Some x) (is ∙ ap (λ k. find (λ x. bytes_eq (param x).name k) xs) asked)))

pub none_given : {X : Type 0} (param : X → Param) (xs : List X) (task name m : List ℕ) → None ≡ find (λ x. bytes_eq (param x).name m) xs → m ≡ name → None ≡ option_map (given task name) (value_named name (map param xs))
none_given param xs task name m is asked = ap (option_map (given task name)) (sym (value_found param name xs None (is ∙ ap (λ k. find (λ x. bytes_eq (param x).name k) xs) asked)))

cons-append : {Y : Type 0} (o : Option Y) (xs ys : List Y) → cons_option o (xs ++ ys) ≡ cons_option o xs ++ ys
cons-append None xs ys = refl
cons-append (Some y) xs ys = refl

filter_map-append : {X Y : Type 0} (f : X → Option Y) (xs ys : List X) → filter_map f (xs ++ ys) ≡ filter_map f xs ++ filter_map f ys
filter_map-append f [] ys = refl
filter_map-append f (x ∷ xs) ys = ap (cons_option (f x)) (filter_map-append f xs ys) ∙ cons-append (f x) (filter_map f xs) (filter_map f ys)

-- a turn of a loop that adds what there is of each
pub filter_map_more : {X Y : Type 0} (f : X → Option Y) (xs : List X) (i : ℕ) (x : X) (start made : List Y) (o : Option Y) → i < length xs → x ≡ get_or xs i x → o ≡ f x → made ≡ start ++ filter_map f (take i xs) → made ++ cons_option o [] ≡ start ++ filter_map f (take (i + 1) xs)
filter_map_more f xs i x start made o lt is gives before =
    let more : take (i + 1) xs ≡ take i xs ++ x ∷ [] = take_more xs i x lt ∙ ap (λ y. take i xs ++ y ∷ []) (sym is) in
    let so_far = filter_map f (take i xs) in
    let whole : filter_map f (take (i + 1) xs) ≡ so_far ++ cons_option o [] = ap (filter_map f) more ∙ (filter_map-append f (take i xs) (x ∷ []) ∙ ap (λ p. so_far ++ cons_option p []) (sym gives)) in
    ap (λ m. m ++ cons_option o []) before ∙ (append_assoc start so_far (cons_option o []) ∙ ap (λ ys. start ++ ys) (sym whole))

filter_map_none : {X Y : Type 0} (f : X → Option Y) (xs : List X) → ((x : X) → f x ≡ None) → filter_map f xs ≡ []
filter_map_none f [] none = refl
filter_map_none f (x ∷ xs) none = ap (λ o. cons_option o (filter_map f xs)) (none x) ∙ filter_map_none f xs none

-- of a task whose children aren't all good nothing is available
pub none_available : (facts : Facts) (place : ℕ) (task : PipelineTask) (made : List Given) → false ≡ all_ended (is_good task) (children_of facts place) → made ≡ made ++ available_of facts (place, task)
none_available facts place task made bad =
    let given = λ (p : Param). option_map (λ value. record { task = task.name; name = p.name; value = value }) (available task (children_of facts place) p.name) in
    let none : (p : Param) → given p ≡ None = λ p. ap (λ (b : Bool). option_map (λ value. record { task = task.name; name = p.name; value = value }) (if b then (if is_some task.matrix then option_map Arr (emitted_texts p.name (children_of facts place)) else value_named p.name (flat_map emitted (by_index (children_of facts place)))) else None)) (sym bad) in
    sym (append-nil made) ∙ ap (λ ys. made ++ ys) (sym (filter_map_none given (candidates task (by_index (children_of facts place))) none))

enumerate_from-push : {X : Type 0} (n : ℕ) (xs : List X) (x : X) → enumerate_from n (xs ++ x ∷ []) ≡ enumerate_from n xs ++ (n + length xs, x) ∷ []
enumerate_from-push n [] x = let e : n ≡ n + 0 = omega arith in ap (λ m. (m, x) ∷ []) e
enumerate_from-push n (y ∷ xs) x =
    let e : n + 1 + length xs ≡ n + length (y ∷ xs) = omega arith in
    ap (λ ys. (n, y) ∷ ys) (enumerate_from-push (n + 1) xs x ∙ ap (λ m. enumerate_from (n + 1) xs ++ (m, x) ∷ []) e)

enumerate_from-append : {X : Type 0} (n : ℕ) (xs ys : List X) → enumerate_from n (xs ++ ys) ≡ enumerate_from n xs ++ enumerate_from (n + length xs) ys
enumerate_from-append n [] ys = let e : n ≡ n + 0 = omega arith in ap (λ m. enumerate_from m ys) e
enumerate_from-append n (x ∷ xs) ys =
    let e : n + 1 + length xs ≡ n + length (x ∷ xs) = omega arith in
    ap (λ zs. (n, x) ∷ zs) (enumerate_from-append (n + 1) xs ys ∙ ap (λ m. enumerate_from (n + 1) xs ++ enumerate_from m ys) e)

-- one task more
pub tasks_more : {X Y : Type 0} (f : ℕ × X → List Y) (tasks : List X) (first i : ℕ) (task : X) (start made new : List Y) → i < length tasks → task ≡ get_or tasks i task
    → made ≡ start ++ flat_map f (enumerate_from first (take i tasks)) → new ≡ made ++ f (first + i, task) → new ≡ start ++ flat_map f (enumerate_from first (take (i + 1) tasks))
tasks_more f tasks first i task start made new lt is before step =
    let more : take (i + 1) tasks ≡ take i tasks ++ task ∷ [] = take_more tasks i task lt ∙ ap (λ x. take i tasks ++ x ∷ []) (sym is) in
    let long : length (take i tasks) ≡ i = length-take-le i tasks (omega (arith, lt)) in
    let so_far = flat_map f (enumerate_from first (take i tasks)) in
    let whole : flat_map f (enumerate_from first (take (i + 1) tasks)) ≡ so_far ++ f (first + i, task) =
    ap (λ ts. flat_map f (enumerate_from first ts)) more
    ∙ (ap (flat_map f) (enumerate_from-push first (take i tasks) task ∙ ap (λ n. enumerate_from first (take i tasks) ++ (first + n, task) ∷ []) long)
    ∙ (flat_map-append f (enumerate_from first (take i tasks)) ((first + i, task) ∷ []) ∙ ap (λ ys. so_far ++ ys) (append-nil (f (first + i, task))))) in
    step ∙ (ap (λ m. m ++ f (first + i, task)) before ∙ (append_assoc start so_far (f (first + i, task)) ∙ ap (λ ys. start ++ ys) (sym whole)))

-- the tasks of both parts
pub both_parts : {X Y : Type 0} (f : ℕ × X → List Y) (tasks finally : List X) (first : ℕ) (made half all : List Y) → made ≡ [] → first ≡ length tasks → half ≡ made ++ flat_map f (enumerate_from 0 tasks) → all ≡ half ++ flat_map f (enumerate_from first finally)
    → all ≡ flat_map f (enumerate_from 0 (tasks ++ finally))
both_parts f tasks finally first made half all none at_length front back =
    let at : first ≡ 0 + length tasks = omega (arith, at_length) in
    back
    ∙ (ap (λ m. m ++ flat_map f (enumerate_from first finally)) (front ∙ ap (λ m. m ++ flat_map f (enumerate_from 0 tasks)) none)
    ∙ (ap (λ n. flat_map f (enumerate_from 0 tasks) ++ flat_map f (enumerate_from n finally)) at
    ∙ (sym (flat_map-append f (enumerate_from 0 tasks) (enumerate_from (0 + length tasks) finally)) ∙ ap (flat_map f) (sym (enumerate_from-append 0 tasks finally)))))

pub filter_map-map : {X Y Z : Type 0} (f : Y → Option Z) (g : X → Y) (xs : List X) → filter_map f (map g xs) ≡ filter_map (λ x. f (g x)) xs
filter_map-map f g [] = refl
filter_map-map f g (x ∷ xs) = ap (cons_option (f (g x))) (filter_map-map f g xs)

pub map-map : {X Y Z : Type 0} (f : Y → Z) (g : X → Y) (xs : List X) → map f (map g xs) ≡ map (λ x. f (g x)) xs
map-map f g [] = refl
map-map f g (x ∷ xs) = ap (λ ys. f (g x) ∷ ys) (map-map f g xs)

-- behind such a loop
filter_map_all : {X Y : Type 0} (f : X → Option Y) (xs : List X) (i : ℕ) (start made : List Y) → length xs ≤ i → made ≡ start ++ filter_map f (take i xs) → made ≡ start ++ filter_map f xs
filter_map_all f xs i start made past before = before ∙ ap (λ ys. start ++ filter_map f ys) (take_all i xs past)

-- behind the loop over all results of a task without a matrix
pub all_first : {X : Type 0} (param : X → Param) (task : List ℕ) (items : List X) (results : List Param) (i : ℕ) (start made : List Given) → length items ≤ i → map param items ≡ results
    → made ≡ start ++ filter_map (λ r. option_map (given task (param r).name) (value_named (param r).name (map param items))) (take i items)
    → made ≡ start ++ filter_map (λ (p : Param). option_map (given task p.name) (value_named p.name results)) results
all_first param task items results i start made past same before =
    filter_map_all (λ r. option_map (given task (param r).name) (value_named (param r).name (map param items))) items i start made past before
    ∙ (ap (λ ys. start ++ ys) (sym (filter_map-map (λ (p : Param). option_map (given task p.name) (value_named p.name (map param items))) param items))
    ∙ ap (λ (rs : List Param). start ++ filter_map (λ (p : Param). option_map (given task p.name) (value_named p.name rs)) rs) same)

-- behind the loop over the first child's results of a task with a matrix
pub all_lists : (task : List ℕ) (children : List Child) (indexes : List (List Param)) (params whole : List Param) (i : ℕ) (start made : List Given) → length params ≤ i → params ≡ whole → indexes ≡ map emitted children
    → made ≡ start ++ filter_map (λ (p : Param). option_map (given task p.name) (option_map Arr (all_some (map (λ ps. option_and_then as_text (value_named p.name ps)) indexes)))) (take i params)
    → made ≡ start ++ filter_map (λ (p : Param). option_map (given task p.name) (option_map Arr (all_some (map (λ c. option_and_then as_text (value_named p.name (emitted c))) children)))) whole
all_lists task children indexes params whole i start made past same each before =
    let by = λ (rs : List (List Param)). λ (p : Param). option_map (given task p.name) (option_map Arr (all_some (map (λ ps. option_and_then as_text (value_named p.name ps)) rs))) in
    filter_map_all (by indexes) params i start made past before
    ∙ ((λ j. start ++ filter_map (by (each j)) (same j))
    ∙ (λ j. start ++ filter_map (λ (p : Param). option_map (given task p.name) (option_map Arr (all_some (map-map (λ ps. option_and_then as_text (value_named p.name ps)) emitted children j)))) whole))

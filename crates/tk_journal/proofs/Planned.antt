-- An attempt of a TaskRun whose parameters fit its body has a plan: which texts have values depends on the keys of the words alone.
use Rattle.std.proofs.Common.{zero, ◌+◌, arith, ◌≡◌, ℕ, suc, length, List, [], ◌∷◌, ◌++◌, map, Bool, true, false, ◌&&◌, Option, Some, None, Result, Ok, Err, refl, sym, ap, ap₂, ◌∙◌, subst}
use Rattle.std.specs.Prelude.{slice_get, is_ok, is_some, find, flat_map, bytes_eq, option_map, option_and_then, option_to_list, codes, if◌then◌else◌}
use Rattle.std.specs.List.{list_all, enumerate_from}
use Rattle.std.proofs.lemmas.List.{length-map}
use Rattle.std.proofs.lemmas.List.FromFn.{length-enumerate_from}
use Rattle.std.proofs.lemmas.Option.{same_Some}
use Rattle.std.specs.Result.{result_ok}
use Rattle.std.proofs.lemmas.List.Folds.{list_all-append, list_all-map}
use Rattle.tk_types.specs.declared.task.Space.{Space}
use Rattle.tk_types.specs.declared.task.SpaceSpec.{SpaceSpec}
use Rattle.tk_types.specs.declared.task.Step.{Step}
use Rattle.tk_types.specs.declared.task.TaskBody.{TaskBody}
use Rattle.tk_types.specs.declared.value.Pair.{Pair}
use Rattle.tk_types.specs.declared.value.Param.{Param}
use Rattle.tk_types.specs.declared.value.ResultSpec.{ResultSpec}
use Rattle.tk_types.specs.Lists.{all_ok, all_some}
use Rattle.tk_types.specs.Value.{text_at}
use Rattle.tk_bind.specs.declared.env.Env.{Env}
use Rattle.tk_bind.specs.Alike.{IsAlike}
use Rattle.tk_bind.proofs.AlikeSteps.{step_alike}
use Rattle.tk_bind.specs.declared.refusal.BindError.{BindError}
use Rattle.tk_bind.specs.Bind.{bound_params}
use Rattle.tk_bind.specs.Fits.{fits, step_env, step_elements, step_single_texts, step_has_values, result_words, space_words}
use Rattle.tk_bind.specs.Substitute.{on_ok, substituted, element, substituted_list, substituted_pair}
use Rattle.tk_edge.specs.declared.order.Order.{Order}
use Rattle.tk_journal.specs.declared.object.Plan.{Plan}
use Rattle.tk_journal.specs.declared.object.TaskRunState.{TaskRunState}
use Rattle.tk_space.specs.Space.{words_of_space}
use Rattle.tk_journal.specs.Plan.{order_of, pod_of_attempt, IsPlan, plan_env, plan_with, plan_words, filled, maybe_in, Filled, result_word, folder_of}

-- results

is_ok-on_ok : {T U E : Type 0} (f : T → U) (r : Result T E) → is_ok (on_ok f r) ≡ is_ok r
is_ok-on_ok f (Ok x) = refl
is_ok-on_ok f (Err e) = refl

is_ok-cons : {T E : Type 0} (x : T) (r : Result (List T) E) → is_ok (elim r [ Ok xs ↦ Ok (x ∷ xs) | Err e ↦ Err e ]) ≡ is_ok r
is_ok-cons x (Ok xs) = refl
is_ok-cons x (Err e) = refl

is_ok-all_ok : {T E : Type 0} (rs : List (Result T E)) → is_ok (all_ok rs) ≡ list_all is_ok rs
is_ok-all_ok [] = refl
is_ok-all_ok (Ok x ∷ rs) = is_ok-cons x (all_ok rs) ∙ is_ok-all_ok rs
is_ok-all_ok (Err e ∷ rs) = refl

-- all of some things are there where each is
is_ok-all : {X T E : Type 0} (f : X → Result T E) (xs : List X) → is_ok (all_ok (map f xs)) ≡ list_all (λ x. is_ok (f x)) xs
is_ok-all f xs = is_ok-all_ok (map f xs) ∙ list_all-map is_ok f xs

there : {T E : Type 0} (r : Result T E) → is_ok r ≡ true → (x : T) × (result_ok r ≡ Some x)
there (Ok x) is = (x, refl)
there (Err e) is = cc

all_same : {X : Type 0} (p q : X → Bool) → ((x : X) → p x ≡ q x) → (xs : List X) → list_all p xs ≡ list_all q xs
all_same p q same [] = refl
all_same p q same (x ∷ xs) = ap₂ (λ a b. a && b) (same x) (all_same p q same xs)

both : (a b : Bool) → (a && b) ≡ true → (a ≡ true) × (b ≡ true)
both true b is = (refl, is)
both false b is = cc

list_has : (env : Env) (texts : List (List ℕ)) → is_ok (substituted_list env texts) ≡ list_all (λ text. is_ok (element env text)) texts
list_has env texts = is_ok-on_ok (flat_map (λ (ts : List (List ℕ)). ts)) (all_ok (map (element env) texts)) ∙ is_ok-all (element env) texts

-- the words

abbrev keys : List Pair → List (List ℕ)
keys words = map (λ (p : Pair). p.key) words

cons_keys : (p q : Pair) (ps qs : List Pair) → keys (p ∷ ps) ≡ keys (q ∷ qs) → (p.key ≡ q.key) × (keys ps ≡ keys qs)
cons_keys p q ps qs same = (cc, cc)

found_by : (key : List ℕ) (hit : Bool) (p q : Pair) (x y : Option Pair) → is_some (option_map (λ (w : Pair). w.value) x) ≡ is_some (option_map (λ (w : Pair). w.value) y)
    → is_some (option_map (λ (w : Pair). w.value) (if hit then Some p else x)) ≡ is_some (option_map (λ (w : Pair). w.value) (if hit then Some q else y))
found_by key true p q x y same = refl
found_by key false p q x y same = same

same_keys : (ps qs : List Pair) → keys ps ≡ keys qs → (key : List ℕ) → is_some (text_at key ps) ≡ is_some (text_at key qs)
same_keys [] [] same key = refl
same_keys [] (q ∷ qs) same key = cc
same_keys (p ∷ ps) [] same key = cc
same_keys (p ∷ ps) (q ∷ qs) same key =
    let parts = cons_keys p q ps qs same in
    subst (λ (k : List ℕ). is_some (text_at key (p ∷ ps)) ≡ is_some (option_map (λ (w : Pair). w.value) (if bytes_eq k key then Some q else find (λ (w : Pair). bytes_eq w.key key) qs))) parts.0
    (found_by key (bytes_eq p.key key) p q (find (λ (w : Pair). bytes_eq w.key key) ps) (find (λ (w : Pair). bytes_eq w.key key) qs) (same_keys ps qs parts.1 key))

spaces_keys : (root pod : List ℕ) (bound : List Space) (spaces : List SpaceSpec) → keys (flat_map (words_of_space root pod bound) spaces) ≡ keys (space_words spaces)
spaces_keys root pod bound [] = refl
spaces_keys root pod bound (s ∷ ss) =
    ap (λ (ks : List (List ℕ)). (codes "workspaces." ++ s.name ++ codes ".path") ∷ (codes "workspaces." ++ s.name ++ codes ".bound") ∷ (codes "workspaces." ++ s.name ++ codes ".claim") ∷ ks) (spaces_keys root pod bound ss)

later_keys : (root pod folder : List ℕ) (bound : List Space) (spaces : List SpaceSpec) (results : List ResultSpec) → keys (map (result_word folder) results ++ flat_map (words_of_space root pod bound) spaces) ≡ keys (result_words results ++ space_words spaces)
later_keys root pod folder bound spaces [] = spaces_keys root pod bound spaces
later_keys root pod folder bound spaces (r ∷ rs) = ap (λ (ks : List (List ℕ)). (codes "results." ++ r.name ++ codes ".path") ∷ ks) (later_keys root pod folder bound spaces rs)

word_keys : (task_run : TaskRunState) (attempt : ℕ) (bound : List Param) → keys (plan_words task_run attempt) ≡ keys (step_env task_run.spec.body (bound ++ task_run.binding.params)).words
word_keys task_run attempt bound =
    ap (λ (ks : List (List ℕ)). codes "context.pipelineRun.name" ∷ codes "context.pipeline.name" ∷ codes "context.pipelineTask.retries" ∷ codes "context.taskRun.name" ∷ codes "context.task.name" ∷ codes "context.task.retry-count" ∷ ks)
    (later_keys task_run.root (pod_of_attempt task_run attempt) (folder_of task_run attempt) task_run.spec.body.bound task_run.spec.body.spec.spaces task_run.spec.body.spec.results)

plan_alike : (task_run : TaskRunState) (attempt : ℕ) (bound : List Param) → IsAlike (step_env task_run.spec.body (bound ++ task_run.binding.params)) (plan_env task_run attempt bound)
plan_alike task_run attempt bound = record {
  params = refl;
  results = refl;
  words = same_keys (step_env task_run.spec.body (bound ++ task_run.binding.params)).words (plan_words task_run attempt) (sym (word_keys task_run attempt bound));
}

-- steps that are substituted

pairs_there : (env : Env) (pairs : List Pair) → list_all (λ text. is_ok (substituted env text)) (map (λ (p : Pair). p.value) pairs) ≡ true → is_ok (all_ok (map (substituted_pair env) pairs)) ≡ true
pairs_there env pairs has =
    is_ok-all (substituted_pair env) pairs
    ∙ (all_same (λ p. is_ok (substituted_pair env p)) (λ (p : Pair). is_ok (substituted env p.value)) (λ p. is_ok-on_ok (λ text. record p { value = text }) (substituted env p.value)) pairs
    ∙ (sym (list_all-map (λ text. is_ok (substituted env text)) (λ (p : Pair). p.value) pairs) ∙ has))

maybe_there : (env : Env) (text : Option (List ℕ)) → list_all (λ t. is_ok (substituted env t)) (option_to_list text) ≡ true → (x : Option (List ℕ)) × (maybe_in env text ≡ Some x)
maybe_there env None has = (None, refl)
maybe_there env (Some text) has = let found = there (substituted env text) (both (is_ok (substituted env text)) true has).0 in (Some found.0, ap (option_map Some) found.1)

-- five parts that are there
five : {A B C D E R : Type 0} (make : A → B → C → D → E → R) (a : Option A) (b : Option B) (c : Option C) (d : Option D) (e : Option E) (x : A) (y : B) (z : C) (u : D) (v : E) → a ≡ Some x → b ≡ Some y → c ≡ Some z → d ≡ Some u → e ≡ Some v
    → option_and_then (λ p. option_and_then (λ q. option_and_then (λ r. option_and_then (λ s. option_map (λ t. make p q r s t) e) d) c) b) a ≡ Some (make x y z u v)
five make a b c d e x y z u v ea eb ec ed ee = λ i. option_and_then (λ p. option_and_then (λ q. option_and_then (λ r. option_and_then (λ s. option_map (λ t. make p q r s t) (ee i)) (ed i)) (ec i)) (eb i)) (ea i)

abbrev made : List (List ℕ) → List (List ℕ) → Option (List ℕ) → List Pair → Option (List ℕ) → Filled
made command args script pairs dir = record { command = command; args = args; script = script; env = pairs; dir = dir }

step_filled : (env : Env) (step : Step) → step_has_values env step ≡ true → (x : Filled) × (filled env step ≡ Some x)
step_filled env step has =
    let parts = both (is_ok (substituted_list env (step_elements step))) (list_all (λ text. is_ok (substituted env text)) (step_single_texts step)) has in
    let elements = both (list_all (λ text. is_ok (element env text)) step.command) (list_all (λ text. is_ok (element env text)) step.args)
    (sym (list_all-append (λ text. is_ok (element env text)) step.command step.args) ∙ (sym (list_has env (step_elements step)) ∙ parts.0)) in
    let command = there (substituted_list env step.command) (list_has env step.command ∙ elements.0) in
    let args = there (substituted_list env step.args) (list_has env step.args ∙ elements.1) in
    let p : List ℕ → Bool = λ text. is_ok (substituted env text) in
    let front = option_to_list step.script ++ map (λ (p : Pair). p.value) step.env in
    let last = both (list_all p front) (list_all p (option_to_list step.dir)) (sym (list_all-append p front (option_to_list step.dir)) ∙ parts.1) in
    let first = both (list_all p (option_to_list step.script)) (list_all p (map (λ (p : Pair). p.value) step.env)) (sym (list_all-append p (option_to_list step.script) (map (λ (p : Pair). p.value) step.env)) ∙ last.0) in
    let script = maybe_there env step.script first.0 in
    let pairs = there (all_ok (map (substituted_pair env) step.env)) (pairs_there env step.env first.1) in
    let dir = maybe_there env step.dir last.1 in (
      made command.0 args.0 script.0 pairs.0 dir.0,
      five made (result_ok (substituted_list env step.command)) (result_ok (substituted_list env step.args)) (maybe_in env step.script) (result_ok (all_ok (map (substituted_pair env) step.env))) (maybe_in env step.dir)
          command.0 args.0 script.0 pairs.0 dir.0 command.1 args.1 script.1 pairs.1 dir.1,
    )

all_filled : (env : Env) (steps : List Step) → list_all (step_has_values env) steps ≡ true → (xs : List Filled) × (all_some (map (filled env) steps) ≡ Some xs)
all_filled env [] has = ([], refl)
all_filled env (s ∷ ss) has =
    let parts = both (step_has_values env s) (list_all (step_has_values env) ss) has in
    let one = step_filled env s parts.0 in
    let rest = all_filled env ss parts.1 in
    (one.0 ∷ rest.0, rw one.1 (rw rest.1 refl))

by_bound : (task_run : TaskRunState) (attempt : ℕ) (body : TaskBody) → task_run.spec.body ≡ body → (r : Result (List Param) BindError)
    → elim r [ Ok bound ↦ list_all (step_has_values (step_env body (bound ++ task_run.binding.params))) body.spec.steps | Err error ↦ false ] ≡ true
    → (plan : Plan) × (option_and_then (λ (bound : List Param). option_map (plan_with task_run attempt) (all_some (map (filled (plan_env task_run attempt bound)) body.spec.steps))) (result_ok r) ≡ Some plan)
by_bound task_run attempt body is (Ok bound) fit =
    let given = step_env body (bound ++ task_run.binding.params) in
    let own = plan_env task_run attempt bound in
    let alike : IsAlike given own = subst (λ (b : TaskBody). IsAlike (step_env b (bound ++ task_run.binding.params)) own) is (plan_alike task_run attempt bound) in
    let steps = all_filled own body.spec.steps (sym (all_same (step_has_values given) (step_has_values own) (step_alike given own alike) body.spec.steps) ∙ fit) in
    (plan_with task_run attempt steps.0, ap (option_map (plan_with task_run attempt)) steps.1)
by_bound task_run attempt body is (Err error) fit = cc

-- a startable TaskRun's steps can be substituted
pub planned : (task_run : TaskRunState) (attempt : ℕ) → fits task_run.spec.body task_run.binding.params ≡ true → (plan : Plan) × IsPlan task_run attempt plan
planned task_run attempt has =
    by_bound task_run attempt task_run.spec.body refl (bound_params task_run.spec.body.spec.params task_run.binding.params task_run.spec.body.outer task_run.spec.body.fallback) has

-- a plan has an order for each step

from_and_then : {A B : Type 0} (f : A → Option B) (o : Option A) (y : B) → option_and_then f o ≡ Some y → (x : A) × (f x ≡ Some y)
from_and_then f None y is = cc
from_and_then f (Some x) y is = (x, is)

from_map : {A B : Type 0} (f : A → B) (o : Option A) (y : B) → option_map f o ≡ Some y → (x : A) × (o ≡ Some x) × (f x ≡ y)
from_map f None y is = cc
from_map f (Some x) y is = (x, refl, same_Some (f x) y is)

by_rest : {X : Type 0} (x : X) (os : List (Option X)) (xs : List X) (rest : Option (List X)) → elim rest [ None ↦ None | Some ys ↦ Some (x ∷ ys) ] ≡ Some xs → ((ys : List X) → rest ≡ Some ys → length ys ≡ length os) → length xs ≡ suc (length os)
by_rest x os xs None made long = cc
by_rest x os xs (Some ys) made long = sym (ap length (same_Some (x ∷ ys) xs made)) ∙ ap suc (long ys refl)

some_length : {X : Type 0} (os : List (Option X)) (xs : List X) → all_some os ≡ Some xs → length xs ≡ length os
some_length {X} [] xs is = sym (ap length (same_Some [] xs is))
some_length {X} (None ∷ os) xs is = cc
some_length {X} (Some x ∷ os) xs is = by_rest x os xs (all_some os) is (some_length os)

pub plan_length : (task_run : TaskRunState) (attempt : ℕ) (plan : Plan) → IsPlan task_run attempt plan → length plan.orders ≡ length task_run.spec.body.spec.steps
plan_length task_run attempt plan is =
    let body = task_run.spec.body in
    let bound = from_and_then (λ (bound : List Param). option_map (plan_with task_run attempt) (all_some (map (filled (plan_env task_run attempt bound)) body.spec.steps))) (result_ok (bound_params body.spec.params task_run.binding.params body.outer body.fallback)) plan is in
    let steps = from_map (plan_with task_run attempt) (all_some (map (filled (plan_env task_run attempt bound.0)) body.spec.steps)) plan bound.1 in
    ap (λ (p : Plan). length p.orders) (sym steps.2)
    ∙ (length-map (enumerate_from 0 steps.0) (order_of (pod_of_attempt task_run attempt) (folder_of task_run attempt))
    ∙ (length-enumerate_from 0 steps.0 ∙ (some_length (map (filled (plan_env task_run attempt bound.0)) body.spec.steps) steps.0 steps.1 ∙ length-map body.spec.steps (filled (plan_env task_run attempt bound.0)))))

-- each of which names its pod and its step

orders_at : (pod folder : List ℕ) (first : ℕ) (steps : List Filled) (place : ℕ) (order : Order) → slice_get (map (order_of pod folder) (enumerate_from first steps)) place ≡ Some order → (order.pod ≡ pod) × (order.step ≡ first + place)
orders_at pod folder first [] place order is = cc
orders_at pod folder first (s ∷ ss) zero order is =
    let same : order_of pod folder (first, s) ≡ order = same_Some (order_of pod folder (first, s)) order is in
    let step : order.step ≡ first = sym (ap (λ (o : Order). o.step) same) in
    (sym (ap (λ (o : Order). o.pod) same), omega (arith, step))
orders_at pod folder first (s ∷ ss) (suc place) order is = let rest = orders_at pod folder (first + 1) ss place order is in (rest.0, omega (arith, rest.1))

pub plan_orders : (task_run : TaskRunState) (attempt : ℕ) (plan : Plan) → IsPlan task_run attempt plan → (place : ℕ) (order : Order) → slice_get plan.orders place ≡ Some order → (order.pod ≡ pod_of_attempt task_run attempt) × (order.step ≡ place)
plan_orders task_run attempt plan is place order at =
    let body = task_run.spec.body in
    let bound = from_and_then (λ (bound : List Param). option_map (plan_with task_run attempt) (all_some (map (filled (plan_env task_run attempt bound)) body.spec.steps))) (result_ok (bound_params body.spec.params task_run.binding.params body.outer body.fallback)) plan is in
    let steps = from_map (plan_with task_run attempt) (all_some (map (filled (plan_env task_run attempt bound.0)) body.spec.steps)) plan bound.1 in
    let has = orders_at (pod_of_attempt task_run attempt) (folder_of task_run attempt) 0 steps.0 place order (ap (λ (p : Plan). slice_get p.orders place) steps.2 ∙ at) in
    (has.0, omega (arith, has.1))

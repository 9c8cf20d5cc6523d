-- The parameters of a standalone TaskRun that can start fit its body.
use Rattle.std.proofs.Common.{◌≡◌, ◌≢◌, inl, inr, ℕ, Bool, true, false, cond, ◌||◌, List, [], ◌∷◌, ◌++◌, Option, Some, None, Result, Ok, Err, refl, sym, ap, ◌∙◌, subst}
use Rattle.std.specs.Prelude.{All, bytes_eq, codes, find, flat_map, is_some, option_map}
use Rattle.std.specs.List.{list_all}
use Rattle.std.specs.Option.{option_or}
use Rattle.std.proofs.lemmas.Bool.{or_cases, or_parts, or_right}
use Rattle.std.proofs.lemmas.List.{append-nil}
use Rattle.std.proofs.lemmas.List.Elements.{All-append, All-cons, All-from_recursion, All-head, All-nil, All-tail, All-weaker}
use Rattle.std.proofs.lemmas.List.Folds.{list_any-append}
use Rattle.tk_types.specs.declared.object.TaskRunObject.{TaskRunObject}
use Rattle.tk_types.specs.declared.task.SpaceSpec.{SpaceSpec}
use Rattle.tk_types.specs.declared.task.Step.{Step}
use Rattle.tk_types.specs.declared.task.TaskBody.{TaskBody}
use Rattle.tk_types.specs.declared.task.TaskSpec.{TaskSpec}
use Rattle.tk_types.specs.declared.value.Pair.{Pair}
use Rattle.tk_types.specs.declared.value.Param.{Param}
use Rattle.tk_types.specs.declared.value.ResultSpec.{ResultSpec}
use Rattle.tk_types.specs.Lists.{first_row}
use Rattle.tk_types.specs.Value.{text_at}
use Rattle.tk_names.specs.Rules.{is_param_name}
use Rattle.tk_vars.specs.Reading.{HasReading}
use Rattle.tk_vars.specs.Target.{Target, param, result, word, references_of, target_of}
use Rattle.tk_vars.proofs.TextFacts.{same_text}
use Rattle.tk_bind.specs.declared.env.Env.{Env}
use Rattle.tk_bind.specs.declared.refusal.BindError.{BindError}
use Rattle.tk_bind.specs.Fits.{context_words, fits, result_words, space_words, step_env, step_has_values, step_texts}
use Rattle.tk_types.specs.Names.{is_in}
use Rattle.tk_types.proofs.FirstFound.{bytes_eq-swap}
use Rattle.tk_bind.proofs.WordFacts.{text_at-append}
use Rattle.tk_validate.specs.Seen.{keys, task_context}
use Rattle.tk_resolve.specs.Due.{step_dues}
use Rattle.tk_resolve.specs.Misuse.{any_lacks}
use Rattle.tk_resolve.specs.Spaces.{has_unbound}
use Rattle.tk_resolve.specs.TaskRun.{body_with, first_reason, own_env}
use Rattle.tk_resolve.specs.Values.{all_values, has_mismatch, has_missing}
use Rattle.tk_sound.proofs.Bound.{AreBound, are_bound, lacks_alike, same_values}
use Rattle.tk_sound.proofs.Kept.{IsAloneTask}
use Rattle.tk_sound.proofs.Stars.{last_behind, last_or}
use Rattle.tk_sound.proofs.Steps.{SeesAll, steps_have}
use Rattle.tk_sound.proofs.Values.{HasNoStar, IsSeen}
use Rattle.tk_sound.proofs.Words.{SeesReference, SeesStep, SeesTarget, SeesText}

-- the text at a key is there where the key is one of the words
there_by : (b c : Bool) (p : Pair) (rest : Option (List ℕ)) (others : Bool) → b ≡ c → others ≡ is_some rest → (b || others) ≡ is_some (cond c (Some p.value) rest)
there_by true true p rest others same later = refl
there_by true false p rest others same later = absurd (let f : ⊥ = cc in f)
there_by false true p rest others same later = absurd (let f : ⊥ = cc in f)
there_by false false p rest others same later = later

mapped_cond : (c : Bool) (p : Pair) (rest : Option Pair) → option_map (λ (q : Pair). q.value) (cond c (Some p) rest) ≡ cond c (Some p.value) (option_map (λ (q : Pair). q.value) rest)
mapped_cond true p rest = refl
mapped_cond false p rest = refl

key_there : (words : List Pair) (key : List ℕ) → is_in (keys words) key ≡ is_some (text_at key words)
key_there [] key = refl
key_there (p ∷ words) key =
    there_by (bytes_eq key p.key) (bytes_eq p.key key) p (text_at key words) (is_in (keys words) key) (bytes_eq-swap key p.key) (key_there words key)
    ∙ ap is_some (sym (mapped_cond (bytes_eq p.key key) p (find (λ (q : Pair). bytes_eq q.key key) words)))

some_either : (a b : Option (List ℕ)) → is_some b ≡ true → is_some (option_or a b) ≡ true
some_either None b is = is
some_either (Some text) b is = refl

some_first : (a b : Option (List ℕ)) → is_some a ≡ true → is_some (option_or a b) ≡ true
some_first None b is = absurd (let f : ⊥ = cc in f)
some_first (Some text) b is = refl

abbrev words_of : TaskSpec → List Pair
words_of spec = context_words ++ result_words spec.results ++ space_words spec.spaces

context_there : (key : List ℕ) → is_in task_context key ≡ true → is_some (text_at key context_words) ≡ true
context_there key is =
    let first = bytes_eq key (codes "context.pipelineRun.name") in
    let second = bytes_eq key (codes "context.pipeline.name") in
    let third = bytes_eq key (codes "context.pipelineTask.retries") in
    let own = is_in task_context key in
    sym (key_there context_words key) ∙ or_right first (second || (third || own)) (or_right second (third || own) (or_right third own is))

in_context : (spec : TaskSpec) (key : List ℕ) → is_some (text_at key context_words) ≡ true → is_some (text_at key (words_of spec)) ≡ true
in_context spec key is =
    ap is_some (text_at-append key (context_words ++ result_words spec.results) (space_words spec.spaces))
    ∙ some_first (text_at key (context_words ++ result_words spec.results)) (text_at key (space_words spec.spaces))
    (ap is_some (text_at-append key context_words (result_words spec.results)) ∙ some_first (text_at key context_words) (text_at key (result_words spec.results)) is)

in_results : (spec : TaskSpec) (key : List ℕ) → is_some (text_at key (result_words spec.results)) ≡ true → is_some (text_at key (words_of spec)) ≡ true
in_results spec key is =
    ap is_some (text_at-append key (context_words ++ result_words spec.results) (space_words spec.spaces))
    ∙ some_first (text_at key (context_words ++ result_words spec.results)) (text_at key (space_words spec.spaces))
    (ap is_some (text_at-append key context_words (result_words spec.results)) ∙ some_either (text_at key context_words) (text_at key (result_words spec.results)) is)

in_spaces : (spec : TaskSpec) (key : List ℕ) → is_some (text_at key (space_words spec.spaces)) ≡ true → is_some (text_at key (words_of spec)) ≡ true
in_spaces spec key is =
    ap is_some (text_at-append key (context_words ++ result_words spec.results) (space_words spec.spaces))
    ∙ some_either (text_at key (context_words ++ result_words spec.results)) (text_at key (space_words spec.spaces)) is

in_first : (spec : TaskSpec) (key : List ℕ) → is_in (task_context ++ keys (space_words spec.spaces)) key ≡ true → is_some (text_at key (words_of spec)) ≡ true
in_first spec key is = elim (or_cases (is_in task_context key) (is_in (keys (space_words spec.spaces)) key) (sym (list_any-append (bytes_eq key) task_context (keys (space_words spec.spaces))) ∙ is)) [
  | inl one ↦ in_context spec key (context_there key one)
  | inr other ↦ in_spaces spec key (sym (key_there (space_words spec.spaces) key) ∙ other)
]

word_there : (spec : TaskSpec) (key : List ℕ) → SeesTarget spec (word key) → is_some (text_at key (words_of spec)) ≡ true
word_there spec key sees = elim (or_cases (is_in (task_context ++ keys (space_words spec.spaces)) key) (is_in (keys (result_words spec.results)) key) sees) [
  | inl one ↦ in_first spec key one
  | inr other ↦ in_results spec key (sym (key_there (result_words spec.results) key) ∙ other)
]

-- no word ends with `]`
abbrev IsOpen : List ℕ → Type 0
IsOpen key = last_or 0 key ≢ 93

holds_in : (texts : List (List ℕ)) (text : List ℕ) → All IsOpen texts → is_in texts text ≡ true → IsOpen text
holds_in [] text all is = absurd (let f : ⊥ = cc in f)
holds_in (t ∷ texts) text all is = elim (or_cases (bytes_eq text t) (is_in texts text) is) [
  | inl same ↦ subst IsOpen (sym (same_text text t same)) (All-head IsOpen t texts all)
  | inr later ↦ holds_in texts text (All-tail IsOpen t texts all) later
]

ends_open : (front : List ℕ) (b : ℕ) (back : List ℕ) → last_or b back ≢ 93 → IsOpen (front ++ (b ∷ back))
ends_open front b back closed = λ same. closed (sym (last_behind 0 front b back) ∙ same)

no_end : (b : ℕ) → bytes_eq (b ∷ []) (93 ∷ []) ≡ false → b ≢ 93
no_end b differs same = let f : bytes_eq (93 ∷ []) (93 ∷ []) ≡ false = subst (λ x. bytes_eq (x ∷ []) (93 ∷ []) ≡ false) same differs in cc

context_open : All IsOpen task_context
context_open = All-from_recursion IsOpen task_context (no_end 101 refl, (no_end 101 refl, (no_end 116 refl, tt)))

results_open : (results : List ResultSpec) → All IsOpen (keys (result_words results))
results_open [] = All-nil IsOpen
results_open (r ∷ results) =
    All-cons IsOpen (codes "results." ++ r.name ++ codes ".path") (keys (result_words results))
    (ends_open (codes "results." ++ r.name) 46 (codes "path") (no_end 104 refl)) (results_open results)

spaces_open : (spaces : List SpaceSpec) → All IsOpen (keys (space_words spaces))
spaces_open [] = All-nil IsOpen
spaces_open (s ∷ spaces) =
    let front = codes "workspaces." ++ s.name in
    let rest = keys (space_words spaces) in
    let bound = front ++ codes ".bound" in
    let claim = front ++ codes ".claim" in
    All-cons IsOpen (front ++ codes ".path") (bound ∷ claim ∷ rest) (ends_open front 46 (codes "path") (no_end 104 refl))
    (All-cons IsOpen bound (claim ∷ rest) (ends_open front 46 (codes "bound") (no_end 100 refl))
    (All-cons IsOpen claim rest (ends_open front 46 (codes "claim") (no_end 109 refl)) (spaces_open spaces)))

word_open : (spec : TaskSpec) (key : List ℕ) → SeesTarget spec (word key) → IsOpen key
word_open spec key sees = elim (or_cases (is_in (task_context ++ keys (space_words spec.spaces)) key) (is_in (keys (result_words spec.results)) key) sees) [
  | inl one ↦ holds_in (task_context ++ keys (space_words spec.spaces)) key (All-append IsOpen task_context (keys (space_words spec.spaces)) context_open (spaces_open spec.spaces)) one
  | inr other ↦ holds_in (keys (result_words spec.results)) key (results_open spec.results) other
]

-- what the steps of a Task see is there
abbrev env_with : TaskSpec → List Param → Env
env_with spec params = record { params = params; results = []; words = words_of spec }

target_seen : (spec : TaskSpec) (params : List Param) (target : Target) → SeesTarget spec target → IsSeen (env_with spec params) target
target_seen spec params (param name selector) sees = tt
target_seen spec params (result task name selector) sees = sees
target_seen spec params (word key) sees = (word_there spec key sees, word_open spec key sees)

step_seen : (spec : TaskSpec) (params : List Param) (step : Step) → SeesStep spec step → All (SeesAll (env_with spec params)) (step_texts step)
step_seen spec params step sees =
    let env = env_with spec params in
    All-weaker (SeesText spec) (SeesAll env)
    (λ text all. All-weaker (SeesReference spec) (λ r. IsSeen env (target_of r.parts)) (λ r. target_seen spec params (target_of r.parts)) (references_of text) all) (step_texts step) sees

-- no parameter is named as a `[*]`
no_star_by : (b : Bool) (p : Param) (rest : Option Param) → bytes_eq p.name (codes "[*]") ≡ b → is_param_name p.name ≡ true → rest ≡ None → cond b (Some p) rest ≡ None
no_star_by true p rest is named none =
    let wrong : is_param_name (codes "[*]") ≡ true = subst (λ n. is_param_name n ≡ true) (same_text p.name (codes "[*]") is) named in
    absurd (let f : ⊥ = cc (wrong) in f)
no_star_by false p rest is named none = none

no_star_found : (params : List Param) → All (λ (p : Param). is_param_name p.name ≡ true) params → find (λ (p : Param). bytes_eq p.name (codes "[*]")) params ≡ None
no_star_found [] named = refl
no_star_found (p ∷ params) named =
    let P : Param → Type 0 = λ q. is_param_name q.name ≡ true in
    no_star_by (bytes_eq p.name (codes "[*]")) p _ refl (All-head P p params named) (no_star_found params (All-tail P p params named))

no_star : (spec : TaskSpec) (params : List Param) → All (λ (p : Param). is_param_name p.name ≡ true) params → HasNoStar (env_with spec params)
no_star spec params named = ap (option_map (λ (p : Param). p.value)) (no_star_found params named)

-- without a reason no row holds
rows_false : {X : Type 0} (a b c : Bool) (x y z : X) → first_row ((a, x) ∷ (b, y) ∷ (c, z) ∷ []) ≡ None → (a ≡ false) × (b ≡ false)
rows_false true b c x y z e = absurd (let f : ⊥ = cc in f)
rows_false false true c x y z e = absurd (let f : ⊥ = cc in f)
rows_false false false c x y z e = (refl, refl)

nothing_around : (params : List Param) → params ++ [] ++ [] ≡ params
nothing_around params = append-nil (params ++ []) ∙ append-nil params

module _ (run : TaskRunObject) (spec : TaskSpec) (named : All (λ (p : Param). is_param_name p.name ≡ true) run.params) (alone : IsAloneTask spec)
    (readings : All (λ (s : Step). All HasReading (step_texts s)) spec.steps) where
  abbrev body : TaskBody
  body = body_with run spec

  fits_bound : (bound : AreBound run.params spec.params) → any_lacks (own_env run body) [] (flat_map step_dues spec.steps) ≡ false → fits body run.params ≡ true
  fits_bound bound lacking =
      let params = bound.params ++ run.params in
      let values = all_values spec.params run.params in
      let texts = flat_map step_dues spec.steps in
      let plain : any_lacks (env_with spec values) [] texts ≡ false = ap (λ ps. any_lacks (env_with spec ps) [] texts) (sym (nothing_around values)) ∙ lacking in
      let alike : any_lacks (env_with spec params) [] texts ≡ false = sym (lacks_alike values params (words_of spec) (same_values run.params spec.params bound) texts) ∙ plain in
      let all = All-append (λ (p : Param). is_param_name p.name ≡ true) bound.params run.params (bound.names alone.params) named in
      let have : list_all (step_has_values (env_with spec params)) spec.steps ≡ true =
      steps_have (env_with spec params) spec.steps (no_star spec params all) readings
      (All-weaker (SeesStep spec) (λ s. All (SeesAll (env_with spec params)) (step_texts s)) (step_seen spec params) spec.steps alone.sees) alike in
      ap (λ (r : Result (List Param) BindError). elim r [ Ok made ↦ list_all (step_has_values (step_env body (made ++ run.params))) spec.steps | Err error ↦ false ]) bound.ok
      ∙ (ap (λ ps. list_all (step_has_values (env_with spec ps)) spec.steps) (nothing_around params) ∙ have)

  pub task_run_fits : first_reason run body ≡ None → fits body run.params ≡ true
  task_run_fits none =
      let rows = rows_false (has_missing spec.params run.params || any_lacks (own_env run body) [] (flat_map step_dues spec.steps)) (has_mismatch spec.params run.params) (has_unbound body.bound spec.spaces) _ _ _ none in
      let first = or_parts (has_missing spec.params run.params) (any_lacks (own_env run body) [] (flat_map step_dues spec.steps)) rows.0 in
      fits_bound (are_bound run.params spec.params first.0 rows.1) first.1

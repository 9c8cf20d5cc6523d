-- The references in the steps of a Task that stands alone are to parameters, or to words that steps see.
use Rattle.std.proofs.Common.{◌≡◌, ℕ, Bool, true, false, not, cond, ◌&&◌, ◌||◌, List, [], ◌∷◌, ◌++◌, map, Option, Some, None, refl}
use Rattle.std.specs.Prelude.{All, codes, find, if◌then◌else◌, option_map, option_to_list}
use Rattle.std.specs.Option.{ForSome}
use Rattle.std.proofs.lemmas.List.Elements.{All-append, All-cons, All-map, All-nil, All-weaker}
use Rattle.tk_types.specs.declared.task.Step.{Step}
use Rattle.tk_types.specs.declared.task.TaskSpec.{TaskSpec}
use Rattle.tk_types.specs.declared.value.Pair.{Pair}
use Rattle.tk_types.specs.declared.value.Param.{Param}
use Rattle.tk_types.specs.Fault.{bad_reference, unknown_variable}
use Rattle.tk_types.specs.First.{first_if_there, first_in}
use Rattle.tk_types.specs.Place.{Place, ◌▸◌}
use Rattle.tk_vars.specs.declared.reference.Reference.{Reference}
use Rattle.tk_vars.specs.Offset.{bad_offset}
use Rattle.tk_vars.specs.Target.{Target, param, result, word, target_of, references_of}
use Rattle.tk_bind.specs.Check.{first_failing}
use Rattle.tk_bind.specs.Fits.{result_words, space_words, step_elements, step_single_texts, step_texts}
use Rattle.tk_types.specs.Names.{is_in}
use Rattle.tk_bind.specs.Scope.{has_finally_head, is_status, is_target_visible, is_visible}
use Rattle.tk_validate.specs.declared.seen.Seen.{Seen}
use Rattle.tk_validate.specs.Seen.{given_seen, keys, step_scope, task_context}
use Rattle.tk_validate.specs.Sited.{TextRule, in_step, in_variable}
use Rattle.tk_validate.specs.Texts.{alone_texts, step_texts as texts_of_steps, text_finding}
use Rattle.tk_read_laws.proofs.Nothing.{all_none, each_none, first_none, map_none, rest_none, there_none}

-- it is to a parameter, or to a word that the steps of the Task see
abbrev pub SeesTarget : TaskSpec → Target → Type 0
SeesTarget spec (param name selector) = Unit {0}
SeesTarget spec (result task name selector) = ⊥
SeesTarget spec (word key) = (is_in (task_context ++ keys (space_words spec.spaces)) key || is_in (keys (result_words spec.results)) key) ≡ true

abbrev pub SeesReference : TaskSpec → Reference → Type 0
SeesReference spec r = SeesTarget spec (target_of r.parts)

abbrev pub SeesText : TaskSpec → List ℕ → Type 0
SeesText spec text = All (SeesReference spec) (references_of text)

abbrev pub SeesStep : TaskSpec → Step → Type 0
SeesStep spec step = All (SeesText spec) (step_texts step)

abbrev pub SeesWords : TaskSpec → Type 0
SeesWords spec = All (SeesStep spec) spec.steps

-- what is visible there
abbrev visible_as : List Seen → TaskSpec → Bool → Bool → Target → Bool
visible_as outside spec status final target =
    let scope = step_scope outside task_context spec in
    if status then scope.results else (if final then scope.results && scope.finally_results else is_target_visible scope target)

sees_by : (outside : List Seen) (spec : TaskSpec) (status final : Bool) (target : Target) → visible_as outside spec status final target ≡ true → SeesTarget spec target
sees_by outside spec true final target e = absurd (let f : ⊥ = cc in f)
sees_by outside spec false true target e = absurd (let f : ⊥ = cc in f)
sees_by outside spec false false (param name selector) e = tt
sees_by outside spec false false (result task name selector) e = let f : ⊥ = cc in f
sees_by outside spec false false (word key) e = e

-- where none is found that fails, all pass
pass_step : {X : Type 0} (test : X → Bool) (b : Bool) (x : X) (xs : List X) → test x ≡ b → (find (λ y. not (test y)) xs ≡ None → All (λ y. test y ≡ true) xs)
    → cond (not b) (Some x) (find (λ y. not (test y)) xs) ≡ None → All (λ y. test y ≡ true) (x ∷ xs)
pass_step test true x xs same later e = All-cons (λ y. test y ≡ true) x xs same (later e)
pass_step test false x xs same later e = absurd (let f : ⊥ = cc in f)

all_pass : {X : Type 0} (test : X → Bool) (xs : List X) → find (λ y. not (test y)) xs ≡ None → All (λ y. test y ≡ true) xs
all_pass test [] e = All-nil (λ y. test y ≡ true)
all_pass test (x ∷ xs) e = pass_step test (test x) x xs refl (all_pass test xs) e

none_fails : (test : Reference → Bool) (text : List ℕ) (at : Place) → option_map (unknown_variable at) (first_failing test text) ≡ None → All (λ r. test r ≡ true) (references_of text)
none_fails test text at e =
    all_pass test (references_of text) (map_none (λ (r : Reference). r.spelling) (find (λ r. not (test r)) (references_of text)) (map_none (unknown_variable at) (first_failing test text) e))

-- the rule passes only texts that have the property
abbrev PassesOnly : TextRule → (List ℕ → Type 0) → Type 0
PassesOnly rule P = (whole : Bool) (at : Place) (text : List ℕ) → rule whole at text ≡ None → P text

text_sees : (outside : List Seen) (spec : TaskSpec) → PassesOnly (text_finding [] (step_scope outside task_context spec)) (SeesText spec)
unfolding text_finding
text_sees outside spec whole at text e =
    let scope = step_scope outside task_context spec in
    All-weaker (λ r. is_visible scope r ≡ true) (SeesReference spec)
    (λ r visible. sees_by outside spec (is_status r.parts) (has_finally_head r.parts) (target_of r.parts) visible) (references_of text)
    (none_fails (is_visible scope) text at (first_none _ _ (rest_none (option_map (bad_reference at) (bad_offset text)) _ e)))

-- the texts of a step
pub all_there : {X : Type 0} (P : X → Type 0) (o : Option X) → ForSome o P → All P (option_to_list o)
all_there P None holds = All-nil P
all_there P (Some x) holds = All-cons P x [] (holds x refl) (All-nil P)

step_passes : (rule : TextRule) (P : List ℕ → Type 0) → PassesOnly rule P → (at : Place) (step : Step) → in_step rule at step ≡ None → All P (step_texts step)
step_passes rule P only at step e =
    let value = λ (p : Pair). p.value in
    let found =
    all_none
    (first_in (rule true) (at ▸ codes "command") step.command
    ∷ first_in (rule true) (at ▸ codes "args") step.args
    ∷ first_if_there (rule false (at ▸ codes "script")) step.script
    ∷ first_in (in_variable rule) (at ▸ codes "env") step.env
    ∷ first_if_there (rule false (at ▸ codes "workingDir")) step.dir
    ∷ [])
    e in
    All-append P (step_elements step) (step_single_texts step)
    (All-append P step.command step.args (each_none (rule true) P (only true) (at ▸ codes "command") step.command found.0) (each_none (rule true) P (only true) (at ▸ codes "args") step.args found.1.0))
    (All-append P (option_to_list step.script ++ map value step.env) (option_to_list step.dir)
    (All-append P (option_to_list step.script) (map value step.env)
    (all_there P step.script (there_none (rule false (at ▸ codes "script")) P (only false (at ▸ codes "script")) step.script found.1.1.0))
    (All-map P value step.env
    (each_none (in_variable rule) (λ (p : Pair). P p.value) (λ here p. only false (here ▸ codes "value") p.value) (at ▸ codes "env") step.env found.1.1.1.0)))
    (all_there P step.dir (there_none (rule false (at ▸ codes "workingDir")) P (only false (at ▸ codes "workingDir")) step.dir found.1.1.1.1.0)))

pub steps_see : (given : List Param) (at : Place) (spec : TaskSpec) → alone_texts given at spec ≡ None → SeesWords spec
unfolding alone_texts texts_of_steps
steps_see given at spec e =
    let rule = text_finding [] (step_scope (given_seen given) task_context spec) in
    each_none (in_step rule) (SeesStep spec) (step_passes rule (SeesText spec) (text_sees (given_seen given) spec)) (at ▸ codes "steps") spec.steps e

-- Results that aren't available, text by text.
use Rattle.std.proofs.Common.{◌≡◌, ℕ, Bool, false, ◌||◌, List, [], ◌∷◌, Option, Some, None, refl, sym, ap, ◌∙◌, arith}
use Rattle.std.specs.Prelude.{All, flat_map, filter_map, is_none}
use Rattle.std.specs.List.{list_any, cons_option}
use Rattle.std.specs.Option.{option_map_or}
use Rattle.std.proofs.lemmas.List.Folds.{list_any-append}
use Rattle.std.proofs.lemmas.List.Elements.{All-tail}
use Rattle.tk_vars.specs.declared.reference.Reference.{Reference}
use Rattle.tk_vars.specs.Reading.{HasReading}
use Rattle.tk_vars.specs.Target.{Target, param, result, word, target_of, references_of}
use Rattle.tk_vars.proofs.OffsetFacts.{bad_offset-none}
use Rattle.tk_graph.specs.Results.{referenced_result, results_read, text_results}
use Rattle.tk_bind.specs.declared.env.Env.{Env}
use Rattle.tk_bind.specs.Lacking.{reference_lacks, target_lacks, text_lacks}
use Rattle.tk_bind.specs.Substitute.{result_named}

abbrev Named : Type 0
Named = List ℕ × List ℕ

-- the result isn't available
abbrev pub is_missing : Env → Named → Bool
is_missing env r = is_none (result_named r.0 r.1 env.results)

target_missing : (env : Env) (t : Target) → target_lacks env t ≡ option_map_or (is_missing env) (referenced_result t) false
target_missing env (param name selector) = refl
target_missing env (result task name selector) = refl
target_missing env (word key) = refl

first_missing : (test : Named → Bool) (o : Option Named) (rest : List Named) (b : Bool) → b ≡ list_any test rest → (option_map_or test o false || b) ≡ list_any test (cons_option o rest)
first_missing test None rest b same = same
first_missing test (Some r) rest b same = ap (λ c. test r || c) same

references_missing : (env : Env) (references : List Reference)
    → list_any (reference_lacks env) references ≡ list_any (is_missing env) (filter_map (λ (r : Reference). referenced_result (target_of r.parts)) references)
references_missing env [] = refl
references_missing env (r ∷ references) =
    ap (λ b. b || list_any (reference_lacks env) references) (target_missing env (target_of r.parts))
    ∙ first_missing (is_missing env) (referenced_result (target_of r.parts)) _ (list_any (reference_lacks env) references) (references_missing env references)

text_missing : (env : Env) (text : List ℕ) → HasReading text → text_lacks env text ≡ list_any (is_missing env) (text_results text)
unfolding text_results
text_missing env text reads =
    references_missing env (references_of text)
    ∙ sym (ap (λ (o : Option ℕ). list_any (is_missing env) (elim o [ None ↦ results_read text | Some offset ↦ [] ])) (bad_offset-none text reads))

pub texts_missing : (env : Env) (texts : List (List ℕ)) → All HasReading texts → list_any (text_lacks env) texts ≡ list_any (is_missing env) (flat_map text_results texts)
texts_missing env [] all = refl
texts_missing env (text ∷ texts) all =
    (λ i. text_missing env text (all 0 text (omega arith)) i || texts_missing env texts (All-tail HasReading text texts all) i)
    ∙ sym (list_any-append (is_missing env) (text_results text) (flat_map text_results texts))

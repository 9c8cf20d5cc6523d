-- The texts of a step that aren't elements of a list: its script, those of its environment, and its directory.
use Rattle.std.proofs.Common.{◌≡◌, ◌++◌, Bool, true, false, ◌&&◌, map, option_to_list, sym, ap, ap₂, ◌∙◌}
use Rattle.std.specs.List.{list_all}
use Rattle.std.proofs.lemmas.List.Folds.{list_all-append, list_all-map}
use Rattle.tk_types.specs.declared.value.Pair.{Pair}
use Rattle.tk_types.specs.declared.task.Step.{Step}
use Rattle.tk_bind.specs.Fits.{step_single_texts}
use Rattle.tk_shape.specs.ShapeEnv.{ShapeEnv}
use Rattle.tk_shape.specs.Substituted.{has_value, have_pairs}

have_single : (env : ShapeEnv) (step : Step)
    → ((list_all (has_value env) (option_to_list step.script) && have_pairs env step.env) && list_all (has_value env) (option_to_list step.dir)) ≡ list_all (has_value env) (step_single_texts step)
have_single env step =
    sym (list_all-append (has_value env) (option_to_list step.script ++ map (λ (p : Pair). p.value) step.env) (option_to_list step.dir)
    ∙ ap (λ b. b && list_all (has_value env) (option_to_list step.dir))
    (list_all-append (has_value env) (option_to_list step.script) (map (λ (p : Pair). p.value) step.env)
    ∙ ap (λ b. list_all (has_value env) (option_to_list step.script) && b) (list_all-map (has_value env) (λ (p : Pair). p.value) step.env)))

-- the script has a value
pub single_lack : (env : ShapeEnv) (step : Step) (script pairs : Bool) → script ≡ list_all (has_value env) (option_to_list step.script) → script ≡ true → pairs ≡ have_pairs env step.env → pairs ≡ false → false ≡ list_all (has_value env) (step_single_texts step)
single_lack env step script pairs is has rest lacks =
    ap₂ (λ a b. (a && b) && list_all (has_value env) (option_to_list step.dir)) (sym has ∙ is) (sym lacks ∙ rest) ∙ have_single env step

pub dir_decides : (env : ShapeEnv) (step : Step) (script pairs : Bool) → script ≡ list_all (has_value env) (option_to_list step.script) → script ≡ true → pairs ≡ have_pairs env step.env → pairs ≡ true
    → list_all (has_value env) (option_to_list step.dir) ≡ list_all (has_value env) (step_single_texts step)
dir_decides env step script pairs is has rest have =
    ap₂ (λ a b. (a && b) && list_all (has_value env) (option_to_list step.dir)) (sym has ∙ is) (sym have ∙ rest) ∙ have_single env step

-- Whether a text refers to a result that isn't available.
use Rattle.std.specs.Prelude.{ℕ, Bool, false, List, is_none}
use Rattle.std.specs.List.{list_any}
use Rattle.tk_vars.specs.declared.reference.Reference.{Reference}
use Rattle.tk_vars.specs.Target.{Target, references_of, result, target_of}
use Rattle.tk_bind.specs.declared.env.Env.{Env}
use Rattle.tk_bind.specs.Substitute.{result_named}

-- this is a result that isn't available
abbrev pub target_lacks : Env → Target → Bool
target_lacks env (result task name selector) = is_none (result_named task name env.results)
target_lacks env target = false

abbrev pub reference_lacks : Env → Reference → Bool
reference_lacks env reference = target_lacks env (target_of reference.parts)

-- the text refers to one
abbrev pub text_lacks : Env → List ℕ → Bool
text_lacks env text = list_any (reference_lacks env) (references_of text)

-- What borrowed targets and values stand for.
use Rattle.tk_types.specs.declared.value.Value.{Value}
use Rattle.tk_types.specs.declared.value.Value.TheVariants.{Str, Arr, Obj}
use Rattle.tk_vars.specs.Target.{Target as Meant, param, result, word, key_part, key_of}
use Rattle.tk_bind.specs.declared.found.Found.{Found}
use Rattle.tk_bind.specs.declared.found.Found.TheVariants.{Text, Texts, Pairs}
use Rattle.tk_bind.specs.declared.target.Target.{Target}
use Rattle.tk_bind.specs.declared.target.Target.TheVariants.{Param, Result, Word}

-- the value that was found
abbrev pub found_value : Found → Value
found_value (Text text) = Str text.now
found_value (Texts texts) = Arr texts.now
found_value (Pairs pairs) = Obj pairs.now

-- what the reference refers to
abbrev pub meant : Target → Meant
meant (Param name selector) = param (key_part name.now) selector.now
meant (Result task name selector) = result task.now (key_part name.now) selector.now
meant (Word parts) = word (key_of parts.now)

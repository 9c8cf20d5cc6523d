-- The value that an indexed one stands for.
use Rattle.tk_types.specs.declared.value.Value.{Value}
use Rattle.tk_types.specs.declared.value.Value.TheVariants.{Str, Arr, Obj}
use Rattle.tk_bind.specs.declared.value_index.Form.{Form}
use Rattle.tk_bind.specs.declared.value_index.Form.TheVariants.{Text, Texts, Pairs}

abbrev pub form_value : Form → Value
form_value (Text text) = Str text.now
form_value (Texts texts) = Arr texts.now
form_value (Pairs pairs) = Obj pairs

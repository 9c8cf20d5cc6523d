-- What a selector takes of a value.
use Rattle.std.specs.Prelude.{List, [], ◌∷◌, Option, Some, None, option_map, slice_get}
use Rattle.tk_types.specs.declared.value.Value.{Value}
use Rattle.tk_types.specs.declared.value.Value.TheVariants.{Str, Arr, Obj}
use Rattle.tk_types.specs.Value.{text_at}
use Rattle.tk_vars.specs.declared.part.Part.{Part}
use Rattle.tk_vars.specs.declared.part.Part.TheVariants.{Name, Index, Star}

-- what a selector takes of a value that it fits
abbrev pub selected : List Part → Value → Option Value
selected [] (Str text) = Some (Str text)
selected (Index i ∷ []) (Arr texts) = option_map Str (slice_get texts i)
selected (Name key ∷ []) (Obj pairs) = option_map Str (text_at key pairs)
selected (Star ∷ []) (Arr texts) = Some (Arr texts)
selected (Star ∷ []) (Obj pairs) = Some (Obj pairs)
selected _ _ = None

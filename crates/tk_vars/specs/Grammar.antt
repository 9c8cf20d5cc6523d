-- How a reference is written (Tekton, Pipelines, Variable Substitutions Supported by Tasks and Pipelines).
use Rattle.std.specs.Prelude.{ℕ, ◌^◌, Bool, ◌||◌, if◌then◌else◌, nat_lt, ◌==◌, List, [], ◌∷◌, ◌++◌, map, codes, decimal, bytes_eq, flat_map}
use Rattle.std.specs.List.{list_any, list_all, starts_with}
use Rattle.std.specs.Char.{is_ascii_alphanumeric}
use Rattle.std.specs.Prelude.{nat_eq}
use Rattle.tk_vars.specs.declared.part.Part.{Part}
use Rattle.tk_vars.specs.declared.part.Part.TheVariants.{Name, Index, Star}
use Rattle.tk_vars.specs.declared.reference.Reference.{Reference}

-- what may stand at one place of a reference
pub data Slot : Type 0 where
  -- `.WORD`, with this word
  word : List ℕ → Slot
  -- `.NAME`
  name : Slot
  -- `.NAME`, `['NAME']`, `["NAME"]`, `[DIGITS]` or `[*]`
  part : Slot
  -- any number of parts
  parts : Slot
  -- nothing, `[DIGITS]`, `[*]` or `.NAME`
  selector : Slot

-- the references, each by its head and what follows
abbrev pub forms : List (List ℕ × List Slot)
forms =
    (codes "params", part ∷ selector ∷ [])
    ∷ (codes "tasks", name ∷ word (codes "results") ∷ part ∷ selector ∷ [])
    ∷ (codes "finally", name ∷ word (codes "results") ∷ part ∷ selector ∷ [])
    ∷ (codes "tasks", name ∷ word (codes "status") ∷ [])
    ∷ (codes "tasks", word (codes "status") ∷ [])
    ∷ (codes "context", word (codes "pipelineRun") ∷ word (codes "name") ∷ [])
    ∷ (codes "context", word (codes "pipeline") ∷ word (codes "name") ∷ [])
    ∷ (codes "context", word (codes "pipelineTask") ∷ word (codes "retries") ∷ [])
    ∷ (codes "context", word (codes "taskRun") ∷ word (codes "name") ∷ [])
    ∷ (codes "context", word (codes "task") ∷ word (codes "name") ∷ [])
    ∷ (codes "context", word (codes "task") ∷ word (codes "retry-count") ∷ [])
    ∷ (codes "results", part ∷ word (codes "path") ∷ [])
    ∷ (codes "steps", part ∷ parts ∷ [])
    ∷ (codes "workspaces", part ∷ parts ∷ [])
    ∷ []

-- a byte of a name behind a dot, and of a name in brackets
abbrev pub is_name_byte : ℕ → Bool
is_name_byte b = is_ascii_alphanumeric b || b == 45 || b == 95

abbrev pub is_quoted_byte : ℕ → Bool
is_quoted_byte b = is_name_byte b || b == 46

-- the text alone where the test passes, else no text
abbrev pub text_where : Bool → List ℕ → List (List ℕ)
text_where test text = if test then text ∷ [] else []

-- the ways to write a name of at least one byte: behind a dot, and in brackets
abbrev pub dotted : List ℕ → List (List ℕ)
dotted [] = []
dotted (b ∷ bs) = text_where (list_all is_name_byte (b ∷ bs)) (codes "." ++ b ∷ bs)

abbrev pub quoted : List ℕ → List (List ℕ)
quoted [] = []
quoted (b ∷ bs) =
    text_where (list_all is_quoted_byte (b ∷ bs)) (codes "['" ++ b ∷ bs ++ codes "']")
    ++ text_where (list_all is_quoted_byte (b ∷ bs)) (codes "[\"" ++ b ∷ bs ++ codes "\"]")

-- the ways to write an index, of at most nine digits
abbrev pub indexed : ℕ → List (List ℕ)
indexed i = text_where (nat_lt i (10 ^ 9)) (codes "[" ++ decimal i ++ codes "]")

-- the ways to write a part
abbrev pub part_spellings : Part → List (List ℕ)
part_spellings (Name n) = dotted n ++ quoted n
part_spellings (Index i) = indexed i
part_spellings Star = codes "[*]" ∷ []

-- one of the first texts, and then one of the second
abbrev pub joins : List (List ℕ) → List (List ℕ) → List (List ℕ)
joins firsts seconds = flat_map (λ x. map (λ y. x ++ y) seconds) firsts

-- the ways to write a selector
abbrev pub selector_spellings : List Part → List (List ℕ)
selector_spellings [] = [] ∷ []
selector_spellings (Name key ∷ []) = dotted key
selector_spellings (Index i ∷ []) = indexed i
selector_spellings (Star ∷ []) = codes "[*]" ∷ []
selector_spellings _ = []

-- the ways to write parts in a row
abbrev pub parts_spellings : List Part → List (List ℕ)
parts_spellings [] = [] ∷ []
parts_spellings (p ∷ ps) = joins (part_spellings p) (parts_spellings ps)

-- the ways to write parts in these slots
abbrev pub slots_spellings : List Slot → List Part → List (List ℕ)
slots_spellings [] [] = [] ∷ []
slots_spellings (word w ∷ slots) (Name n ∷ ps) = if bytes_eq n w then joins (dotted n) (slots_spellings slots ps) else []
slots_spellings (name ∷ slots) (Name n ∷ ps) = joins (dotted n) (slots_spellings slots ps)
slots_spellings (part ∷ slots) (p ∷ ps) = joins (part_spellings p) (slots_spellings slots ps)
slots_spellings (parts ∷ []) ps = parts_spellings ps
slots_spellings (selector ∷ []) ps = selector_spellings ps
slots_spellings _ _ = []

-- the ways to write these parts as a reference
abbrev pub reference_spellings : List Part → List (List ℕ)
reference_spellings (Name head ∷ ps) =
    flat_map (λ form. if bytes_eq head form.0 then map (λ rest. codes "$(" ++ head ++ rest ++ codes ")") (slots_spellings form.1 ps) else []) forms
reference_spellings _ = []

-- the reference is written as the table allows
abbrev pub is_reference : Reference → Bool
is_reference r = list_any (bytes_eq r.spelling) (reference_spellings r.parts)

-- the heads behind which a reference must follow
abbrev pub heads : List (List ℕ)
heads = codes "params" ∷ codes "tasks" ∷ codes "finally" ∷ codes "context" ∷ codes "results" ∷ codes "steps" ∷ codes "workspaces" ∷ []

-- the text begins with `$(`, the head, and `.` or `[`
abbrev pub is_headed : List ℕ → List ℕ → Bool
is_headed text head = starts_with nat_eq text (codes "$(" ++ head ++ codes ".") || starts_with nat_eq text (codes "$(" ++ head ++ codes "[")

-- a reference must stand at the beginning of this text
abbrev pub must_stand : List ℕ → Bool
must_stand text = list_any (is_headed text) heads

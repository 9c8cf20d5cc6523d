-- Whether a text names a task: where a reference to a result or a status of one begins.
use Rattle.std.specs.Prelude.{ℕ, Bool, false, ◌||◌, List, [], ◌∷◌, codes, bytes_eq, nat_eq}
use Rattle.std.specs.List.{starts_with}
use Rattle.tk_vars.specs.declared.part.Part.{Part}
use Rattle.tk_vars.specs.declared.part.Part.TheVariants.{Name}
use Rattle.tk_vars.specs.declared.reference.Reference.{Reference}

-- the head of the parts is that of a task's result or status
abbrev pub is_task_head : List ℕ → Bool
is_task_head head = bytes_eq head (codes "tasks") || bytes_eq head (codes "finally")

abbrev pub heads_task : List Part → Bool
heads_task (Name head ∷ parts) = is_task_head head
heads_task parts = false

abbrev pub names_task : Reference → Bool
names_task reference = heads_task reference.parts

-- such a reference may begin here, and somewhere in the text
abbrev pub begins_task : List ℕ → Bool
begins_task text = starts_with nat_eq text (codes "$(tasks") || starts_with nat_eq text (codes "$(finally")

abbrev pub begins_task_within : List ℕ → Bool
begins_task_within [] = false
begins_task_within (b ∷ bs) = begins_task (b ∷ bs) || begins_task_within bs

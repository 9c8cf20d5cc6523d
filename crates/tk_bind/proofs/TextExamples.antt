-- What texts give alone, as a value and as an element of a list.
use Rattle.std.proofs.Common.{◌≡◌, ℕ, List, [], ◌∷◌, refl}
use Rattle.std.specs.Prelude.{codes, Option, Some, None, Result, Ok, Err}
use Rattle.tk_types.specs.declared.task.Matrix.{Matrix}
use Rattle.tk_types.specs.declared.value.Pair.{Pair}
use Rattle.tk_types.specs.declared.value.Param.{Param}
use Rattle.tk_types.specs.declared.value.Value.{Value}
use Rattle.tk_types.specs.declared.value.Value.TheVariants.{Str, Arr, Obj}
use Rattle.tk_bind.specs.declared.env.Env.{Env}
use Rattle.tk_bind.specs.declared.env.Given.{Given}
use Rattle.tk_bind.specs.Params.{list_in, matrix_in}
use Rattle.tk_bind.specs.Substitute.{substituted, substituted_list, substituted_value}

abbrev pair : List ℕ → List ℕ → Pair
pair key value = record { key = key; value = value }

abbrev param : List ℕ → Value → Param
param name value = record { name = name; value = value }

abbrev given : List ℕ → List ℕ → Value → Given
given task name value = record { task = task; name = name; value = value }

-- a text `t`, a list `x`, an object `o`, an empty list `e`, and values that look like references
abbrev params : List Param
params =
    param (codes "a.b") (Str (codes "1"))
    ∷ param (codes "t") (Str (codes "s"))
    ∷ param (codes "x") (Arr (codes "b" ∷ codes "c" ∷ []))
    ∷ param (codes "x") (Str (codes "later"))
    ∷ param (codes "o") (Obj (pair (codes "k") (codes "v") ∷ []))
    ∷ param (codes "e") (Arr [])
    ∷ param (codes "again") (Str (codes "$(params.x)"))
    ∷ param (codes "front") (Str (codes "$(params"))
    ∷ param (codes "texts") (Arr (codes "$(params.x[*])" ∷ codes "$(params.t)" ∷ []))
    ∷ param (codes "keyed") (Obj (pair (codes "k") (codes "$(params.t)") ∷ []))
    ∷ []

abbrev results : List Given
results =
    given (codes "b") (codes "r") (Str (codes "8"))
    ∷ given (codes "a") (codes "r") (Str (codes "7"))
    ∷ given (codes "a") (codes "r") (Str (codes "9"))
    ∷ given (codes "a") (codes "l") (Arr (codes "d" ∷ []))
    ∷ given (codes "a") (codes "o") (Obj (pair (codes "k") (codes "$(params.t)") ∷ []))
    ∷ []

abbrev env : Env
env = record { params = params; results = results; words = pair (codes "tasks.status") (codes "None") ∷ [] }

-- alone, as a value, and as the only element of a list
abbrev Answers : Type 0
Answers = Result (List ℕ) (List ℕ) × Result Value (List ℕ) × Result (List (List ℕ)) (List ℕ)

abbrev answers : List ℕ → Answers
answers text = (substituted env text, substituted_value env (Str text), substituted_list env (text ∷ []))

-- the same text each time, and no value for this reference
abbrev all_give : List ℕ → Answers
all_give text = (Ok text, Ok (Str text), Ok (text ∷ []))

abbrev none_for : List ℕ → Answers
none_for reference = (Err reference, Err reference, Err reference)

-- each selector on a text, a list and an object

text_alone : answers (codes "$(params.t)") ≡ all_give (codes "s")
text_alone = refl

index_of_text : answers (codes "$(params.t[0])") ≡ none_for (codes "$(params.t[0])")
index_of_text = refl

star_of_text : answers (codes "$(params.t[*])") ≡ none_for (codes "$(params.t[*])")
star_of_text = refl

key_of_text : answers (codes "$(params.t.k)") ≡ none_for (codes "$(params.t.k)")
key_of_text = refl

list_alone : answers (codes "$(params.x)") ≡ none_for (codes "$(params.x)")
list_alone = refl

index_of_list : answers (codes "$(params.x[0])") ≡ all_give (codes "b")
index_of_list = refl

last_of_list : answers (codes "$(params.x[1])") ≡ all_give (codes "c")
last_of_list = refl

past_the_end : answers (codes "$(params.x[2])") ≡ none_for (codes "$(params.x[2])")
past_the_end = refl

star_of_list : answers (codes "$(params.x[*])") ≡ (Err (codes "$(params.x[*])"), Ok (Arr (codes "b" ∷ codes "c" ∷ [])), Ok (codes "b" ∷ codes "c" ∷ []))
star_of_list = refl

key_of_list : answers (codes "$(params.x.k)") ≡ none_for (codes "$(params.x.k)")
key_of_list = refl

object_alone : answers (codes "$(params.o)") ≡ none_for (codes "$(params.o)")
object_alone = refl

index_of_object : answers (codes "$(params.o[0])") ≡ none_for (codes "$(params.o[0])")
index_of_object = refl

star_of_object : answers (codes "$(params.o[*])") ≡ (Err (codes "$(params.o[*])"), Ok (Obj (pair (codes "k") (codes "v") ∷ [])), Err (codes "$(params.o[*])"))
star_of_object = refl

key_of_object : answers (codes "$(params.o.k)") ≡ all_give (codes "v")
key_of_object = refl

absent_key : answers (codes "$(params.o.z)") ≡ none_for (codes "$(params.o.z)")
absent_key = refl

star_of_result : answers (codes "$(tasks.a.results.l[*])") ≡ (Err (codes "$(tasks.a.results.l[*])"), Ok (Arr (codes "d" ∷ [])), Ok (codes "d" ∷ []))
star_of_result = refl

index_of_result : answers (codes "$(tasks.a.results.l[0])") ≡ all_give (codes "d")
index_of_result = refl

-- an empty list

index_of_empty : answers (codes "$(params.e[0])") ≡ none_for (codes "$(params.e[0])")
index_of_empty = refl

star_of_empty : answers (codes "$(params.e[*])") ≡ (Err (codes "$(params.e[*])"), Ok (Arr []), Ok [])
star_of_empty = refl

empty_between : substituted_list env (codes "a" ∷ codes "$(params.e[*])" ∷ codes "d" ∷ []) ≡ Ok (codes "a" ∷ codes "d" ∷ [])
empty_between = refl

empty_in_list_value : substituted_value env (Arr (codes "$(params.e[*])" ∷ codes "$(params.x[*])" ∷ codes "$(params.e[*])" ∷ [])) ≡ Ok (Arr (codes "b" ∷ codes "c" ∷ []))
empty_in_list_value = refl

-- names, texts between references, and what has no value

no_text : answers [] ≡ all_give []
no_text = refl

quoted_name : answers (codes "x$(params['a.b'])y") ≡ all_give (codes "x1y")
quoted_name = refl

no_such_parameter : answers (codes "$(params.z)") ≡ none_for (codes "$(params.z)")
no_such_parameter = refl

first_result_of_the_task : answers (codes "$(tasks.a.results['r'])-$(tasks.status)") ≡ all_give (codes "7-None")
first_result_of_the_task = refl

first_without_value : answers (codes "$(tasks.b.status)$(params.z)") ≡ none_for (codes "$(tasks.b.status)")
first_without_value = refl

first_behind_values : answers (codes "$(date) $(tasks.a.results.r) $(params.y) $(params.z)") ≡ none_for (codes "$(params.y)")
first_behind_values = refl

element_and_key : answers (codes "$(params.x[1])$(params.o.k)") ≡ all_give (codes "cv")
element_and_key = refl

spliced_behind_a_text : substituted_list env (codes "a" ∷ codes "$(params.x[*])" ∷ []) ≡ Ok (codes "a" ∷ codes "b" ∷ codes "c" ∷ [])
spliced_behind_a_text = refl

-- a value that looks like a reference

not_read_again : answers (codes "$(params.again)") ≡ all_give (codes "$(params.x)")
not_read_again = refl

not_read_between_texts : answers (codes "<$(params.again)>") ≡ all_give (codes "<$(params.x)>")
not_read_between_texts = refl

not_read_across : answers (codes "$(params.front).x)") ≡ all_give (codes "$(params.x)")
not_read_across = refl

spliced_as_it_is : answers (codes "$(params.texts[*])") ≡ (Err (codes "$(params.texts[*])"), Ok (Arr (codes "$(params.x[*])" ∷ codes "$(params.t)" ∷ [])), Ok (codes "$(params.x[*])" ∷ codes "$(params.t)" ∷ []))
spliced_as_it_is = refl

element_as_it_is : answers (codes "$(params.texts[0])") ≡ all_give (codes "$(params.x[*])")
element_as_it_is = refl

text_at_key_as_it_is : answers (codes "$(params.keyed.k)") ≡ all_give (codes "$(params.t)")
text_at_key_as_it_is = refl

object_as_it_is : substituted_value env (Str (codes "$(params.keyed[*])")) ≡ Ok (Obj (pair (codes "k") (codes "$(params.t)") ∷ []))
object_as_it_is = refl

result_as_it_is : answers (codes "$(tasks.a.results.o.k)") ≡ all_give (codes "$(params.t)")
result_as_it_is = refl

-- objects as values

object_with_references : substituted_value env (Obj (pair (codes "k") (codes "$(params.t)-$(params.x[1])") ∷ pair (codes "$(params.t)") (codes "d") ∷ []))
    ≡ Ok (Obj (pair (codes "k") (codes "s-c") ∷ pair (codes "$(params.t)") (codes "d") ∷ []))
object_with_references = refl

object_without_pairs : substituted_value env (Obj []) ≡ Ok (Obj [])
object_without_pairs = refl

object_lacks_a_value : substituted_value env (Obj (pair (codes "k") (codes "d") ∷ pair (codes "l") (codes "$(params.y)") ∷ pair (codes "m") (codes "$(params.z)") ∷ []))
    ≡ Err (codes "$(params.y)")
object_lacks_a_value = refl

-- below a key a text alone is due
list_at_key : substituted_value env (Obj (pair (codes "k") (codes "$(params.x[*])") ∷ [])) ≡ Err (codes "$(params.x[*])")
list_at_key = refl

object_at_key : substituted_value env (Obj (pair (codes "k") (codes "$(params.o[*])") ∷ [])) ≡ Err (codes "$(params.o[*])")
object_at_key = refl

-- matrices

abbrev one_list : List ℕ → List (List ℕ) → List Param
one_list name texts = param name (Arr texts) ∷ []

abbrev in_matrix : List (List ℕ) → List (List ℕ) → Option (Option Matrix)
in_matrix list entry = matrix_in env (Some (record { params = one_list (codes "p") list; include = one_list (codes "q") entry ∷ [] }))

spliced_in_matrix : in_matrix (codes "a" ∷ codes "$(params.x[*])" ∷ []) (codes "$(params['a.b'])" ∷ [])
    ≡ Some (Some (record { params = one_list (codes "p") (codes "a" ∷ codes "b" ∷ codes "c" ∷ []); include = one_list (codes "q") (codes "1" ∷ []) ∷ [] }))
spliced_in_matrix = refl

list_without_value : in_matrix (codes "a" ∷ codes "$(params.z)" ∷ []) (codes "d" ∷ []) ≡ None
list_without_value = refl

entry_without_value : in_matrix (codes "a" ∷ codes "e" ∷ []) (codes "$(params.x)" ∷ []) ≡ None
entry_without_value = refl

no_matrix : matrix_in env None ≡ Some None
no_matrix = refl

star_as_a_list : list_in env (param (codes "p") (Str (codes "$(params.x[*])"))) ≡ Some (param (codes "p") (Arr (codes "b" ∷ codes "c" ∷ [])))
star_as_a_list = refl

text_as_a_list : list_in env (param (codes "p") (Str (codes "$(params.t)"))) ≡ None
text_as_a_list = refl

object_as_a_list : list_in env (param (codes "p") (Str (codes "$(params.o[*])"))) ≡ None
object_as_a_list = refl

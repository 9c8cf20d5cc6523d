-- What may stand in a scope.
use Rattle.std.proofs.Common.{◌≡◌, ℕ, Bool, List, [], ◌∷◌, refl, true, false}
use Rattle.std.specs.Prelude.{codes, Option, Some, None}
use Rattle.std.specs.Fmt.{digits}
use Rattle.tk_types.specs.declared.value.ParamSpec.{ParamSpec}
use Rattle.tk_types.specs.declared.value.ParamType.{ParamType}
use Rattle.tk_types.specs.declared.value.ParamType.TheVariants.{Str as string, Arr as array, Obj as object}
use Rattle.tk_bind.specs.declared.refusal.CheckError.{CheckError}
use Rattle.tk_bind.specs.declared.refusal.CheckError.TheVariants.{BadReference, Unknown, WrongType}
use Rattle.tk_bind.specs.declared.scope.Scope.{Scope}
use Rattle.tk_bind.specs.Check.{text_fault}

abbrev declares : List ℕ → ParamType → ParamSpec
declares name kind = record { name = name; kind = kind; default_value = None; properties = [] }

-- a text `t`, a list `x`, an object `o`, `u` of an unknown type, and a result path
abbrev scope : Bool → Scope
scope results =
    record {
      params = declares (codes "t") string ∷ declares (codes "x") array ∷ declares (codes "o") object ∷ [];
      untyped = codes "u" ∷ [];
      tasks = [];
      words = codes "context.taskRun.name" ∷ [];
      results = results;
      finally_results = false;
      paths = codes "results.r.path" ∷ [];
    }

-- where `[*]` may be the whole, and where it may not
abbrev Faults : Type 0
Faults = Option CheckError × Option CheckError

abbrev faults : List ℕ → Faults
faults text = (text_fault (scope false) true text, text_fault (scope false) false text)

abbrev good : Faults
good = (None, None)

abbrev all_tell : CheckError → Faults
all_tell error = (Some error, Some error)

-- each selector on a text, a list and an object

text_alone : faults (codes "$(params.t)") ≡ good
text_alone = refl

index_of_text : faults (codes "$(params.t[0])") ≡ all_tell (WrongType (codes "$(params.t[0])"))
unfolding digits
index_of_text = refl

star_of_text : faults (codes "$(params.t[*])") ≡ all_tell (WrongType (codes "$(params.t[*])"))
star_of_text = refl

key_of_text : faults (codes "$(params.t.k)") ≡ all_tell (WrongType (codes "$(params.t.k)"))
key_of_text = refl

list_alone : faults (codes "$(params.x)") ≡ all_tell (WrongType (codes "$(params.x)"))
list_alone = refl

index_of_list : faults (codes "$(params.x[0])") ≡ good
unfolding digits
index_of_list = refl

star_of_list : faults (codes "$(params.x[*])") ≡ (None, Some (WrongType (codes "$(params.x[*])")))
star_of_list = refl

key_of_list : faults (codes "$(params.x.k)") ≡ all_tell (WrongType (codes "$(params.x.k)"))
key_of_list = refl

object_alone : faults (codes "$(params.o)") ≡ all_tell (WrongType (codes "$(params.o)"))
object_alone = refl

index_of_object : faults (codes "$(params.o[0])") ≡ all_tell (WrongType (codes "$(params.o[0])"))
unfolding digits
index_of_object = refl

star_of_object : faults (codes "$(params.o[*])") ≡ (None, Some (WrongType (codes "$(params.o[*])")))
star_of_object = refl

key_of_object : faults (codes "$(params.o.k)") ≡ good
key_of_object = refl

-- any selector on what has an unknown type

untyped_alone : faults (codes "$(params.u)$(params.u[0])$(params.u.k)") ≡ good
unfolding digits
untyped_alone = refl

star_of_untyped : faults (codes "$(params.u[*])") ≡ (None, Some (WrongType (codes "$(params.u[*])")))
star_of_untyped = refl

-- what isn't there, and the order of what is told

star_beside_what_is_not_declared : text_fault (scope false) true (codes "-$(params.x[*])$(params.q)") ≡ Some (BadReference 1)
star_beside_what_is_not_declared = refl

not_declared : text_fault (scope false) false (codes "$(params.q)") ≡ Some (Unknown (codes "$(params.q)"))
not_declared = refl

star_beside_text : text_fault (scope false) true (codes "-$(params.x[*])") ≡ Some (BadReference 1)
star_beside_text = refl

first_not_declared : text_fault (scope false) false (codes "$(params.u)$(params.q)$(params.p)") ≡ Some (Unknown (codes "$(params.q)"))
first_not_declared = refl

unknown_before_wrong_type : text_fault (scope false) false (codes "$(params.x)$(params.p)$(params.q)") ≡ Some (Unknown (codes "$(params.p)"))
unknown_before_wrong_type = refl

first_of_wrong_type : text_fault (scope false) true (codes "$(params.t)$(params.x)$(params.o)") ≡ Some (WrongType (codes "$(params.x)"))
first_of_wrong_type = refl

seen_and_typed : text_fault (scope false) false (codes "$(params.x[0])$(params.u.k)$(context.taskRun.name)$(results.r.path)") ≡ None
unfolding digits
seen_and_typed = refl

seen_beside_results : text_fault (scope true) false (codes "$(params.u.k) $(params.u) $(context.taskRun.name) $(results.r.path) $(tasks.a.results.r) $(tasks.a.status)") ≡ None
seen_beside_results = refl

results_not_seen : text_fault (scope false) false (codes "$(tasks.a.results.r)") ≡ Some (Unknown (codes "$(tasks.a.results.r)"))
results_not_seen = refl

results_seen : text_fault (scope true) false (codes "$(tasks.a.results.r)$(tasks.status)") ≡ None
results_seen = refl

results_of_finally : text_fault (scope true) false (codes "$(finally.a.results.r)") ≡ Some (Unknown (codes "$(finally.a.results.r)"))
results_of_finally = refl

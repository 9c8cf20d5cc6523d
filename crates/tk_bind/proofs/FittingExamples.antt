-- Which bodies can run with what is given.
use Rattle.std.proofs.Common.{◌≡◌, ℕ, Bool, List, [], ◌∷◌, refl, true, false}
use Rattle.std.specs.Prelude.{codes, Some, None}
use Rattle.tk_types.specs.declared.value.Param.{Param}
use Rattle.tk_types.specs.declared.value.ParamType.TheVariants.{Str as string}
use Rattle.tk_types.specs.declared.value.Value.{Value}
use Rattle.tk_types.specs.declared.value.Value.TheVariants.{Str, Arr}
use Rattle.tk_types.specs.declared.task.TaskBody.{TaskBody}
use Rattle.tk_bind.specs.Fits.{fits}

abbrev param : List ℕ → Value → Param
param name value = record { name = name; value = value }

-- a task that declares the parameter `p`, the result `r` and the workspace `w`, and sees `q` from outside
abbrev body : List ℕ → List ℕ → TaskBody
body arg script =
    record {
      spec = record {
        params = record { name = codes "p"; kind = string; default_value = None; properties = [] } ∷ [];
        steps = record { name = None; command = []; args = arg ∷ []; script = Some script; env = []; dir = None; keep_going = false } ∷ [];
        results = record { name = codes "r"; kind = string } ∷ [];
        spaces = record { name = codes "w"; optional = false } ∷ [];
      };
      task_name = codes "t";
      outer = param (codes "q") (Str (codes "2")) ∷ [];
      fallback = [];
      bound = [];
    }

-- with these values for `p` and for `l`; and with nothing
abbrev fits_both : Value → Value → List ℕ → List ℕ → Bool × Bool
fits_both p l arg script = (fits (body arg script) (param (codes "p") p ∷ param (codes "l") l ∷ []), fits (body arg script) [])

abbrev one : Value
one = Str (codes "1")

abbrev text : Value
text = Str (codes "x")

abbrev two : Value
two = Arr (codes "x" ∷ codes "y" ∷ [])

bound_and_outside : fits_both one text (codes "$(params.p)") (codes "$(params.q)") ≡ (true, false)
bound_and_outside = refl

list_for_a_text : fits_both two text (codes "a") (codes "a") ≡ (false, false)
list_for_a_text = refl

star_in_args : fits_both one two (codes "$(params.l[*])") (codes "a") ≡ (true, false)
star_in_args = refl

star_in_script : fits_both one two (codes "a") (codes "$(params.l[*])") ≡ (false, false)
star_in_script = refl

args_lack_a_value : fits_both one text (codes "$(params.z)") (codes "a") ≡ (false, false)
args_lack_a_value = refl

script_lacks_a_value : fits_both one text (codes "a") (codes "$(params.z)") ≡ (false, false)
script_lacks_a_value = refl

words_of_a_body : fits_both one text (codes "$(results.r.path)") (codes "$(workspaces.w.claim)$(context.task.retry-count)") ≡ (true, false)
words_of_a_body = refl

other_result_path : fits_both one text (codes "$(results.z.path)") (codes "a") ≡ (false, false)
other_result_path = refl

results_of_tasks : fits_both one text (codes "a") (codes "$(tasks.a.results.r)") ≡ (false, false)
results_of_tasks = refl

-- a body that echoes `p` and `y`, which it doesn't declare
abbrev echo : List Param → TaskBody
echo outer =
    record {
      spec = record {
        params = record { name = codes "p"; kind = string; default_value = None; properties = [] } ∷ [];
        steps = record { name = None; command = codes "echo" ∷ codes "$(params.p)$(params.y)" ∷ []; args = []; script = None; env = []; dir = None; keep_going = false } ∷ [];
        results = [];
        spaces = [];
      };
      task_name = codes "t";
      outer = outer;
      fallback = [];
      bound = [];
    }

fits_with_outside : fits (echo (param (codes "y") one ∷ [])) (param (codes "p") one ∷ []) ≡ true
fits_with_outside = refl

lacks_a_value : fits (echo []) (param (codes "p") one ∷ []) ≡ false
lacks_a_value = refl

fits_with_undeclared : fits (echo []) (param (codes "p") one ∷ param (codes "y") one ∷ []) ≡ true
fits_with_undeclared = refl

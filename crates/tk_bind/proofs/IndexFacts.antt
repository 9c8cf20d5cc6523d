-- Values that are found by an index.
use Rattle.std.proofs.Common.{◌≡◌, ℕ, ◌+◌, ◌<◌, Bool, true, false, ◌&&◌, cond, List, length, get_or, take, bytes_eq, find, Option, Some, None, IfSome, option_map, refl, ap, subst, ◌∙◌}
use Rattle.std.specs.Option.{option_or}
use Rattle.std.proofs.lemmas.Slice.Eq.{bytes_eq-Decides}
use Rattle.tk_types.specs.declared.value.Param.{Param}
use Rattle.tk_types.specs.declared.value.Value.{Value}
use Rattle.tk_types.specs.Value.{value_named}
use Rattle.tk_bind.specs.declared.env.Given.{Given}
use Rattle.tk_bind.specs.Substitute.{result_named}
use Rattle.tk_types.proofs.FirstFound.{find_more, bytes_eq-swap}

same_name : (a b : List ℕ) → bytes_eq a b ≡ true → a ≡ b
same_name a b is = (bytes_eq-Decides a b).0 is

-- a value that is right where its name is the one that is asked for
either : {V : Type 0} (P : V → Type 0) (found : Option V) (b : Bool) (v : V) → IfSome found P → (b ≡ true → P v) → IfSome (option_or found (cond b (Some v) None)) P
either P (Some x) b v is here = is
either P None true v is here = here refl
either P None false v is here = is

-- the value of a name is added
pub named_more : (params : List Param) (name other : List ℕ) (v : Value) (found : Option Value) → value_named other params ≡ Some v → IfSome found (λ value. value_named name params ≡ Some value)
    → IfSome (option_or found (cond (bytes_eq name other) (Some v) None)) (λ value. value_named name params ≡ Some value)
named_more params name other v found is before = either (λ value. value_named name params ≡ Some value) found (bytes_eq name other) v before (λ same. ap (λ n. value_named n params) (same_name name other same) ∙ is)

-- the value that was found is that of the name
pub found_named : (params : List Param) (name : List ℕ) (o : Option Value) (v : Value) → IfSome o (λ value. value_named name params ≡ Some value) → o ≡ Some v → value_named name params ≡ Some v
found_named params name o v is same = subst (λ p. IfSome p (λ value. value_named name params ≡ Some value)) same is

-- one more result
value_or : (o : Option Given) (b : Bool) (g : Given) → option_map (λ (g : Given). g.value) (option_or o (cond b (Some g) None)) ≡ option_or (option_map (λ (g : Given). g.value) o) (cond b (Some g.value) None)
value_or (Some x) b g = refl
value_or None true g = refl
value_or None false g = refl

pub results_more : (task name : List ℕ) (results : List Given) (i : ℕ) (g : Given) → i < length results → g ≡ get_or results i g
    → result_named task name (take (i + 1) results) ≡ option_or (result_named task name (take i results)) (cond (bytes_eq task g.task && bytes_eq name g.name) (Some g.value) None)
results_more task name results i g lt is =
    let test : Given → Bool = λ g. bytes_eq g.task task && bytes_eq g.name name in
    ap (option_map (λ (g : Given). g.value)) (find_more test results i g lt is)
    ∙ (value_or (find test (take i results)) (test g) g
    ∙ (ap (λ b. option_or (result_named task name (take i results)) (cond (b && bytes_eq g.name name) (Some g.value) None)) (bytes_eq-swap g.task task)
    ∙ ap (λ b. option_or (result_named task name (take i results)) (cond (bytes_eq task g.task && b) (Some g.value) None)) (bytes_eq-swap g.name name)))

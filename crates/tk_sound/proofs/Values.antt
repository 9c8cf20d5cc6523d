-- What a reference takes where none lacks what is due.
use Rattle.std.proofs.Common.{◌≡◌, ◌≢◌, inl, inr, ℕ, Bool, true, false, not, ◌&&◌, List, [], ◌∷◌, Option, Some, None, refl, sym, ap, ◌∙◌, subst}
use Rattle.std.specs.Prelude.{codes, is_some, option_and_then, option_map, slice_get}
use Rattle.std.specs.Option.{option_map_or}
use Rattle.std.proofs.lemmas.Bool.{not-false}
use Rattle.tk_types.specs.declared.value.Value.{Value}
use Rattle.tk_types.specs.declared.value.Value.TheVariants.{Str, Arr, Obj}
use Rattle.tk_types.specs.Value.{text_at, value_named}
use Rattle.tk_vars.specs.declared.part.Part.{Part}
use Rattle.tk_vars.specs.declared.part.Part.TheVariants.{Name, Index, Star}
use Rattle.tk_vars.specs.Reading.{ends_with_star}
use Rattle.tk_vars.specs.Target.{Target, param, result, word}
use Rattle.tk_bind.specs.declared.env.Env.{Env}
use Rattle.tk_bind.specs.Selector.{selected}
use Rattle.tk_bind.specs.Substitute.{as_list, as_text, target_value}
use Rattle.tk_types.specs.declared.task.Step.{Step}
use Rattle.tk_types.specs.Behaviour.{type_of}
use Rattle.tk_resolve.specs.Due.{DueText, element_dues, is_due, single_dues}
use Rattle.tk_resolve.specs.Misuse.{is_judged}
use Rattle.tk_sound.proofs.Stars.{IsPlainTarget, IsStarTarget, last_or}

-- it is to a parameter, or to a word that is there, which has no `[*]` at its end
abbrev pub IsSeen : Env → Target → Type 0
IsSeen env (param name selector) = Unit {0}
IsSeen env (result task name selector) = ⊥
IsSeen env (word key) = (is_some (text_at key env.words) ≡ true) × (last_or 0 key ≢ 93)

-- no parameter has the name of a `[*]`
abbrev pub HasNoStar : Env → Type 0
HasNoStar env = value_named (codes "[*]") env.params ≡ None

-- what is due of an element of a step's lists, and of its other texts
abbrev plain_step : Step
plain_step = record { name = None; command = [] ∷ []; args = []; script = None; env = []; dir = Some []; keep_going = false }

abbrev pub in_list : (t : DueText) × (element_dues plain_step ≡ t ∷ [])
in_list = (_, refl)

abbrev pub alone : (t : DueText) × (single_dues plain_step ≡ t ∷ [])
alone = (_, refl)

-- it is to a parameter and takes nothing that is due
abbrev pub lacks_of : Env → DueText → Target → Bool
lacks_of env due target = is_judged [] target && not (option_map_or (λ (value : Value). is_due due.0 (type_of value)) (target_value env target) false)

-- a value that is due
record IsTaken (due : DueText) (found : Option Value) : Type 0 where
  value : Value
  is : found ≡ Some value
  fits : is_due due.0 (type_of value) ≡ true

taken : (due : DueText) (found : Option Value) → not (option_map_or (λ (value : Value). is_due due.0 (type_of value)) found false) ≡ false → IsTaken due found
taken due None e = absurd (let f : ⊥ = cc in f)
taken due (Some value) e = record { value = value; is = refl; fits = not-false (is_due due.0 (type_of value)) e }

-- texts
text_due : (value : Value) → is_due alone.0.0 (type_of value) ≡ true → is_some (as_text value) ≡ true
text_due (Str text) e = refl
text_due (Arr texts) e = absurd (let f : ⊥ = cc in f)
text_due (Obj pairs) e = absurd (let f : ⊥ = cc in f)

word_text : (found : Option (List ℕ)) → is_some found ≡ true → is_some (option_and_then as_text (option_map Str found)) ≡ true
word_text None e = absurd (let f : ⊥ = cc in f)
word_text (Some text) e = refl

pub one_text : (env : Env) (target : Target) → IsSeen env target → lacks_of env alone.0 target ≡ false → is_some (option_and_then as_text (target_value env target)) ≡ true
one_text env (param name selector) seen e =
    let found = taken alone.0 (target_value env (param name selector)) e in
    subst (λ o. is_some (option_and_then as_text o) ≡ true) (sym found.is) (text_due found.value found.fits)
one_text env (result task name selector) seen e = absurd seen
one_text env (word key) seen e = word_text (text_at key env.words) seen.0

-- what a selector without `[*]` takes is a text
mapped_text : (found : Option (List ℕ)) (value : Value) → option_map Str found ≡ Some value → is_some (as_text value) ≡ true
mapped_text None value e = absurd (let f : ⊥ = cc in f)
mapped_text (Some text) value e = subst (λ (v : Value). is_some (as_text v) ≡ true) (let s : Str text ≡ value = cc in s) refl

plain_selected : (selector : List Part) (from value : Value) → ends_with_star selector ≡ false → selected selector from ≡ Some value → is_some (as_text value) ≡ true
plain_selected [] (Str text) value plain e = mapped_text (Some text) value e
plain_selected [] (Arr texts) value plain e = absurd (let f : ⊥ = cc in f)
plain_selected [] (Obj pairs) value plain e = absurd (let f : ⊥ = cc in f)
plain_selected (Index i ∷ []) (Str text) value plain e = absurd (let f : ⊥ = cc in f)
plain_selected (Index i ∷ []) (Arr texts) value plain e = mapped_text (slice_get texts i) value e
plain_selected (Index i ∷ []) (Obj pairs) value plain e = absurd (let f : ⊥ = cc in f)
plain_selected (Name key ∷ []) (Str text) value plain e = absurd (let f : ⊥ = cc in f)
plain_selected (Name key ∷ []) (Arr texts) value plain e = absurd (let f : ⊥ = cc in f)
plain_selected (Name key ∷ []) (Obj pairs) value plain e = mapped_text (text_at key pairs) value e
plain_selected (Star ∷ []) from value plain e = absurd (let f : ⊥ = cc in f)
plain_selected (Index i ∷ q ∷ qs) from value plain e = absurd (let f : ⊥ = cc in f)
plain_selected (Name key ∷ q ∷ qs) from value plain e = absurd (let f : ⊥ = cc in f)
plain_selected (Star ∷ q ∷ qs) from value plain e = absurd (let f : ⊥ = cc in f)

plain_found : (selector : List Part) (from : Option Value) (value : Value) → ends_with_star selector ≡ false → option_and_then (selected selector) from ≡ Some value → is_some (as_text value) ≡ true
plain_found selector None value plain e = absurd (let f : ⊥ = cc in f)
plain_found selector (Some from) value plain e = plain_selected selector from value plain e

pub plain_element : (env : Env) (target : Target) → IsSeen env target → IsPlainTarget target → lacks_of env in_list.0 target ≡ false → is_some (option_and_then as_text (target_value env target)) ≡ true
plain_element env (param name selector) seen plain e =
    let found = taken in_list.0 (target_value env (param name selector)) e in
    subst (λ o. is_some (option_and_then as_text o) ≡ true) (sym found.is)
    (plain_found selector (value_named name env.params) found.value plain found.is)
plain_element env (result task name selector) seen plain e = absurd seen
plain_element env (word key) seen plain e = word_text (text_at key env.words) seen.0

-- what a selector with `[*]` takes is no text, and a list where no object is due
list_due : (value : Value) → is_some (as_text value) ≡ false → is_due in_list.0.0 (type_of value) ≡ true → is_some (as_list value) ≡ true
list_due (Str text) other e = absurd (let f : ⊥ = cc in f)
list_due (Arr texts) other e = refl
list_due (Obj pairs) other e = absurd (let f : ⊥ = cc in f)

star_selected : (selector : List Part) (from value : Value) → ends_with_star selector ≡ true → selected selector from ≡ Some value → is_some (as_text value) ≡ false
star_selected [] from value star e = absurd (let f : ⊥ = cc in f)
star_selected (Index i ∷ []) from value star e = absurd (let f : ⊥ = cc in f)
star_selected (Name key ∷ []) from value star e = absurd (let f : ⊥ = cc in f)
star_selected (Star ∷ []) (Str text) value star e = absurd (let f : ⊥ = cc in f)
star_selected (Star ∷ []) (Arr texts) value star e = subst (λ (v : Value). is_some (as_text v) ≡ false) (let s : Arr texts ≡ value = cc in s) refl
star_selected (Star ∷ []) (Obj pairs) value star e = subst (λ (v : Value). is_some (as_text v) ≡ false) (let s : Obj pairs ≡ value = cc in s) refl
star_selected (Index i ∷ q ∷ qs) from value star e = absurd (let f : ⊥ = cc in f)
star_selected (Name key ∷ q ∷ qs) from value star e = absurd (let f : ⊥ = cc in f)
star_selected (Star ∷ q ∷ qs) from value star e = absurd (let f : ⊥ = cc in f)

star_found : (selector : List Part) (from : Option Value) (value : Value) → ends_with_star selector ≡ true → option_and_then (selected selector) from ≡ Some value → is_some (as_text value) ≡ false
star_found selector None value star e = absurd (let f : ⊥ = cc in f)
star_found selector (Some from) value star e = star_selected selector from value star e

none_taken : (selector : List Part) (from : Option Value) (value : Value) → from ≡ None → option_and_then (selected selector) from ≡ Some value → ⊥
none_taken selector None value none e = cc
none_taken selector (Some from) value none e = cc

param_list : (env : Env) (name : List ℕ) (selector : List Part) (value : Value) → HasNoStar env → IsStarTarget (param name selector) → target_value env (param name selector) ≡ Some value
    → is_due in_list.0.0 (type_of value) ≡ true → is_some (as_list value) ≡ true
param_list env name selector value none (inl star) is fits = list_due value (star_found selector (value_named name env.params) value star is) fits
param_list env name selector value none (inr (named, empty)) is fits =
    absurd (none_taken selector (value_named name env.params) value (ap (λ n. value_named n env.params) named ∙ none) is)

pub star_element : (env : Env) (target : Target) → HasNoStar env → IsSeen env target → IsStarTarget target → lacks_of env in_list.0 target ≡ false → is_some (option_and_then as_list (target_value env target)) ≡ true
star_element env (param name selector) none seen star e =
    let found = taken in_list.0 (target_value env (param name selector)) e in
    subst (λ o. is_some (option_and_then as_list o) ≡ true) (sym found.is) (param_list env name selector found.value none star found.is found.fits)
star_element env (result task name selector) none seen star e = absurd seen
star_element env (word key) none seen star e = absurd (seen.1 star)

-- References that end with `[*]`, and those that don't, by what they refer to.
use Rattle.std.proofs.Common.{◌≡◌, ◌⊎◌, inl, inr, ℕ, Bool, true, false, ◌||◌, List, [], ◌∷◌, ◌++◌, Option, Some, None, refl, ◌∙◌}
use Rattle.std.specs.Prelude.{bytes_eq, codes, if◌then◌else◌, unwrap_or}
use Rattle.tk_vars.specs.declared.part.Part.{Part}
use Rattle.tk_vars.specs.declared.part.Part.TheVariants.{Name, Index, Star}
use Rattle.tk_vars.specs.Reading.{ends_with_star}
use Rattle.tk_vars.specs.Target.{Target, param, result, word, key_of, key_part, param_target, result_target, target_of}

-- the last byte of a text
abbrev pub last_or : ℕ → List ℕ → ℕ
last_or d [] = d
last_or d (x ∷ xs) = last_or x xs

pub last_behind : (d : ℕ) (xs : List ℕ) (y : ℕ) (ys : List ℕ) → last_or d (xs ++ (y ∷ ys)) ≡ last_or y ys
last_behind d [] y ys = refl
last_behind d (x ∷ xs) y ys = last_behind x xs y ys

same_last : (d : ℕ) (xs : List ℕ) → last_or 0 xs ≡ 93 → last_or d xs ≡ 93
same_last d [] e = absurd (let f : ⊥ = cc in f)
same_last d (x ∷ xs) e = e

-- the key of parts that end with `[*]` ends so
key_ends : (p : Part) (parts : List Part) → ends_with_star (p ∷ parts) ≡ true → last_or 0 (key_of (p ∷ parts)) ≡ 93
key_ends Star [] e = refl
key_ends (Name n) [] e = absurd (let f : ⊥ = cc in f)
key_ends (Index i) [] e = absurd (let f : ⊥ = cc in f)
key_ends (Name n) (q ∷ qs) e = last_behind 0 n 46 (key_of (q ∷ qs)) ∙ same_last 46 (key_of (q ∷ qs)) (key_ends q qs e)
key_ends (Index i) (q ∷ qs) e = last_behind 0 (key_part (Index i)) 46 (key_of (q ∷ qs)) ∙ same_last 46 (key_of (q ∷ qs)) (key_ends q qs e)
key_ends Star (q ∷ qs) e = last_behind 0 (key_part Star) 46 (key_of (q ∷ qs)) ∙ same_last 46 (key_of (q ∷ qs)) (key_ends q qs e)

-- what a reference that ends with `[*]` refers to
abbrev pub IsStarTarget : Target → Type 0
IsStarTarget (param name selector) = (ends_with_star selector ≡ true) ⊎ ((name ≡ codes "[*]") × (selector ≡ []))
IsStarTarget (result task name selector) = Unit {0}
IsStarTarget (word key) = last_or 0 key ≡ 93

-- and one that doesn't
abbrev pub IsPlainTarget : Target → Type 0
IsPlainTarget (param name selector) = ends_with_star selector ≡ false
IsPlainTarget (result task name selector) = Unit {0}
IsPlainTarget (word key) = Unit {0}

abbrev found_target : Bool → Bool → List ℕ → List Part → Target
found_target first second head parts =
    unwrap_or (if first then param_target parts else (if second then result_target parts else None)) (word (key_of (Name head ∷ parts)))

-- a parameter
param_star : (p : Part) (selector : List Part) → ends_with_star (p ∷ selector) ≡ true → IsStarTarget (param (key_part p) selector)
param_star (Name n) [] e = absurd (let f : ⊥ = cc in f)
param_star (Index i) [] e = absurd (let f : ⊥ = cc in f)
param_star Star [] e = inr (refl, refl)
param_star (Name n) (q ∷ qs) e = inl e
param_star (Index i) (q ∷ qs) e = inl e
param_star Star (q ∷ qs) e = inl e

param_plain : (p : Part) (selector : List Part) → ends_with_star (p ∷ selector) ≡ false → IsPlainTarget (param (key_part p) selector)
param_plain p [] e = refl
param_plain (Name n) (q ∷ qs) e = e
param_plain (Index i) (q ∷ qs) e = e
param_plain Star (q ∷ qs) e = e

-- a result, or a word
made_star : (made : Option Target) (key : List ℕ) → (made ≡ None → last_or 0 key ≡ 93) → ((t : Target) → made ≡ Some t → IsStarTarget t) → IsStarTarget (unwrap_or made (word key))
made_star None key ends holds = ends refl
made_star (Some t) key ends holds = holds t refl

made_plain : (made : Option Target) (key : List ℕ) → ((t : Target) → made ≡ Some t → IsPlainTarget t) → IsPlainTarget (unwrap_or made (word key))
made_plain None key holds = tt
made_plain (Some t) key holds = holds t refl

-- what is made of parts is a result
abbrev IsResult : Option Target → Type 0
IsResult None = Unit {0}
IsResult (Some (param name selector)) = ⊥
IsResult (Some (result task name selector)) = Unit {0}
IsResult (Some (word key)) = ⊥

result_where : (is : Bool) (task name : List ℕ) (selector : List Part) → IsResult (if is then Some (result task name selector) else None)
result_where true task name selector = tt
result_where false task name selector = tt

is_result : (parts : List Part) → IsResult (result_target parts)
is_result [] = tt
is_result (Index i ∷ parts) = tt
is_result (Star ∷ parts) = tt
is_result (Name task ∷ []) = tt
is_result (Name task ∷ Index i ∷ parts) = tt
is_result (Name task ∷ Star ∷ parts) = tt
is_result (Name task ∷ Name field ∷ []) = tt
is_result (Name task ∷ Name field ∷ p ∷ selector) = result_where (bytes_eq field (codes "results")) task (key_part p) selector

result_star : (made : Option Target) (key : List ℕ) → IsResult made → last_or 0 key ≡ 93 → IsStarTarget (unwrap_or made (word key))
result_star None key is ends = ends
result_star (Some (param name selector)) key is ends = absurd is
result_star (Some (result task name selector)) key is ends = tt
result_star (Some (word other)) key is ends = absurd is

result_plain : (made : Option Target) (key : List ℕ) → IsResult made → IsPlainTarget (unwrap_or made (word key))
result_plain None key is = tt
result_plain (Some (param name selector)) key is = absurd is
result_plain (Some (result task name selector)) key is = tt
result_plain (Some (word other)) key is = absurd is

headed_star : (first second : Bool) (head : List ℕ) (p : Part) (parts : List Part) → ends_with_star (p ∷ parts) ≡ true → IsStarTarget (found_target first second head (p ∷ parts))
headed_star true second head p parts e = param_star p parts e
headed_star false true head p parts e = result_star (result_target (p ∷ parts)) (key_of (Name head ∷ p ∷ parts)) (is_result (p ∷ parts)) (key_ends (Name head) (p ∷ parts) e)
headed_star false false head p parts e = key_ends (Name head) (p ∷ parts) e

headed_plain : (first second : Bool) (head : List ℕ) (parts : List Part) → ends_with_star parts ≡ false → IsPlainTarget (found_target first second head parts)
headed_plain true second head [] e = tt
headed_plain true second head (p ∷ parts) e = param_plain p parts e
headed_plain false true head parts e = result_plain (result_target parts) (key_of (Name head ∷ parts)) (is_result parts)
headed_plain false false head parts e = tt

pub star_target : (parts : List Part) → ends_with_star parts ≡ true → IsStarTarget (target_of parts)
star_target [] e = absurd (let f : ⊥ = cc in f)
star_target (Index i ∷ parts) e = key_ends (Index i) parts e
star_target (Star ∷ parts) e = key_ends Star parts e
star_target (Name head ∷ []) e = absurd (let f : ⊥ = cc in f)
star_target (Name head ∷ p ∷ parts) e = headed_star (bytes_eq head (codes "params")) (bytes_eq head (codes "tasks") || bytes_eq head (codes "finally")) head p parts e

pub plain_target : (parts : List Part) → ends_with_star parts ≡ false → IsPlainTarget (target_of parts)
plain_target [] e = tt
plain_target (Index i ∷ parts) e = tt
plain_target (Star ∷ parts) e = tt
plain_target (Name head ∷ parts) e = headed_plain (bytes_eq head (codes "params")) (bytes_eq head (codes "tasks") || bytes_eq head (codes "finally")) head parts e

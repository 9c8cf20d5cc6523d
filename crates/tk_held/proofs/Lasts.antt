-- The last bytes of a kubelet's paths.
use Rattle.std.proofs.Common.{◌≡◌, ℕ, ◌<◌, ◌≤◌, ◌+◌, ◌/◌, ◌%◌, ◌^◌, List, [], ◌∷◌, ◌++◌, Bool, true, false, refl, inl, inr, arith, reverse, get_or}
use Rattle.std.specs.Prelude.{codes, decimal, if◌then◌else◌}
use Rattle.std.proofs.lemmas.Bool.{cases_lt}
use Rattle.std.proofs.lemmas.Fmt.{decimal_digit, decimal_step}
use Rattle.std.proofs.lemmas.List.{reverse-append}
use Rattle.tk_space.specs.Space.{below, pod_folder}
use Rattle.tk_steps.specs.Paths.{start_path, post_path, script_path}
use Rattle.tk_steps.specs.Ready.{is_own_space, space_file}

-- the byte that stands so far from the end
abbrev pub byte_back : List ℕ → ℕ → ℕ
byte_back path back = get_or (reverse path) back 0

pub post_last : (root pod : List ℕ) (step : ℕ) → byte_back (post_path root pod step) 0 ≡ 116
post_last root pod step = rw (reverse-append (below (below (pod_folder root pod) (codes "run")) (decimal step) ++ codes "/") (codes "out")) refl

pub post_before : (root pod : List ℕ) (step : ℕ) → byte_back (post_path root pod step) 1 ≡ 117
post_before root pod step = rw (reverse-append (below (below (pod_folder root pod) (codes "run")) (decimal step) ++ codes "/") (codes "out")) refl

pub start_last : (root pod : List ℕ) → byte_back (start_path root pod) 0 ≡ 116
start_last root pod = rw (reverse-append (below (pod_folder root pod) (codes "run") ++ codes "/") (codes "start")) refl

pub start_before : (root pod : List ℕ) → byte_back (start_path root pod) 1 ≡ 114
start_before root pod = rw (reverse-append (below (pod_folder root pod) (codes "run") ++ codes "/") (codes "start")) refl

file_by : (folder : List ℕ) (own : Bool) → (100 < byte_back (below folder (if own then codes ".space" else codes ".claim")) 0) × (byte_back (below folder (if own then codes ".space" else codes ".claim")) 0 < 110)
file_by folder true = rw (reverse-append (folder ++ codes "/") (codes ".space")) (omega arith, omega arith)
file_by folder false = rw (reverse-append (folder ++ codes "/") (codes ".claim")) (omega arith, omega arith)

pub space_last : (root pod folder : List ℕ) → (100 < byte_back (space_file root pod folder) 0) × (byte_back (space_file root pod folder) 0 < 110)
space_last root pod folder = file_by folder (is_own_space root pod folder)

digit_last : (front : List ℕ) (n : ℕ) → n < 2 ^ 64 → byte_back (front ++ decimal n) 0 ≤ 57
digit_last front n small = elim (cases_lt n 10) [
  | inl less ↦
      let whole : reverse (front ++ decimal n) ≡ (48 + n) ∷ reverse front = rw (reverse-append front (decimal n), decimal_digit n less) refl in
      rw whole (omega arith)
  | inr more ↦
      let whole : reverse (front ++ decimal n) ≡ (48 + n % 10) ∷ (reverse (decimal (n / 10)) ++ reverse front) = rw (reverse-append front (decimal n), decimal_step n more small, reverse-append (decimal (n / 10)) ((48 + n % 10) ∷ [])) refl in
      rw whole (omega arith)
]

pub script_last : (root pod : List ℕ) (step : ℕ) → step < 2 ^ 64 → byte_back (script_path root pod step) 0 ≤ 57
script_last root pod step small = digit_last (below (pod_folder root pod) (codes "scripts") ++ codes "/") step small

-- The names of TaskRuns and pods have no slash.
use Rattle.std.proofs.Common.{◌≡◌, ◌≢◌, ℕ, zero, suc, ◌<◌, ◌+◌, ◌%◌, ◌/◌, ◌^◌, List, [], ◌∷◌, ◌++◌, length, take, Bool, true, false, ◌&&◌, Option, Some, None, refl, sym, ◌∙◌, subst, arith, codes, decimal, slice_index, if◌then◌else◌, append_assoc}
use Rattle.std.specs.Prelude.{nat_le, not, ◌==◌}
use Rattle.std.specs.List.{list_all}
use Rattle.std.proofs.lemmas.Fmt.{decimal_by_steps}
use Rattle.hex.specs.Hex.{encode_with, encode_lower, lower_digits}
use Rattle.tk_names.specs.Children.{child_name, cut_place, pod_name, whole_child_name}
use Rattle.tk_names.specs.Rules.{is_dns_label, is_object_name, is_label_byte, is_lower_or_digit, is_object_name_byte, first_is, last_is}
use Rattle.tk_space.specs.Apart.{IsName}

both : (a b : Bool) → (a && b) ≡ true → (a ≡ true) × (b ≡ true)
both true b is = (refl, is)
both false b is = cc

-- bytes of a test that a slash doesn't pass
passed_is_name : (test : ℕ → Bool) → test 47 ≡ false → (bytes : List ℕ) → list_all test bytes ≡ true → IsName bytes
passed_is_name test slash [] all = tt
passed_is_name test slash (b ∷ bytes) all =
    let parts = both (test b) (list_all test bytes) all in
    ((λ same. let now : test 47 ≡ true = subst (λ x. test x ≡ true) same parts.0 in cc (slash, now)), passed_is_name test slash bytes parts.1)

-- of four tests that are passed, the second
second : (a b c d : Bool) → (a && b && c && d) ≡ true → b ≡ true
second true true c d is = refl
second true false c d is = cc
second false b c d is = cc

pub object_name_is_name : (name : List ℕ) → is_object_name name ≡ true → IsName name
object_name_is_name name is = passed_is_name is_object_name_byte refl name (second (nat_le (length name) 253) (list_all is_object_name_byte name) (first_is is_lower_or_digit name) (last_is is_lower_or_digit name) is)

pub label_is_name : (name : List ℕ) → is_dns_label name ≡ true → IsName name
label_is_name name is = passed_is_name is_label_byte refl name (second (nat_le (length name) 63) (list_all is_label_byte name) (first_is is_lower_or_digit name) (last_is is_lower_or_digit name) is)

pub append_is_name : (a b : List ℕ) → IsName a → IsName b → IsName (a ++ b)
append_is_name [] b p q = q
append_is_name (x ∷ xs) b p q = (p.0, append_is_name xs b p.1 q)

take_is_name : (n : ℕ) (a : List ℕ) → IsName a → IsName (take n a)
take_is_name zero a p = tt
take_is_name (suc n) [] p = tt
take_is_name (suc n) (x ∷ xs) p = (p.0, take_is_name n xs p.1)

push_is_name : (a : List ℕ) (b : ℕ) → IsName a → b ≢ 47 → IsName (a ++ b ∷ [])
push_is_name a b p differs = append_is_name a (b ∷ []) p (differs, tt)

pub decimal_is_name : (n : ℕ) → n < 2 ^ 64 → IsName (decimal n)
decimal_is_name n small =
    decimal_by_steps (λ m ds. IsName ds)
    (λ m below. ((λ same. omega (arith, same)), tt))
    (λ m ds more named. push_is_name ds (48 + m % 10) named (λ same. omega (arith, same)))
    n small

-- digits of MD5

digit_is_none : (digits : List ℕ) → IsName digits → (place : ℕ) → slice_index digits place ≢ 47
digit_is_none [] p place = λ same. cc
digit_is_none (x ∷ xs) p zero = p.0
digit_is_none (x ∷ xs) p (suc place) = digit_is_none xs p.1 place

encoded_is_name : (digits : List ℕ) → IsName digits → (bytes : List ℕ) → IsName (encode_with digits bytes)
unfolding encode_with
encoded_is_name digits p [] = tt
encoded_is_name digits p (b ∷ bytes) = (digit_is_none digits p (b / 16), (digit_is_none digits p (b % 16), encoded_is_name digits p bytes))

lower_is_name : IsName lower_digits
lower_is_name = passed_is_name is_label_byte refl lower_digits refl

dash_is_name : IsName (codes "-")
dash_is_name = passed_is_name is_label_byte refl (codes "-") refl

shortened_by : (text hash : List ℕ) → IsName text → (short : Bool) → IsName (if short then text else take (cut_place text 30) text ++ codes "-" ++ encode_lower hash)
shortened_by text hash p true = p
shortened_by text hash p false =
    append_is_name (take (cut_place text 30) text ++ codes "-") (encode_lower hash) (append_is_name (take (cut_place text 30) text) (codes "-") (take_is_name (cut_place text 30) text p) dash_is_name)
    (encoded_is_name lower_digits lower_is_name hash)

-- a name, a dash and a name
dashed_is_name : (a b : List ℕ) → IsName a → IsName b → IsName (a ++ codes "-" ++ b)
dashed_is_name a b p q = append_is_name (a ++ codes "-") b (append_is_name a (codes "-") p dash_is_name) q

whole_is_name : (run task : List ℕ) (index : Option ℕ) → ((i : ℕ) → index ≡ Some i → i < 2 ^ 64) → IsName run → IsName task → IsName (whole_child_name run task index)
whole_is_name run task None small p q = dashed_is_name run task p q
whole_is_name run task (Some i) small p q = dashed_is_name (run ++ codes "-" ++ task) (decimal i) (dashed_is_name run task p q) (decimal_is_name i (small i refl))

pub child_is_name : (run task : List ℕ) (index : Option ℕ) → ((i : ℕ) → index ≡ Some i → i < 2 ^ 64) → IsName run → IsName task → IsName (child_name run task index)
child_is_name run task index small p q =
    let text = whole_child_name run task index in
    shortened_by text _ (whole_is_name run task index small p q) (nat_le (length text) 63)

pod_is_name_end : IsName (codes "-pod-")
pod_is_name_end = passed_is_name is_label_byte refl (codes "-pod-") refl

pub pod_is_name : (name : List ℕ) (attempt : ℕ) → attempt < 2 ^ 64 → IsName name → IsName (pod_name name attempt)
pod_is_name name attempt small p = append_is_name (name ++ codes "-pod-") (decimal attempt) (append_is_name name (codes "-pod-") p pod_is_name_end) (decimal_is_name attempt small)

-- a text with a dash isn't one without

abbrev is_no_dash : ℕ → Bool
is_no_dash b = not (b == 45)

stays_false : (t : Bool) → (t && false) ≡ false
stays_false true = refl
stays_false false = refl

dash_fails : (a b : List ℕ) → list_all is_no_dash (a ++ 45 ∷ b) ≡ false
dash_fails [] b = refl
dash_fails (x ∷ xs) b = rw (dash_fails xs b) (stays_false (is_no_dash x))

pub not_claims : (name : List ℕ) (attempt : ℕ) → pod_name name attempt ≢ codes "claims"
not_claims name attempt same =
    let parted : pod_name name attempt ≡ name ++ (codes "-pod-" ++ decimal attempt) = append_assoc name (codes "-pod-") (decimal attempt) in
    let failed : list_all is_no_dash (name ++ (codes "-pod-" ++ decimal attempt)) ≡ false = dash_fails name (112 ∷ 111 ∷ 100 ∷ 45 ∷ decimal attempt) in
    let now : list_all is_no_dash (codes "claims") ≡ false = subst (λ t. list_all is_no_dash t ≡ false) (sym parted ∙ same) failed in
    cc (now)

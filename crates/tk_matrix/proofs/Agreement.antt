-- An entry agrees with some combination of the lists exactly where each of its parameters is possible.
use Rattle.std.proofs.Common.{◌≡◌, ℕ, zero, suc, ◌+◌, ◌*◌, ◌/◌, ◌%◌, ◌<◌, ◌≤◌, Bool, true, false, cond, List, [], ◌∷◌, length, get_or, Option, Some, None, Decides, refl, sym, ap, ◌∙◌, subst, ⊎_elim, arith}
use Rattle.std.specs.Prelude.{All, find, option_map, bytes_eq}
use Rattle.std.specs.List.{list_all, list_any, range_with_len, position_or_len}
use Rattle.std.proofs.lemmas.Bool.{and_parts, and_from, cases_lt, false≢true}
use Rattle.std.proofs.lemmas.Bool.Decides.{Decides-by_and, same_from_decides}
use Rattle.std.proofs.lemmas.List.Folds.{list_any_at, Any-from_list_any}
use Rattle.std.proofs.lemmas.List.FromFn.{get_or-range_with_len, length-range_with_len}
use Rattle.std.proofs.lemmas.List.Sums.{passes_at_first, fails_before_first}
use Rattle.std.proofs.Math.Nat.{mod-eq_of_lt}
use Rattle.std.proofs.lemmas.Nat.{mul-add-lt, div-mul-add, mod-mul-add, mod_below}
use Rattle.std.proofs.lemmas.Slice.Eq.{bytes_eq-Decides}
use Rattle.tk_types.specs.declared.value.Param.{Param}
use Rattle.tk_types.specs.declared.value.Value.{Value}
use Rattle.tk_types.specs.declared.value.Value.TheVariants.{Str, Arr, Obj}
use Rattle.tk_types.specs.Value.{value_named, is_text}
use Rattle.tk_matrix.specs.Product.{list_of, product_count, product_combination}
use Rattle.tk_matrix.specs.Include.{is_same_text, agrees_on, agrees, agrees_somewhere}
use Rattle.tk_matrix.specs.Choice.{is_among, is_choice, is_possible}
use Rattle.tk_matrix.proofs.Digits.{with_text, product_at, product_combination-at, pos_parts}

abbrev val : Param → Value
val p = p.value

-- some list has the name, and the value among its texts, or none has the name
abbrev is_listed : Option Value → Value → Bool
is_listed None v = true
is_listed (Some list) v = is_among (list_of list) v

all_of : {X : Type 0} (test : X → Bool) (xs : List X) → Decides (list_all test xs) (All (λ x. test x ≡ true) xs)
all_of test xs = Decides-by_and test (λ x. test x ≡ true) (list_all test) (λ x. (λ e. e, λ e. e)) refl (λ _ _. refl) xs

bytes_eq-refl : (text : List ℕ) → bytes_eq text text ≡ true
bytes_eq-refl text = (bytes_eq-Decides text text).1 refl

-- ---- what agrees is possible

-- the text of a value that is one
is_text-Str : (text : List ℕ) (v : Value) → is_text text v ≡ true → v ≡ Str text
is_text-Str text (Str t) e = ap Str ((bytes_eq-Decides t text).0 e)
is_text-Str text (Arr texts) e = absurd (false≢true e)
is_text-Str text (Obj pairs) e = absurd (false≢true e)

same_text : (text : List ℕ) (u v : Value) → is_text text u ≡ true → is_text text v ≡ true → is_same_text (Some u) v ≡ true
same_text text u v e f =
    let P : Value → Type 0 = λ w. is_same_text (Some w) v ≡ true in
    subst P (sym (is_text-Str text u e)) f

listed_step : (b : Bool) (q : Param) (k : ℕ) (chosen found : Option Param) (v : Value) → k < length (list_of q.value) → (is_same_text (option_map val chosen) v ≡ true → is_listed (option_map val found) v ≡ true) → is_same_text (option_map val (cond b (Some (with_text q k)) chosen)) v ≡ true → is_listed (option_map val (cond b (Some q) found)) v ≡ true
listed_step true q k chosen found v lt rest h = list_any_at (λ text. is_text text v) (list_of q.value) k [] lt h
listed_step false q k chosen found v lt rest h = rest h

-- a text that a combination has under a name is one of the list of that name
listed : (ps : List Param) (i : ℕ) (p : Param) → 0 < product_count ps → agrees_on (product_at i ps) p ≡ true → is_listed (value_named p.name ps) p.value ≡ true
listed [] i p pos h = refl
listed (q ∷ ps) i p pos h =
    let parts = pos_parts (length (list_of q.value)) (product_count ps) pos in
    listed_step (bytes_eq q.name p.name) q (i % length (list_of q.value)) (find (λ (r : Param). bytes_eq r.name p.name) (product_at (i / length (list_of q.value)) ps)) (find (λ (r : Param). bytes_eq r.name p.name) ps) p.value (mod_below i (length (list_of q.value)) parts.0) (listed ps (i / length (list_of q.value)) p parts.1) h

none_is_some : (v : Value) → let none : Option Value = None in none ≡ Some v → ⊥
none_is_some v e = cc

named_step : (b : Bool) (q : Param) (k : ℕ) (chosen found : Option Param) (list : Value) → (option_map val found ≡ Some list → (text : List ℕ) × (option_map val chosen ≡ Some (Str text))) → option_map val (cond b (Some q) found) ≡ Some list → (text : List ℕ) × (option_map val (cond b (Some (with_text q k)) chosen) ≡ Some (Str text))
named_step true q k chosen found list rest e = (get_or (list_of q.value) k [], refl)
named_step false q k chosen found list rest e = rest e

-- a combination has a text under the name of each list
named : (ps : List Param) (i : ℕ) (name : List ℕ) (list : Value) → value_named name ps ≡ Some list → (text : List ℕ) × (value_named name (product_at i ps) ≡ Some (Str text))
named [] i name list e = absurd (none_is_some list e)
named (q ∷ ps) i name list e =
    named_step (bytes_eq q.name name) q (i % length (list_of q.value)) (find (λ (r : Param). bytes_eq r.name name) (product_at (i / length (list_of q.value)) ps)) (find (λ (r : Param). bytes_eq r.name name) ps) list (named ps (i / length (list_of q.value)) name list) e

first_step : (b : Bool) (x p : Param) (found : Option Param) (text : List ℕ) → (b ≡ true → is_text text x.value ≡ true) → is_text text p.value ≡ true → is_same_text (option_map val found) p.value ≡ true → is_same_text (option_map val (cond b (Some x) found)) p.value ≡ true
first_step true x p found text here e rest = same_text text x.value p.value (here refl) e
first_step false x p found text here e rest = rest

-- parameters that all agree with a combination have one text under a name that it has
first_agrees : (c : List Param) (text : List ℕ) (p : Param) (xs : List Param) → value_named p.name c ≡ Some (Str text) → is_text text p.value ≡ true → list_all (agrees_on c) xs ≡ true → agrees_on xs p ≡ true
first_agrees c text p [] e f h = refl
first_agrees c text p (x ∷ xs) e f h =
    let parts = and_parts (agrees_on c x) (list_all (agrees_on c) xs) h in
    let P : Option Value → Type 0 = λ o. is_same_text o x.value ≡ true in
    let here = λ (b : bytes_eq x.name p.name ≡ true). subst P (ap (λ name. value_named name c) ((bytes_eq-Decides x.name p.name).0 b) ∙ e) parts.0 in
    first_step (bytes_eq x.name p.name) x p (find (λ (r : Param). bytes_eq r.name p.name) xs) text here f (first_agrees c text p xs e f parts.1)

sound_step : (o : Option Value) (entry : List Param) (p : Param) → is_listed o p.value ≡ true → ((list : Value) → o ≡ Some list → agrees_on entry p ≡ true) → is_choice o entry p ≡ true
sound_step None entry p e f = refl
sound_step (Some list) entry p e f = and_from _ _ e (f list refl)

sound_at : (ps : List Param) (i : ℕ) (entry : List Param) (p : Param) → 0 < product_count ps → agrees (product_at i ps) entry ≡ true → agrees_on (product_at i ps) p ≡ true → is_choice (value_named p.name ps) entry p ≡ true
sound_at ps i entry p pos h here =
    let P : Option Value → Type 0 = λ o. is_same_text o p.value ≡ true in
    let first = λ (list : Value) (e : value_named p.name ps ≡ Some list). let at = named ps i p.name list e in first_agrees (product_at i ps) at.0 p entry at.1 (subst P at.1 here) h in
    sound_step (value_named p.name ps) entry p (listed ps i p pos here) first

sound : (ps : List Param) (i : ℕ) (entry : List Param) → 0 < product_count ps → agrees (product_at i ps) entry ≡ true → is_possible ps entry ≡ true
sound ps i entry pos h =
    (all_of (λ (p : Param). is_choice (value_named p.name ps) entry p) entry).1 (λ k d lt. sound_at ps i entry (get_or entry k d) pos h ((all_of (agrees_on (product_at i ps)) entry).0 h k d lt))

-- ---- what is possible agrees with the combination of these places

abbrev is_wanted : Option Value → List ℕ → Bool
is_wanted None text = false
is_wanted (Some v) text = is_text text v

abbrev place : Option Value → List (List ℕ) → ℕ
place o texts = position_or_len (is_wanted o) texts % length texts

-- the number of the combination that takes for each list the text that the entry gives
abbrev choice : List Param → List Param → ℕ
choice entry [] = 0
choice entry (q ∷ ps) = choice entry ps * length (list_of q.value) + place (value_named q.name entry) (list_of q.value)

choice-lt : (entry ps : List Param) → 0 < product_count ps → choice entry ps < product_count ps
choice-lt entry [] pos = omega arith
choice-lt entry (q ∷ ps) pos =
    let parts = pos_parts (length (list_of q.value)) (product_count ps) pos in
    mul-add-lt (choice entry ps) (length (list_of q.value)) (place (value_named q.name entry) (list_of q.value)) (product_count ps) (choice-lt entry ps parts.1) (mod_below _ (length (list_of q.value)) parts.0)

position_or_len-lt : {X : Type 0} (test : X → Bool) (xs : List X) → list_any test xs ≡ true → position_or_len test xs < length xs
position_or_len-lt test xs h =
    let at = Any-from_list_any test xs h in
    let none = λ (past : length xs ≤ position_or_len test xs). false≢true (sym (fails_before_first test xs at.0 at.1 (omega (arith, at.2))) ∙ ap test at.3 ∙ at.4) in
    ⊎_elim (λ lt. lt) (λ past. absurd (none past)) (cases_lt (position_or_len test xs) (length xs))

place_here : (v : Value) (texts : List (List ℕ)) → is_among texts v ≡ true → is_text (get_or texts (place (Some v) texts) []) v ≡ true
place_here v texts h =
    let lt = position_or_len-lt (λ text. is_text text v) texts h in
    let P : ℕ → Type 0 = λ k. is_text (get_or texts k []) v ≡ true in
    subst P (sym (mod-eq_of_lt lt)) (passes_at_first (λ text. is_text text v) texts [] lt)

place_found : (o : Option Value) (v : Value) (texts : List (List ℕ)) → o ≡ Some v → is_among texts v ≡ true → is_text (get_or texts (place o texts) []) v ≡ true
place_found o v texts e h =
    let P : Option Value → Type 0 = λ w. is_text (get_or texts (place w texts) []) v ≡ true in
    subst P (sym e) (place_here v texts h)

Str_from_same : (v w : Value) → is_same_text (Some v) w ≡ true → v ≡ w
Str_from_same (Str text) w e = sym (is_text-Str text w e)
Str_from_same (Arr texts) w e = absurd (false≢true e)
Str_from_same (Obj pairs) w e = absurd (false≢true e)

choice_step : (b : Bool) (q p : Param) (chosen found : Option Param) (entry : List Param) (v : Value) → (b ≡ true → value_named q.name entry ≡ Some v) → value_named p.name entry ≡ Some v → (is_choice (option_map val found) entry p ≡ true → is_same_text (option_map val chosen) p.value ≡ true) → is_choice (option_map val (cond b (Some q) found)) entry p ≡ true → is_same_text (option_map val (cond b (Some (with_text q (place (value_named q.name entry) (list_of q.value)))) chosen)) p.value ≡ true
choice_step true q p chosen found entry v here e rest h =
    let parts = and_parts (is_among (list_of q.value) p.value) (is_same_text (value_named p.name entry) p.value) h in
    let P : Option Value → Type 0 = λ o. is_same_text o p.value ≡ true in
    let same = Str_from_same v p.value (subst P e parts.1) in
    place_found (value_named q.name entry) p.value (list_of q.value) (here refl ∙ ap Some same) parts.0
choice_step false q p chosen found entry v here e rest h = rest h

-- the combination of these places agrees with each parameter of the entry
complete_at : (entry : List Param) (p : Param) (v : Value) → value_named p.name entry ≡ Some v → (ps : List Param) → 0 < product_count ps → is_choice (value_named p.name ps) entry p ≡ true → agrees_on (product_at (choice entry ps) ps) p ≡ true
complete_at entry p v e [] pos h = refl
complete_at entry p v e (q ∷ ps) pos h =
    let n = length (list_of q.value) in
    let k = place (value_named q.name entry) (list_of q.value) in
    let parts = pos_parts n (product_count ps) pos in
    let lt = mod_below (position_or_len (is_wanted (value_named q.name entry)) (list_of q.value)) n parts.0 in
    let here = λ (b : bytes_eq q.name p.name ≡ true). ap (λ name. value_named name entry) ((bytes_eq-Decides q.name p.name).0 b) ∙ e in
    let step = choice_step (bytes_eq q.name p.name) q p (find (λ (r : Param). bytes_eq r.name p.name) (product_at (choice entry ps) ps)) (find (λ (r : Param). bytes_eq r.name p.name) ps) entry v here e (complete_at entry p v e ps parts.1) h in
    let P : ℕ → Type 0 = λ j. agrees_on (with_text q j ∷ product_at (choice entry (q ∷ ps) / n) ps) p ≡ true in
    let Q : ℕ → Type 0 = λ i. agrees_on (with_text q k ∷ product_at i ps) p ≡ true in
    subst P (sym (mod-mul-add (choice entry ps) n k lt)) (subst Q (sym (div-mul-add (choice entry ps) n k lt)) step)

either : (b : Bool) (x : Param) (found : Option Param) → (v : Value) × (option_map val found ≡ Some v) → (v : Value) × (option_map val (cond b (Some x) found) ≡ Some v)
either true x found h = (x.value, refl)
either false x found h = h

value_named-here : (xs : List Param) (k : ℕ) (d : Param) → k < length xs → (v : Value) × (value_named (get_or xs k d).name xs ≡ Some v)
value_named-here [] k d h = absurd (omega arith)
value_named-here (x ∷ xs) zero d h =
    let found = find (λ (r : Param). bytes_eq r.name x.name) xs in
    (x.value, ap (λ b. option_map val (cond b (Some x) found)) (bytes_eq-refl x.name))
value_named-here (x ∷ xs) (suc k) d h =
    let name = (get_or xs k d).name in
    either (bytes_eq x.name name) x (find (λ (r : Param). bytes_eq r.name name) xs) (value_named-here xs k d (omega arith))

complete : (ps entry : List Param) → 0 < product_count ps → is_possible ps entry ≡ true → agrees (product_at (choice entry ps) ps) entry ≡ true
complete ps entry pos h =
    let each = (all_of (λ (p : Param). is_choice (value_named p.name ps) entry p) entry).0 h in
    (all_of (agrees_on (product_at (choice entry ps) ps)) entry).1 (λ k d lt. let here = value_named-here entry k d lt in complete_at entry (get_or entry k d) here.0 here.1 ps pos (each k d lt))

-- ---- both together

possible_from_somewhere : (ps entry : List Param) → 0 < product_count ps → agrees_somewhere ps entry ≡ true → is_possible ps entry ≡ true
possible_from_somewhere ps entry pos h =
    let at = Any-from_list_any (λ i. agrees (product_combination ps i) entry) (range_with_len 0 (product_count ps)) h in
    let P : List Param → Type 0 = λ c. agrees c entry ≡ true in
    sound ps at.1 entry pos (subst P (product_combination-at ps at.1) at.4)

somewhere_from_possible : (ps entry : List Param) → 0 < product_count ps → is_possible ps entry ≡ true → agrees_somewhere ps entry ≡ true
somewhere_from_possible ps entry pos h =
    let i = choice entry ps in
    let lt = choice-lt entry ps pos in
    let at : get_or (range_with_len 0 (product_count ps)) i 0 ≡ i = get_or-range_with_len 0 (product_count ps) i 0 lt ∙ omega arith in
    let P : List Param → Type 0 = λ c. agrees c entry ≡ true in
    let Q : ℕ → Type 0 = λ j. agrees (product_combination ps j) entry ≡ true in
    list_any_at (λ j. agrees (product_combination ps j) entry) (range_with_len 0 (product_count ps)) i 0 (omega (arith, length-range_with_len 0 (product_count ps), lt)) (subst Q (sym at) (subst P (sym (product_combination-at ps i)) (complete ps entry pos h)))

-- an entry agrees with some combination of lists that aren't empty exactly where it is possible
pub is_possible-somewhere : (ps entry : List Param) → 0 < product_count ps → is_possible ps entry ≡ agrees_somewhere ps entry
is_possible-somewhere ps entry pos =
    same_from_decides {P = is_possible ps entry ≡ true} (is_possible ps entry) (agrees_somewhere ps entry) (λ e. e, λ e. e) (possible_from_somewhere ps entry pos, somewhere_from_possible ps entry pos)

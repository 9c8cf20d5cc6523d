-- Whether a head, and `.` or `[`, stand behind `$(`; what stands between two quotes; the last part.
use Rattle.std.proofs.Common.{◌≡◌, ℕ, suc, ◌+◌, ◌-◌, ◌<◌, ◌≤◌, List, [], ◌∷◌, ◌++◌, length, take, drop, get_or, refl, sym, ◌∙◌, ap, subst, Bool, true, false, ◌&&◌, ◌||◌, not, arith, length-append, drop-cons, Some, None}
use Rattle.std.specs.Prelude.{bytes_eq, nat_eq, MatchOption, ◌==◌}
use Rattle.std.specs.List.{list_any, list_all, starts_with, slice_get}
use Rattle.std.proofs.lemmas.Bool.{eqb-true, eq-eqb}
use Rattle.std.proofs.lemmas.List.{take-append-drop, drop_all}
use Rattle.tk_vars.specs.declared.part.Part.{Part}
use Rattle.tk_vars.specs.declared.part.Part.TheVariants.{Name, Index, Star}
use Rattle.tk_vars.specs.Grammar.{is_quoted_byte, is_headed, heads, must_stand}
use Rattle.tk_vars.specs.Reading.{ends_with_star, is_star_part}
use Rattle.tk_vars.specs.Steps.{begins_with, opens, is_between}
use Rattle.tk_vars.proofs.TextFacts.{and_first, and_second, same_text}
use Rattle.tk_vars.proofs.TailFacts.{same_test, and_both, never, same_bytes, same_rest}

no_true : false ≡ true → ⊥
no_true e = cc

-- a head and what follows it

abbrev is_first : ℕ → List ℕ → Bool
is_first e [] = false
is_first e (b ∷ bs) = e == b

behind_head : (head rest : List ℕ) (e : ℕ) → starts_with nat_eq (head ++ rest) (head ++ e ∷ []) ≡ is_first e rest
behind_head [] [] e = refl
behind_head [] (b ∷ bs) e = and_true (e == b)
  where
    and_true : (a : Bool) → (a && true) ≡ a
    and_true true = refl
    and_true false = refl
behind_head (h ∷ hs) rest e = rw (eq-eqb h h refl) (behind_head hs rest e)

other_way : (a b : ℕ) → (a == b) ≡ (b == a)
other_way a b = same_test (a == b) (b == a) (λ e. eq-eqb b a (sym (eqb-true a b e))) (λ e. eq-eqb a b (sym (eqb-true b a e)))

first_opens : (rest : List ℕ) → (is_first 46 rest || is_first 91 rest) ≡ opens rest
first_opens [] = refl
first_opens (b ∷ bs) = ap (λ r. r || (91 == b)) (other_way 46 b) ∙ ap (λ r. (b == 46) || r) (other_way 91 b)

pub found_head : (text head rest : List ℕ) → bytes_eq (take (length head) text) head ≡ true → rest ≡ drop (length head) text
    → is_headed (36 ∷ 40 ∷ text) head ≡ opens rest
found_head text head rest same rest_is =
    let front : take (length head) text ≡ head = same_text (take (length head) text) head same in
    let whole : text ≡ head ++ rest = sym (take-append-drop (length head) text) ∙ (ap (λ f. f ++ drop (length head) text) front ∙ ap (λ r. head ++ r) (sym rest_is)) in
    ap (λ t. starts_with nat_eq t (head ++ 46 ∷ []) || starts_with nat_eq t (head ++ 91 ∷ [])) whole
    ∙ (ap (λ r. r || starts_with nat_eq (head ++ rest) (head ++ 91 ∷ [])) (behind_head head rest 46) ∙ (ap (λ r. is_first 46 rest || r) (behind_head head rest 91) ∙ first_opens rest))

front_of : (text head : List ℕ) (e : ℕ) → starts_with nat_eq text (head ++ e ∷ []) ≡ true → bytes_eq (take (length head) text) head ≡ true
front_of text [] e h = refl
front_of [] (b ∷ bs) e h = absurd (no_true h)
front_of (t ∷ ts) (b ∷ bs) e h =
    let first : b ≡ t = eqb-true b t (and_first (nat_eq b t) (starts_with nat_eq ts (bs ++ e ∷ [])) h) in
    and_both (nat_eq t b) (bytes_eq (take (length bs) ts) bs) (eq-eqb t b (sym first)) (front_of ts bs e (and_second (nat_eq b t) (starts_with nat_eq ts (bs ++ e ∷ [])) h))

pub no_head : (text head : List ℕ) → bytes_eq (take (length head) text) head ≡ false → is_headed (36 ∷ 40 ∷ text) head ≡ false
no_head text head other =
    neither (starts_with nat_eq text (head ++ 46 ∷ [])) (starts_with nat_eq text (head ++ 91 ∷ [])) (λ e. no_true (sym other ∙ front_of text head 46 e)) (λ e. no_true (sym other ∙ front_of text head 91 e))
  where
    neither : (a b : Bool) → (a ≡ true → ⊥) → (b ≡ true → ⊥) → (a || b) ≡ false
    neither true b x y = absurd (x refl)
    neither false true x y = absurd (y refl)
    neither false false x y = refl

no_parenthesis : (after head : List ℕ) → begins_with 40 after ≡ false → is_headed (36 ∷ after) head ≡ false
no_parenthesis [] head other = refl
no_parenthesis (b ∷ bs) head other = rw (other_way 40 b ∙ other) refl

pub not_due : (after : List ℕ) → begins_with 40 after ≡ false → must_stand (36 ∷ after) ≡ false
not_due after other = no_heads heads
  where
    no_heads : (hs : List (List ℕ)) → list_any (is_headed (36 ∷ after)) hs ≡ false
    no_heads [] = refl
    no_heads (h ∷ hs) = rw (no_parenthesis after h other) (no_heads hs)

-- two quotes

ends_and_middle : (xs : List ℕ) → 2 ≤ length xs → xs ≡ get_or xs 0 0 ∷ take (length xs - 2) (drop 1 xs) ++ get_or xs (length xs - 1) 0 ∷ []
ends_and_middle [] long = absurd (omega arith)
ends_and_middle (b ∷ bs) long =
    let k : ℕ = length bs - 1 in
    let here : length (b ∷ bs) - 2 ≡ k = omega arith in
    let there : length (b ∷ bs) - 1 ≡ suc k = omega arith in
    let in_range : k < length bs = omega arith in
    let end : drop k bs ≡ get_or bs k 0 ∷ [] = drop-cons bs k 0 in_range ∙ ap (λ ys. get_or bs k 0 ∷ ys) (drop_all (suc k) bs (omega arith)) in
    ap (λ ys. b ∷ ys)
    (sym (take-append-drop k bs) ∙ (ap (λ ys. take k bs ++ ys) end ∙ (ap (λ n. take n bs ++ get_or bs k 0 ∷ []) (sym here) ∙ ap (λ n. take (length (b ∷ bs) - 2) bs ++ get_or (b ∷ bs) n 0 ∷ []) (sym there))))

abbrev middle : List ℕ → List ℕ
middle inner = take (length inner - 2) (drop 1 inner)

between_ends : (quote : ℕ) (inner : List ℕ) → 2 ≤ length inner → bytes_eq inner (quote ∷ middle inner ++ quote ∷ []) ≡ ((get_or inner 0 0 == quote) && (get_or inner (length inner - 1) 0 == quote))
between_ends quote inner long = same_test (bytes_eq inner (quote ∷ middle inner ++ quote ∷ [])) ((get_or inner 0 0 == quote) && (get_or inner (length inner - 1) 0 == quote)) to from
  where
    first : ℕ
    first = get_or inner 0 0

    last : ℕ
    last = get_or inner (length inner - 1) 0

    whole : inner ≡ first ∷ middle inner ++ last ∷ []
    whole = ends_and_middle inner long

    to : bytes_eq inner (quote ∷ middle inner ++ quote ∷ []) ≡ true → ((first == quote) && (last == quote)) ≡ true
    to e =
        let same : first ∷ (middle inner ++ last ∷ []) ≡ quote ∷ (middle inner ++ quote ∷ []) = sym whole ∙ same_text inner (quote ∷ middle inner ++ quote ∷ []) e in
        let heads : first ≡ quote = cc in
        let tails : middle inner ++ last ∷ [] ≡ middle inner ++ quote ∷ [] = cc in
        let ends : last ∷ [] ≡ quote ∷ [] = same_rest (middle inner) (last ∷ []) (quote ∷ []) tails in
        let lasts : last ≡ quote = cc in
        and_both (first == quote) (last == quote) (eq-eqb first quote heads) (eq-eqb last quote lasts)

    from : ((first == quote) && (last == quote)) ≡ true → bytes_eq inner (quote ∷ middle inner ++ quote ∷ []) ≡ true
    from e =
        let heads : first ≡ quote = eqb-true first quote (and_first (first == quote) (last == quote) e) in
        let lasts : last ≡ quote = eqb-true last quote (and_second (first == quote) (last == quote) e) in
        same_bytes inner (quote ∷ middle inner ++ quote ∷ []) (whole ∙ (ap (λ q. q ∷ (middle inner ++ last ∷ [])) heads ∙ ap (λ q. quote ∷ (middle inner ++ q ∷ [])) lasts))

pub between_test : (quote : ℕ) (inner : List ℕ) (first last : Bool) → 2 ≤ length inner → (get_or inner 0 0 == quote) ≡ first → (get_or inner (length inner - 1) 0 == quote) ≡ last
    → is_between quote inner ≡ ((first && last) && (not (length (middle inner) == 0) && list_all is_quoted_byte (middle inner)))
between_test quote inner first last long first_is last_is =
    ap (λ t. t && not (length (middle inner) == 0) && list_all is_quoted_byte (middle inner)) (between_ends quote inner long)
    ∙ (ap (λ t. (t && (get_or inner (length inner - 1) 0 == quote)) && not (length (middle inner) == 0) && list_all is_quoted_byte (middle inner)) first_is
    ∙ (ap (λ t. (first && t) && not (length (middle inner) == 0) && list_all is_quoted_byte (middle inner)) last_is
    ∙ and_assoc (first && last) (not (length (middle inner) == 0)) (list_all is_quoted_byte (middle inner))))
  where
    and_assoc : (a b c : Bool) → ((a && b) && c) ≡ (a && (b && c))
    and_assoc true b c = refl
    and_assoc false b c = refl

pub too_short : (quote : ℕ) (inner : List ℕ) → length inner < 2 → is_between quote inner ≡ false
too_short quote inner short = never (is_between quote inner) bad
  where
    bad : is_between quote inner ≡ true → ⊥
    bad e =
        let same : inner ≡ quote ∷ middle inner ++ quote ∷ [] =
        same_text inner (quote ∷ middle inner ++ quote ∷ []) (and_first (bytes_eq inner (quote ∷ middle inner ++ quote ∷ [])) (not (length (middle inner) == 0)) (and_first (bytes_eq inner (quote ∷ middle inner ++ quote ∷ []) && not (length (middle inner) == 0)) (list_all is_quoted_byte (middle inner)) e)) in
        let long : length inner ≡ suc (length (middle inner ++ quote ∷ [])) = ap length same in
        let sum : length (middle inner ++ quote ∷ []) ≡ length (middle inner) + 1 = length-append (middle inner) (quote ∷ []) in
        omega arith

-- the last part

same_last : (p q : Part) (qs : List Part) → ends_with_star (p ∷ q ∷ qs) ≡ ends_with_star (q ∷ qs)
same_last (Name n) q qs = refl
same_last (Index i) q qs = refl
same_last Star q qs = refl

pub last_part : (ps : List Part) → MatchOption (slice_get ps (length ps - 1)) (ends_with_star ps ≡ false) (λ p. ends_with_star ps ≡ is_star_part p)
last_part [] = refl
last_part (Star ∷ []) = refl
last_part (Name n ∷ []) = refl
last_part (Index i ∷ []) = refl
last_part (p ∷ q ∷ qs) =
    let place : length (p ∷ q ∷ qs) - 1 ≡ suc (length (q ∷ qs) - 1) = omega arith in
    let later : ends_with_star (p ∷ q ∷ qs) ≡ ends_with_star (q ∷ qs) = same_last p q qs in
    subst (λ n. MatchOption (slice_get (p ∷ q ∷ qs) n) (ends_with_star (p ∷ q ∷ qs) ≡ false) (λ r. ends_with_star (p ∷ q ∷ qs) ≡ is_star_part r)) (sym place)
    (subst (λ t. MatchOption (slice_get (q ∷ qs) (length (q ∷ qs) - 1)) (t ≡ false) (λ r. t ≡ is_star_part r)) (sym later) (last_part (q ∷ qs)))

pub last_star : (ps : List Part) (p : Part) → Some p ≡ slice_get ps (length ps - 1) → is_star_part p ≡ ends_with_star ps
last_star ps p e = sym (subst (λ o. MatchOption o (ends_with_star ps ≡ false) (λ r. ends_with_star ps ≡ is_star_part r)) (sym e) (last_part ps))

pub no_last : (ps : List Part) → None ≡ slice_get ps (length ps - 1) → false ≡ ends_with_star ps
no_last ps e = sym (subst (λ o. MatchOption o (ends_with_star ps ≡ false) (λ r. ends_with_star ps ≡ is_star_part r)) (sym e) (last_part ps))

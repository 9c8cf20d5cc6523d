-- What is written of a part is read again, whatever follows it.
use Rattle.std.proofs.Common.{◌≡◌, ℕ, zero, suc, ◌<◌, ◌^◌, Bool, true, false, List, [], ◌∷◌, length, Option, Some, None, bytes_eq, refl, ◌∙◌, arith}
use Rattle.std.specs.List.{AllByRecursion}
use Rattle.std.proofs.lemmas.Slice.Eq.{bytes_eq-Decides}
use Rattle.json.specs.Token.{Token}
use Rattle.json.specs.Json.{Json, null, boolean, number, string, array, object, Items, no_items, item, Members, no_members, member, Parse, after_end_array}
use Rattle.tk_payload.specs.Forms.{count, optional, listed, listed_items}
use Rattle.tk_payload.specs.Fits.{Below, Optional, Plain}
use Rattle.tk_payload.specs.Steps.{◌>>=◌, text_at, boolean_at, count_at, optional_at, value_here, member_at, key_at, items_at, listed_at}
use Rattle.tk_payload.proofs.Numbers.{number_again}

abbrev mutual
  -- the tokens of a value, and then the rest
  pub before : Json → List Token → List Token
  before null rest = Token.null ∷ rest
  before (boolean b) rest = Token.boolean b ∷ rest
  before (number s) rest = Token.number s ∷ rest
  before (string s) rest = Token.string s ∷ rest
  before (array js) rest = Token.begin_array ∷ items_before js rest
  before (object ms) rest = Token.begin_object ∷ members_before ms rest

  pub items_before : Items → List Token → List Token
  items_before no_items rest = Token.end_array ∷ rest
  items_before (item j js) rest = before j (items_before js rest)

  pub members_before : Members → List Token → List Token
  members_before no_members rest = Token.end_object ∷ rest
  members_before (member k j ms) rest = Token.key k ∷ before j (members_before ms rest)

-- what fits is read again
pub record Again {X : Type 0} (fits : X → Type 0) (json : X → Json) (at : Parse X) : Type 0 where
  pub again : (x : X) (rest : List Token) → fits x → at (before (json x) rest) ≡ Some (x, rest)

-- ---- what fits since it has no number

pub is_plain : {X : Type 0} (x : X) → Plain x
is_plain x = tt

pub all_plain : {X : Type 0} {fits : X → Type 0} → ((x : X) → fits x) → (xs : List X) → AllByRecursion fits xs
all_plain f [] = tt
all_plain f (x ∷ xs) = (f x, all_plain f xs)

pub optional_plain : {X : Type 0} {fits : X → Type 0} → ((x : X) → fits x) → (o : Option X) → Optional fits o
optional_plain f None = tt
optional_plain f (Some x) = f x

-- ---- each value has a token at least

mutual
  longer : (j : Json) (rest : List Token) → length rest < length (before j rest)
  longer null rest = omega arith
  longer (boolean b) rest = omega arith
  longer (number s) rest = omega arith
  longer (string s) rest = omega arith
  longer (array js) rest = omega (arith, longer_items js rest)
  longer (object ms) rest = omega (arith, longer_members ms rest)

  longer_items : (js : Items) (rest : List Token) → length rest < length (items_before js rest)
  longer_items no_items rest = omega arith
  longer_items (item j js) rest = omega (arith, longer j (items_before js rest), longer_items js rest)

  longer_members : (ms : Members) (rest : List Token) → length rest < length (members_before ms rest)
  longer_members no_members rest = omega arith
  longer_members (member k j ms) rest = omega (arith, longer j (members_before ms rest), longer_members ms rest)

-- ---- members

same_name : (name : List ℕ) → bytes_eq name name ≡ true
same_name name = (bytes_eq-Decides name name).1 refl

member_known : {X : Type 0} (name : List ℕ) (at : Parse X) (j : Json) (rest : List Token) → member_at name at (Token.key name ∷ before j rest) ≡ at (before j rest)
unfolding member_at
member_known name at null rest = rw (same_name name) refl
member_known name at (boolean b) rest = rw (same_name name) refl
member_known name at (number s) rest = rw (same_name name) refl
member_known name at (string s) rest = rw (same_name name) refl
member_known name at (array js) rest = rw (same_name name) refl
member_known name at (object ms) rest = rw (same_name name) refl

pub field : {X : Type 0} {fits : X → Type 0} {json : X → Json} {at : Parse X} → Again fits json at → (name : List ℕ) (x : X) (rest : List Token) → fits x
    → member_at name at (Token.key name ∷ before (json x) rest) ≡ Some (x, rest)
field {json = json} {at = at} a name x rest h = member_known name at (json x) rest ∙ a.again x rest h

pub key_known : (name : List ℕ) (j : Json) (rest : List Token) → key_at (Token.key name ∷ before j rest) ≡ Some (name, before j rest)
unfolding key_at
key_known name null rest = refl
key_known name (boolean b) rest = refl
key_known name (number s) rest = refl
key_known name (string s) rest = refl
key_known name (array js) rest = refl
key_known name (object ms) rest = refl

-- ---- plain values

text_read : (x : List ℕ) (rest : List Token) → Plain x → text_at (before (string x) rest) ≡ Some (x, rest)
unfolding text_at
text_read x rest fits = refl

pub text_again : Again Plain string text_at
text_again = record { again = text_read }

boolean_read : (x : Bool) (rest : List Token) → Plain x → boolean_at (before (boolean x) rest) ≡ Some (x, rest)
unfolding boolean_at
boolean_read x rest fits = refl

pub boolean_again : Again Plain boolean boolean_at
boolean_again = record { again = boolean_read }

count_read : (bits n : ℕ) (rest : List Token) → n < 2 ^ bits → n < 2 ^ 64 → count_at bits (before (count n) rest) ≡ Some (n, rest)
unfolding count_at
count_read bits n rest h small = rw (number_again bits n h small) refl

pub count_again_8 : Again (Below 8) count (count_at 8)
count_again_8 = record { again = λ n rest h. count_read 8 n rest h (omega arith) }

pub count_again_32 : Again (Below 32) count (count_at 32)
count_again_32 = record { again = λ n rest h. count_read 32 n rest h (omega arith) }

pub count_again_64 : Again (Below 64) count (count_at 64)
count_again_64 = record { again = λ n rest h. count_read 64 n rest h h }

-- ---- options

abbrev pub begins_null : Json → Bool
begins_null null = true
begins_null _ = false

-- no value of the type is null
abbrev pub IsNeverNull : {X : Type 0} → (X → Json) → Type 0
IsNeverNull {X} json = (x : X) → begins_null (json x) ≡ false

pub text_is_some : IsNeverNull string
text_is_some x = refl

pub count_is_some : IsNeverNull count
count_is_some x = refl

passes : {X : Type 0} (at : Parse X) (j : Json) (rest : List Token) → begins_null j ≡ false → optional_at at (before j rest) ≡ (at (before j rest) >>= λ x. Some (Some x.0, x.1))
unfolding optional_at
passes at null rest h = absurd cc
passes at (boolean b) rest h = refl
passes at (number s) rest h = refl
passes at (string s) rest h = refl
passes at (array js) rest h = refl
passes at (object ms) rest h = refl

module _ {X : Type 0} {fits : X → Type 0} {json : X → Json} {at : Parse X} (a : Again fits json at) where
  optional_read : IsNeverNull json → (o : Option X) (rest : List Token) → Optional fits o → optional_at at (before (optional json o) rest) ≡ Some (o, rest)
  unfolding optional_at
  optional_read never None rest h = refl
  optional_read never (Some x) rest h = passes at (json x) rest (never x) ∙ rw (a.again x rest h) refl

  pub optional_again : IsNeverNull json → Again (Optional fits) (optional json) (optional_at at)
  optional_again never = record { again = optional_read never }

  -- ---- lists

  no_end : (j : Json) (rest : List Token) → after_end_array (before j rest) ≡ None
  no_end null rest = refl
  no_end (boolean b) rest = refl
  no_end (number s) rest = refl
  no_end (string s) rest = refl
  no_end (array js) rest = refl
  no_end (object ms) rest = refl

  pub here : (j : Json) (rest : List Token) → value_here at (before j rest) ≡ at (before j rest)
  unfolding value_here
  here null rest = refl
  here (boolean b) rest = refl
  here (number s) rest = refl
  here (string s) rest = refl
  here (array js) rest = refl
  here (object ms) rest = refl

  -- each element takes a turn, and the end one more
  items_read : (xs : List X) (n : ℕ) (rest : List Token) → AllByRecursion fits xs → length xs < n → items_at at n (items_before (listed_items json xs) rest) ≡ Some (xs, rest)
  unfolding items_at
  items_read [] zero rest h short = absurd (omega arith)
  items_read [] (suc n) rest h short = refl
  items_read (x ∷ xs) zero rest h short = absurd (omega arith)
  items_read (x ∷ xs) (suc n) rest h short =
      let more = items_before (listed_items json xs) rest in
      rw (no_end (json x) more, here (json x) more, a.again x more h.0, items_read xs n rest h.1 (omega arith), items_at) refl

  fewer : (xs : List X) (rest : List Token) → length xs < length (items_before (listed_items json xs) rest)
  fewer [] rest = omega arith
  fewer (x ∷ xs) rest = omega (arith, longer (json x) (items_before (listed_items json xs) rest), fewer xs rest)

  listed_read : (xs : List X) (rest : List Token) → AllByRecursion fits xs → listed_at at (before (listed json xs) rest) ≡ Some (xs, rest)
  unfolding listed_at
  listed_read xs rest h = items_read xs _ rest h (fewer xs rest)

  pub listed_again : Again (AllByRecursion fits) (listed json) (listed_at at)
  listed_again = record { again = listed_read }

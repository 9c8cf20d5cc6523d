-- What look-ups of shapes find.
use Rattle.std.proofs.Common.{◌≡◌, ℕ, Bool, true, false, ◌||◌, List, ◌++◌, Option, Some, None, is_some, find, refl, sym, ap, ap₂, ◌∙◌, append_assoc}
use Rattle.std.specs.Prelude.{bytes_eq, fold, option_copied, option_map}
use Rattle.std.specs.Bool.{then_some}
use Rattle.std.specs.Option.{option_or}
use Rattle.std.proofs.lemmas.List.Folds.{find-append}
use Rattle.tk_types.specs.declared.value.Pair.{Pair}
use Rattle.tk_types.specs.declared.value.ParamType.TheVariants.{Str as string}
use denote.Ref.{Bor}
use Rattle.tk_shape.specs.Bound.{with_key, completed_shape}
use Rattle.tk_shape.specs.Shape.{Shape, one, many, keyed, keys_of, has_key, kind_of}
use Rattle.tk_shape.specs.ShapeEnv.{NamedShape, shape_named}
use Rattle.tk_shape.proofs.Puts.{has_with_keys}
use Rattle.tk_shape.proofs.Selected.{found_key}

kind_where : (found : Option (Bor Pair)) → option_map (λ (p : Bor Pair). string) found ≡ option_map kind_of (then_some (is_some found) one)
kind_where None = refl
kind_where (Some p) = refl

-- the type of a word
pub word_kind : (key : List ℕ) (pairs : List Pair) (words : List (List ℕ)) (found : Option (Bor Pair)) → option_copied found ≡ find (λ (p : Pair). bytes_eq p.key key) pairs → keys_of pairs ≡ words
    → option_map (λ (p : Bor Pair). string) found ≡ option_map kind_of (then_some (has_key key words) one)
word_kind key pairs words found is same = kind_where found ∙ ap (λ b. option_map kind_of (then_some b one)) (found_key key pairs found is ∙ ap (has_key key) same)

key_by : (key : List ℕ) (pairs : List Pair) (found : Option (Bor Pair)) (b c : Bool) → b ≡ is_some found → option_copied found ≡ find (λ (p : Pair). bytes_eq p.key key) pairs → b ≡ c → has_key key (keys_of pairs) ≡ c
key_by key pairs found b c is there so = sym (found_key key pairs found there) ∙ (sym is ∙ so)

-- the key of a pair, or else of others
pub either_there : (key : List ℕ) (pairs : List Pair) (more : List (List ℕ)) (found : Option (Bor Pair)) (b : Bool) → b ≡ is_some found → option_copied found ≡ find (λ (p : Pair). bytes_eq p.key key) pairs → b ≡ true
    → b ≡ has_key key (fold with_key (keys_of pairs) more)
either_there key pairs more found b is there so =
    so ∙ sym (has_with_keys key (keys_of pairs) more ∙ ap (λ c. c || has_key key more) (key_by key pairs found b true is there so))

pub either_else : (key : List ℕ) (pairs : List Pair) (more : List (List ℕ)) (found : Option (Bor Pair)) (b : Bool) → b ≡ is_some found → option_copied found ≡ find (λ (p : Pair). bytes_eq p.key key) pairs → b ≡ false
    → has_key key more ≡ has_key key (fold with_key (keys_of pairs) more)
either_else key pairs more found b is there so =
    sym (has_with_keys key (keys_of pairs) more ∙ ap (λ c. c || has_key key more) (key_by key pairs found b false is there so))

map-or : {X Y : Type 0} (f : X → Y) (a b : Option X) → option_map f (option_or a b) ≡ option_or (option_map f a) (option_map f b)
map-or f None b = refl
map-or f (Some x) b = refl

-- a shape of a name in the first list, or else in the second
pub shape_named-append : (name : List ℕ) (xs ys : List NamedShape) → shape_named name (xs ++ ys) ≡ option_or (shape_named name xs) (shape_named name ys)
shape_named-append name xs ys =
    ap (option_map (λ (s : NamedShape). s.shape)) (find-append (λ (s : NamedShape). bytes_eq s.name name) xs ys)
    ∙ map-or (λ (s : NamedShape). s.shape) (find (λ (s : NamedShape). bytes_eq s.name name) xs) (find (λ (s : NamedShape). bytes_eq s.name name) ys)

-- and in the first of three
pub shape_named-three : (name : List ℕ) (xs ys zs : List NamedShape) (a b c : Option Shape) → a ≡ shape_named name xs → b ≡ shape_named name ys → c ≡ shape_named name zs → option_or (option_or a b) c ≡ shape_named name (xs ++ ys ++ zs)
shape_named-three name xs ys zs a b c x y z =
    ap₂ option_or (ap₂ option_or x y ∙ sym (shape_named-append name xs ys)) z ∙ sym (shape_named-append name (xs ++ ys) zs)

pub completed-none : (shape : Shape) → completed_shape shape None ≡ shape
completed-none one = refl
completed-none (many count) = refl
completed-none (keyed keys) = refl

-- what is found among the bound shapes, or else among others
pub named_in : (name : List ℕ) (bound given outer fallback all : List NamedShape) (found : Option (Bor NamedShape)) (others : Option Shape) → option_copied found ≡ find (λ (s : NamedShape). bytes_eq s.name name) bound
    → others ≡ shape_named name (given ++ outer ++ fallback) → bound ++ given ++ outer ++ fallback ≡ all → option_or (option_map (λ (s : NamedShape). s.shape) (option_copied found)) others ≡ shape_named name all
named_in name bound given outer fallback all found others is other same =
    ap₂ option_or (ap (option_map (λ (s : NamedShape). s.shape)) is) other
    ∙ (sym (shape_named-append name bound (given ++ outer ++ fallback))
    ∙ ap (shape_named name) (sym (append_assoc bound (given ++ outer) fallback) ∙ (ap (λ ss. ss ++ fallback) (sym (append_assoc bound given outer)) ∙ same)))

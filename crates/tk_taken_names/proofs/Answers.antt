-- Answers of tests, true and false, and elements found one after another.
use Rattle.std.proofs.Common.{◌≡◌, ℕ, ◌+◌, ◌<◌, ◌≤◌, Bool, true, false, not, List, length, take, get_or, All, Option, Some, None, IsTrue, ◌↔◌, Bor, option_copied, refl, sym, subst, ◌∙◌}
use Rattle.std.specs.Option.{is_some}
use Rattle.std.proofs.lemmas.Bool.{false≢true}
use Rattle.std.proofs.lemmas.List.{take_all}
use Rattle.std.proofs.lemmas.List.Elements.{All-more}
use Rattle.std.proofs.lemmas.Option.{none-some}

pub yes_is : {P : Type 0} → P → IsTrue true ↔ P
yes_is p = (λ _. p, λ _. refl)

pub no_is : {P : Type 0} → (P → ⊥) → IsTrue false ↔ P
no_is refused = (λ e. absurd (false≢true e), λ p. absurd (refused p))

-- what a test that answers false refuses
pub refused_by : {P : Type 0} (answer : Bool) → IsTrue answer ↔ P → answer ≡ false → P → ⊥
refused_by answer tells is p = false≢true (sym is ∙ tells.1 p)

-- a test of what is the same in other words
pub told_as : {P Q : Type 0} (answer : Bool) → (P → Q) → (Q → P) → IsTrue answer ↔ P → IsTrue answer ↔ Q
told_as answer forth back tells = (λ e. forth (tells.0 e), λ q. tells.1 (back q))

-- whether there is nothing
pub none_tells : {X P : Type 0} (o : Option X) (answer : Bool) → is_some o ≡ not answer → (o ≡ None) ↔ P → IsTrue answer ↔ P
none_tells None true is tells = yes_is (tells.0 refl)
none_tells None false is tells = absurd (false≢true is)
none_tells (Some x) true is tells = absurd (false≢true (sym is))
none_tells (Some x) false is tells = no_is (λ p. none-some x (sym (tells.1 p)))

pub none_copied : {X : Type 0} (o : Option (Bor X)) → option_copied o ≡ None → o ≡ None
none_copied None is = refl
none_copied (Some x) is = absurd (none-some x.now (sym is))

-- one more, the last one, and one of which it doesn't hold
pub all_more : {X : Type 0} (P : X → Type 0) (xs : List X) (i : ℕ) (x : X) → i < length xs → x ≡ get_or xs i x → All P (take i xs) → P x → All P (take (i + 1) xs)
all_more P xs i x within is so_far here = All-more P xs i x within so_far (subst P is here)

pub all_done : {X : Type 0} (P : X → Type 0) (xs : List X) (i : ℕ) → length xs ≤ i → All P (take i xs) → All P xs
all_done P xs i past each = subst (All P) (take_all i xs past) each

pub not_each : {X : Type 0} (P : X → Type 0) (xs : List X) (i : ℕ) (x : X) → i < length xs → x ≡ get_or xs i x → (P x → ⊥) → All P xs → ⊥
not_each P xs i x within is refused each = refused (subst P (sym is) (each i x within))

-- Answers of tests, true and false.
use Rattle.std.proofs.Common.{◌≡◌, Bool, true, false, not, Option, Some, None, IsTrue, ◌↔◌, refl, sym, subst, ◌∙◌}
use Rattle.std.specs.Option.{is_some}
use Rattle.std.proofs.lemmas.Bool.{false≢true}
use Rattle.std.proofs.lemmas.Option.{none-some, same_Some}
use Rattle.tk_journal.specs.Lists.{IsThere}

pub yes_is : {P : Type 0} → P → IsTrue true ↔ P
yes_is p = (λ _. p, λ _. refl)

pub no_is : {P : Type 0} → (P → ⊥) → IsTrue false ↔ P
no_is refused = (λ e. absurd (false≢true e), λ p. absurd (refused p))

-- what a test that answers false refuses
pub refused_by : {P : Type 0} (answer : Bool) → IsTrue answer ↔ P → answer ≡ false → P → ⊥
refused_by answer tells is p = false≢true (sym is ∙ tells.1 p)

-- a test of what is the same in other words
pub told_as : {P Q : Type 0} (answer : Bool) → (P → Q) → (Q → P) → IsTrue answer ↔ P → IsTrue answer ↔ Q
told_as answer forth back tells = (λ e. forth (tells.0 e), λ q. tells.1 (back q))

-- the same of a test that answers as another
pub refused_as : (answer test : Bool) → answer ≡ test → answer ≡ false → IsTrue test → ⊥
refused_as answer test is refused passes = false≢true (sym refused ∙ (is ∙ passes))

pub granted_as : (answer test : Bool) → answer ≡ test → answer ≡ true → IsTrue test
granted_as answer test is granted = sym is ∙ granted

-- whether there is something
pub none_tells : {X P : Type 0} (o : Option X) (answer : Bool) → is_some o ≡ not answer → (o ≡ None) ↔ P → IsTrue answer ↔ P
none_tells None true is tells = yes_is (tells.0 refl)
none_tells None false is tells = absurd (false≢true is)
none_tells (Some x) true is tells = absurd (false≢true (sym is))
none_tells (Some x) false is tells = no_is (λ p. none-some x (sym (tells.1 p)))

pub there_tells : {X : Type 0} (o : Option X) (answer : Bool) → answer ≡ is_some o → IsTrue answer ↔ IsThere o
there_tells None answer is = (λ e. absurd (false≢true (sym is ∙ e)), λ there. absurd (none-some there.0 there.1))
there_tells (Some x) answer is = (λ e. (x, refl), λ there. is)

-- what is asked of a value that may be there
pub some_tells : {X : Type 0} (P : X → Type 0) (o : Option X) (x : X) (answer : Bool) → o ≡ Some x → IsTrue answer ↔ P x → IsTrue answer ↔ ((y : X) → o ≡ Some y → P y)
some_tells P o x answer is tells = (λ e y at. subst P (same_Some x y (sym is ∙ at)) (tells.0 e), λ each. tells.1 (each x is))

pub none_asks : {X : Type 0} (P : X → Type 0) (o : Option X) → o ≡ None → IsTrue true ↔ ((y : X) → o ≡ Some y → P y)
none_asks P o is = yes_is (λ y at. absurd (none-some y (sym is ∙ at)))

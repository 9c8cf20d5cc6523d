-- What the tests of `when` expressions mean.
use Rattle.std.proofs.Common.{◌≡◌, ℕ, Bool, true, false, not, List, refl, sym, Decides}
use Rattle.std.specs.Prelude.{Contains, All, IsTrue, bytes_eq}
use Rattle.std.specs.Bool.{beq}
use Rattle.std.specs.List.{list_any}
use Rattle.std.proofs.lemmas.Slice.Eq.{bytes_eq-Decides}
use Rattle.std.proofs.lemmas.Bool.Decides.{Decides-at, Decides-like, Decides-not, Decides-by_and, Decides-by_or}
use Rattle.std.proofs.lemmas.List.Elements.{Decides-contains}
use Rattle.tk_types.specs.declared.task.When.{When}
use Rattle.tk_guard.specs.When.{is_met, all_hold, in_values, not_in_values}

beq-true : (b : Bool) → beq b true ≡ b
beq-true true = refl
beq-true false = refl

beq-false : (b : Bool) → beq b false ≡ not b
beq-false true = refl
beq-false false = refl

is_value : (input : List ℕ) (values : List (List ℕ)) → Decides (list_any (bytes_eq input) values) (Contains values input)
is_value input values =
    Decides-contains values input _ (Decides-by_or (bytes_eq input) (λ value. value ≡ input) (list_any (bytes_eq input)) (λ value. Decides-like (bytes_eq input value) sym sym (bytes_eq-Decides input value)) refl (λ _ _. refl) values)

pub in_values-Decides : (input : List ℕ) (values : List (List ℕ)) → Decides (is_met (in_values input values)) (Contains values input)
in_values-Decides input values = Decides-at _ _ (beq-true (list_any (bytes_eq input) values)) (is_value input values)

pub not_in_values-Decides : (input : List ℕ) (values : List (List ℕ)) → Decides (is_met (not_in_values input values)) (¬ (Contains values input))
not_in_values-Decides input values = Decides-at _ _ (beq-false (list_any (bytes_eq input) values)) (Decides-not _ (is_value input values))

pub all_hold-Decides : (guards : List When) → Decides (all_hold guards) (All (λ (guard : When). IsTrue (is_met guard)) guards)
all_hold-Decides guards = Decides-by_and is_met (λ guard. IsTrue (is_met guard)) all_hold (λ guard. (λ e. e, λ e. e)) refl (λ _ _. refl) guards

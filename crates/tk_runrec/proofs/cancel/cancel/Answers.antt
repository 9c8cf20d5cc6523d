use Rattle.std.proofs.Common.{◌≡◌, List, [], ◌∷◌, length, true, refl, sym, ◌∙◌, arith}
use Rattle.std.specs.Prelude.{◌==◌}
use Rattle.std.proofs.lemmas.Bool.{eqb-true}
use Rattle.tk_cache.specs.Views.{seen}
use Rattle.tk_runrec.proofs.Unmarked.{nothing_to_cancel}
use Rattle.tk_runrec.proofs.cancel.cancel.Goals as goal

is_nothing : {X : Type 0} (xs : List X) → (length xs == 0) ≡ true → xs ≡ []
is_nothing [] none = refl
is_nothing (x ∷ xs) none = let zero = eqb-true (length (x ∷ xs)) 0 none in absurd (omega (arith, zero))

pub returns-then-is_empty : goal.returns-then-is_empty
returns-then-is_empty c = sym (nothing_to_cancel (seen c.args.cache.now).view c.args.name.now c.args.run.now (is_nothing c.args.run.now.stops (sym c.is_empty.ensures ∙ c.if-is_empty.true)))

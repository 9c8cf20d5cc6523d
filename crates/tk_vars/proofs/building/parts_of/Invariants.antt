use Rattle.std.proofs.Common.{◌≡◌, true, [], ◌∷◌, ◌++◌, length}
use Rattle.tk_vars.specs.declared.part.Part.TheVariants.{Name}
use Rattle.tk_vars.specs.Grammar.{parts}
use Rattle.tk_vars.specs.Reading.{parts_from}
use Rattle.tk_vars.specs.Steps.{is_tail}
use Rattle.tk_vars.proofs.building.parts_of.Given as goal

abbrev pub invariant-loop-part : goal.invariant-loop-part
invariant-loop-part l = (l.list.items ++ parts_from 0 l.rest ≡ Name l.head ∷ parts_from 0 l.tail) × (is_tail (parts ∷ []) l.rest ≡ true)

abbrev pub decreases-loop-part : goal.decreases-loop-part
decreases-loop-part l = length l.rest

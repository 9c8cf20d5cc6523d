use Rattle.std.proofs.Common.{◌≡◌, drop, None}
use Rattle.tk_cache.specs.Views.{seen}
use Rattle.tk_runrec.specs.Choice.{missing}
use Rattle.tk_runrec.specs.Found.{first_found}
use Rattle.tk_runrec.proofs.make.first_missing.Given as goal

-- the first of all is the first of the best one so far and those that are left
abbrev pub invariant-loop-child : goal.invariant-loop-child
invariant-loop-child l =
    let finds = missing (seen l.fn.cache).view l.fn.run in
    first_found finds None l.fn.children ≡ first_found finds l.best (drop l.child-index l.fn.children)

use Rattle.tk_cache.specs.Fronts.{Shows}
use Rattle.tk_cache.specs.Views.{seen}
use Rattle.tk_actor_tests.proofs.label_tests.Tally.go.Given as goal

-- the cache shows the journal
abbrev pub invariant-loop-place : goal.invariant-loop-place
invariant-loop-place l = Shows (seen l.cache) l.journal.history

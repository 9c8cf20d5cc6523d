use Rattle.std.proofs.Common.{◌≡◌, Bool, List, true, subst, sym}
use Rattle.std.specs.Prelude.{◌↔◌}
use Rattle.tk_journal.specs.declared.entry.Entry.{Entry}
use Rattle.tk_journal.specs.Progress.{IsOpen}
use Rattle.tk_cache.specs.Views.{seen}
use Rattle.tk_cache.proofs.Showing.{shows_none}
use Rattle.tk_world.specs.Looking.{is_open_in}
use Rattle.tk_world.proofs.Opens.{opens}
use Rattle.tk_run.proofs.going.is_going.Goals as goal

pub returns-in_err-deliver_all-clause-shows : goal.returns-in_err-deliver_all-clause-shows
returns-in_err-deliver_all-clause-shows c = shows_none (seen c.deliver_all.new.cache) c.args.store.now.history c.in_err-deliver_all.ensures.err

pub returns-clause-open : goal.returns-clause-open
returns-clause-open c =
    subst (λ (b : Bool). (b ≡ true) ↔ IsOpen c.args.store.now.history) (sym c.is_open.ensures)
    (subst (λ (h : List Entry). (is_open_in (seen c.deliver_all.new.cache).view ≡ true) ↔ IsOpen h) c.journal.ensures
    (opens c.deliver_all.new.cache c.journal.result.now.history c.in_ok-deliver_all.ensures.shows c.in_ok-deliver_all.ensures.fronts))

use Rattle.std.proofs.Common.{◌≡◌, Some, None, refl, sym, ◌∙◌}
use Rattle.tk_cache.specs.Views.{seen}
use Rattle.tk_runrec.specs.Choice.{choice}
use Rattle.tk_runrec.proofs.Shown.{are_fit, may_be_tried, none_left, takes, takes_first}
use Rattle.tk_runrec.proofs.worker.RunWorker.turn.Goals as goal

pub choose-requires : goal.choose-requires
choose-requires c = record { fit = are_fit (seen c.args.cache.now) c.args.store.now.history c.legal.ensures c.requires.shows }

pub tried-requires-clause-may : goal.tried-requires-clause-may
tried-requires-clause-may c =
    let found : choice (seen c.args.cache.now).view c.args.moment ≡ Some c.in-Some.act = sym c.in_ok-choose.ensures ∙ c.in-Some.is in
    may_be_tried (seen c.args.cache.now) c.args.store.now.history c.legal.ensures c.requires.shows c.args.self.now.number c.args.moment c.in-Some.act found

pub returns-in-Some-clause-took : goal.returns-in-Some-clause-took
returns-in-Some-clause-took c =
    let found : choice (seen c.args.cache.now).view c.args.moment ≡ Some c.in-Some.act = sym c.in_ok-choose.ensures ∙ c.in-Some.is in
    takes (seen c.args.cache.now) c.args.store.now.history c.legal.ensures c.requires.shows c.args.self.now.number c.args.moment c.args.store.now c.tried.result c.tried.new.store c.in-Some.act found c.tried.ensures

pub returns-in-Some-clause-first : goal.returns-in-Some-clause-first
returns-in-Some-clause-first c =
    let found : choice (seen c.args.cache.now).view c.args.moment ≡ Some c.in-Some.act = sym c.in_ok-choose.ensures ∙ c.in-Some.is in
    takes_first (seen c.args.cache.now) c.args.store.now.history c.legal.ensures c.requires.shows c.args.self.now.number c.args.moment c.args.store.now c.tried.result c.tried.new.store
    (takes (seen c.args.cache.now) c.args.store.now.history c.legal.ensures c.requires.shows c.args.self.now.number c.args.moment c.args.store.now c.tried.result c.tried.new.store c.in-Some.act found c.tried.ensures)

pub returns-in-None-clause-first : goal.returns-in-None-clause-first
returns-in-None-clause-first c =
    let none : choice (seen c.args.cache.now).view c.args.moment ≡ None = sym c.in_ok-choose.ensures ∙ c.in-None.is in
    (none_left (seen c.args.cache.now) c.args.store.now.history c.legal.ensures c.requires.shows c.args.self.now.number c.args.moment none, refl)

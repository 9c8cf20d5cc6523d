use Rattle.std.proofs.Common.{◌≡◌, Some, None, refl, sym, ◌∙◌}
use Rattle.tk_cache.specs.Views.{seen}
use Rattle.tk_store.specs.declared.turn.Turn.TheVariants as turns
use Rattle.tk_taskrec.specs.Choice.{choice}
use Rattle.tk_taskrec.proofs.Turns.{fit_seen, choice_may, took_choice, took_act}
use Rattle.tk_taskrec.proofs.worker.TaskWorker.turn.Goals as goal

pub choose-requires : goal.choose-requires
choose-requires c = record { fit = fit_seen (seen c.args.cache.now) c.args.store.now.history c.legal.ensures c.requires.shows }

pub tried-requires-clause-may : goal.tried-requires-clause-may
tried-requires-clause-may c =
    let found : choice (seen c.args.cache.now).view ≡ Some c.in-Some.act = sym c.in_ok-choose.ensures ∙ c.in-Some.is in
    choice_may (seen c.args.cache.now) c.args.store.now.history c.args.self.now.number c.args.moment c.in-Some.act c.legal.ensures c.requires.shows found

pub returns-in-None-clause-first : goal.returns-in-None-clause-first
returns-in-None-clause-first c =
    let none : choice (seen c.args.cache.now).view ≡ None = sym c.in_ok-choose.ensures ∙ c.in-None.is in
    took_choice (seen c.args.cache.now) c.args.self.now.number c.args.moment c.args.store.now turns.Idle c.args.store.now c.legal.ensures c.requires.shows (none, refl)

pub returns-in-Some-clause-first : goal.returns-in-Some-clause-first
returns-in-Some-clause-first c =
    let found : choice (seen c.args.cache.now).view ≡ Some c.in-Some.act = sym c.in_ok-choose.ensures ∙ c.in-Some.is in
    took_choice (seen c.args.cache.now) c.args.self.now.number c.args.moment c.args.store.now c.tried.result c.tried.new.store c.legal.ensures c.requires.shows
    (took_act (seen c.args.cache.now) c.args.self.now.number c.args.moment c.in-Some.act c.args.store.now c.tried.result c.tried.new.store found c.tried.ensures)

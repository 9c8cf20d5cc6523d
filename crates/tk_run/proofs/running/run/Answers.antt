use Rattle.std.proofs.Common.{◌≡◌, ◌≤◌, List, arith, inr, subst, sym}
use Rattle.tk_edge.specs.Readings.{AddsWhileTold}
use Rattle.tk_journal.specs.declared.entry.Entry.{Entry}
use Rattle.tk_journal.specs.Legal.{IsLegal}
use Rattle.tk_journal.specs.Progress.{IsOpen}
use Rattle.tk_cache.specs.Views.{seen}
use Rattle.tk_cache.proofs.Showing.{shows_none}
use Rattle.tk_held.specs.Laws.{AreAdmits}
use Rattle.tk_simulate.specs.Runs.{AreOnClock}
use Rattle.tk_run.specs.Asks.{AreAllTried}
use Rattle.tk_run.specs.Run.{IsRun, given_by}
use Rattle.tk_run.proofs.Asked.{all_tried_by, tried_none}
use Rattle.tk_run.proofs.Came.{all_of_life, given_admits, given_timely, is_ready, is_run}
use Rattle.tk_run.proofs.Starting.{user_began}
use Rattle.tk_run.proofs.running.run.Goals as goal

pub rounds-requires-clause-ready : goal.rounds-requires-clause-ready
rounds-requires-clause-ready g c κs within =
    let root = c.args.root.now in
    let words = c.args.words.now in
    let given = c.in-Ok.ensures.ok.1 in
    let first = c.in-Ok.prepared.0.history in
    let legal = subst IsLegal (sym given.entries) given.legal in
    let admits = subst AreAdmits (sym given.entries) (given_admits root words c.args.bytes.now) in
    is_ready g.G.Gate.answers g.K.Clock.readings g.K.Clock.last g.H.Host.told g.H.Host.killed g.H.Host.faults root c.args.bench.now (record c.begin.new.bench { user = c.now-start.new.self }) c.requires.bench c.begin.ensures.counts c.begin.ensures.controllers (c.begin.ensures.nodes root given.each) first legal admits

pub rounds-requires-clause-shows : goal.rounds-requires-clause-shows
rounds-requires-clause-shows g c κs within = shows_none (seen c.empty-watch.result) c.in-Ok.prepared.0.history c.empty-watch.ensures

pub returns-in-Ok-rounds : goal.returns-in-Ok-rounds
returns-in-Ok-rounds g c =
    let root = c.args.root.now in
    let words = c.args.words.now in
    let given = c.in-Ok.ensures.ok.1 in
    let first = c.in-Ok.prepared.0.history in
    let legal = subst IsLegal (sym given.entries) given.legal in
    let admits = subst AreAdmits (sym given.entries) (given_admits root words c.args.bytes.now) in
    let same : c.begin.new.bench.user ≡ c.args.bench.now.user = c.begin.ensures.user in
    let later : g.K.Clock.last c.args.bench.now.user ≤ g.K.Clock.last c.now-start.new.self = rw (sym same) (let le = c.now-start.ensures.later in let last = c.now-start.ensures.last in omega (arith, le, last)) in
    let read = subst (λ (k : _). AddsWhileTold (g.K.Clock.last c.now-start.new.self) (g.K.Clock.readings k) (g.K.Clock.readings c.now-start.new.self)) same (rw c.now-start.ensures.last c.now-start.ensures.told) in
    let began = user_began g.K.Clock.readings g.K.Clock.last c.args.bench.now.user c.now-start.new.self first legal admits later read in
    let none = tried_none (g.K.Clock.last c.args.bench.now.user) words c.in-Ok.prepared.2.items first given.untried admits in
    let tried = c.rounds.ensures.asks (g.K.Clock.last c.args.bench.now.user) (let last = c.now-start.ensures.last in omega (arith, later, last)) none in
    let lived = all_of_life g.G.Gate.answers g.K.Clock.readings g.K.Clock.last g.H.Host.told g.H.Host.killed g.H.Host.faults root c.args.bench.now (record c.begin.new.bench { user = c.now-start.new.self }) c.requires.bench c.begin.ensures.counts c.begin.ensures.controllers (c.begin.ensures.nodes root given.each) first legal admits
    c.rounds.new.bench c.rounds.new.store.history c.rounds.ensures.legal c.rounds.ensures.ready c.rounds.ensures.goes in
    let goes = c.stop.ensures.goes (record c.begin.new.bench { user = c.now-start.new.self }) first c.rounds.ensures.goes in
    let came = is_run g.G.Gate.answers g.K.Clock.readings g.K.Clock.last g.H.Host.told g.H.Host.killed g.H.Host.faults root c.args.bench.now (record c.begin.new.bench { user = c.now-start.new.self }) c.requires.bench c.begin.ensures.counts c.begin.ensures.controllers (c.begin.ensures.nodes root given.each) first legal admits
    c.stop.new.bench c.rounds.new.store.history c.rounds.ensures.legal c.stop.ensures.ready goes c.legal_is_right.ensures words (given_by root words c.args.bytes.now) (sym given.entries) (subst AreOnClock (sym given.entries) (given_timely root words c.args.bytes.now))
    tried.asked (goes.user _ began) (c.stop.ensures.settled c.rounds.ensures.legal lived) in
    let is = subst (λ (h : List Entry). IsRun g.G.Gate.answers g.K.Clock.readings g.K.Clock.last g.H.Host.told g.H.Host.killed g.H.Host.faults root words (given_by root words c.args.bytes.now) c.args.bench.now c.stop.new.bench h) (sym c.stop.ensures.journal) came in
    rw c.stop.ensures.end (
      c.in-Ok.ensures.ok.0,
      is,
      subst (λ (h : List Entry). IsOpen h → ⊥) (sym c.stop.ensures.journal) c.in-Ok-rounds.ensures.closed,
      subst (AreAllTried (g.K.Clock.last c.args.bench.now.user) words) (sym c.stop.ensures.journal)
          (all_tried_by (g.K.Clock.last c.args.bench.now.user) words c.rounds.new.asking.tried.items c.rounds.new.store.history c.rounds.ensures.count c.in-Ok-rounds.ensures.tried tried),
    )

pub returns : goal.returns
returns g c =
    let root = c.args.root.now in
    let words = c.args.words.now in
    let given = c.in-Ok.ensures.ok.1 in
    let first = c.in-Ok.prepared.0.history in
    let legal = subst IsLegal (sym given.entries) given.legal in
    let admits = subst AreAdmits (sym given.entries) (given_admits root words c.args.bytes.now) in
    let same : c.begin.new.bench.user ≡ c.args.bench.now.user = c.begin.ensures.user in
    let later : g.K.Clock.last c.args.bench.now.user ≤ g.K.Clock.last c.now-start.new.self = rw (sym same) (let le = c.now-start.ensures.later in let last = c.now-start.ensures.last in omega (arith, le, last)) in
    let read = subst (λ (k : _). AddsWhileTold (g.K.Clock.last c.now-start.new.self) (g.K.Clock.readings k) (g.K.Clock.readings c.now-start.new.self)) same (rw c.now-start.ensures.last c.now-start.ensures.told) in
    let began = user_began g.K.Clock.readings g.K.Clock.last c.args.bench.now.user c.now-start.new.self first legal admits later read in
    let none = tried_none (g.K.Clock.last c.args.bench.now.user) words c.in-Ok.prepared.2.items first given.untried admits in
    let tried = c.rounds.ensures.asks (g.K.Clock.last c.args.bench.now.user) (let last = c.now-start.ensures.last in omega (arith, later, last)) none in
    let lived = all_of_life g.G.Gate.answers g.K.Clock.readings g.K.Clock.last g.H.Host.told g.H.Host.killed g.H.Host.faults root c.args.bench.now (record c.begin.new.bench { user = c.now-start.new.self }) c.requires.bench c.begin.ensures.counts c.begin.ensures.controllers (c.begin.ensures.nodes root given.each) first legal admits
    c.rounds.new.bench c.rounds.new.store.history c.rounds.ensures.legal c.rounds.ensures.ready c.rounds.ensures.goes in
    let goes = c.stop-in-Err-rounds.ensures.goes (record c.begin.new.bench { user = c.now-start.new.self }) first c.rounds.ensures.goes in
    let came = is_run g.G.Gate.answers g.K.Clock.readings g.K.Clock.last g.H.Host.told g.H.Host.killed g.H.Host.faults root c.args.bench.now (record c.begin.new.bench { user = c.now-start.new.self }) c.requires.bench c.begin.ensures.counts c.begin.ensures.controllers (c.begin.ensures.nodes root given.each) first legal admits
    c.stop-in-Err-rounds.new.bench c.rounds.new.store.history c.rounds.ensures.legal c.stop-in-Err-rounds.ensures.ready goes c.legal_is_right.ensures words (given_by root words c.args.bytes.now) (sym given.entries) (subst AreOnClock (sym given.entries) (given_timely root words c.args.bytes.now))
    tried.asked (goes.user _ began) (c.stop-in-Err-rounds.ensures.settled c.rounds.ensures.legal lived) in
    let is = subst (λ (h : List Entry). IsRun g.G.Gate.answers g.K.Clock.readings g.K.Clock.last g.H.Host.told g.H.Host.killed g.H.Host.faults root words (given_by root words c.args.bytes.now) c.args.bench.now c.stop-in-Err-rounds.new.bench h) (sym c.stop-in-Err-rounds.ensures.journal) came in
    rw c.stop-in-Err-rounds.ensures.end (inr (c.in-Ok.ensures.ok.0, is))

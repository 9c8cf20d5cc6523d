use Rattle.tk_rounds.specs.Members.{of_controller}
use Rattle.tk_rounds.specs.Turning.{place_of}
use Rattle.tk_rounds.proofs.Standing.{turn_shows}
use Rattle.tk_rounds.proofs.bench.Controller.turn.Goals as goal

pub returns-clause-shows : goal.returns-clause-shows
returns-clause-shows g c =
    turn_shows (of_controller c.args.self.now.number) c.args.given (place_of g.K.Clock.readings g.K.Clock.last c.args.self.now.clock c.args.self.now.cache c.args.store.now)
    (place_of g.K.Clock.readings g.K.Clock.last c.act-wrote.new.self.clock c.act-wrote.new.self.cache c.act-wrote.new.store) c.act-wrote.ensures.turn c.requires.shows

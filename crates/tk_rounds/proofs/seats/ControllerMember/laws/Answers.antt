use Rattle.tk_rounds.specs.Follows.{told_by}
use Rattle.tk_rounds.specs.Members.{of_controller}
use Rattle.tk_rounds.proofs.Choosing.{chosen_other}
use Rattle.tk_rounds.proofs.Standing.{since_other}
use Rattle.tk_rounds.proofs.seats.ControllerMember.laws.Goals as goal

pub returns-clause-follow : goal.returns-clause-follow
returns-clause-follow g c start m history e legal other ready is = record {
  since = since_other (of_controller m.number) (told_by g.G.Gate.answers g.K.Clock.readings g.K.Clock.last start.gate start.clock) (told_by g.G.Gate.answers g.K.Clock.readings g.K.Clock.last m.gate m.clock) m.cache.fronts history e other ready.within is.since;
  chosen = chosen_other m.number e history other is.chosen;
}

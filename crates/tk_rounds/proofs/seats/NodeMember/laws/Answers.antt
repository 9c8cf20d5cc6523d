use Rattle.std.proofs.Common.{◌∷◌, []}
use Rattle.tk_cache.specs.Views.{seen}
use Rattle.tk_cache.proofs.Showing.{shows_grown}
use Rattle.tk_held.proofs.Others.{others_keep}
use Rattle.tk_rounds.specs.Follows.{told_by}
use Rattle.tk_rounds.specs.Members.{of_kubelet}
use Rattle.tk_rounds.proofs.Recorded.{claimed_all, outcomes_other}
use Rattle.tk_rounds.proofs.Standing.{life_other, not_of_other, since_other}
use Rattle.tk_rounds.proofs.seats.NodeMember.laws.Goals as goal

pub returns-clause-keep : goal.returns-clause-keep
returns-clause-keep g c m history e legal other ready = record {
  shows = shows_grown (seen m.cache) (e ∷ []) history ready.shows;
  met = others_keep m.kubelet.number m.kubelet.life m.kubelet.root m.kubelet.held history (g.H.Host.killed m.host) (g.H.Host.told m.host) e legal (not_of_other m.kubelet.number e other) ready.met;
}

pub returns-clause-follow : goal.returns-clause-follow
returns-clause-follow g c start m history e legal other ready is = record {
  since = since_other (of_kubelet m.kubelet.number) (told_by g.G.Gate.answers g.K.Clock.readings g.K.Clock.last start.gate start.clock) (told_by g.G.Gate.answers g.K.Clock.readings g.K.Clock.last m.gate m.clock) m.cache.fronts history e other ready.shows.within is.since;
  same = is.same;
  life = life_other m.kubelet.number m.kubelet.life history e other is.life;
  outcomes = outcomes_other m.kubelet.number m.kubelet.life m.kubelet.root m.kubelet.held (g.H.Host.faults start.host) (g.H.Host.faults m.host) (g.H.Host.told m.host) history e legal (not_of_other m.kubelet.number e other) is.outcomes;
  deeds = claimed_all history e legal m.kubelet.number m.kubelet.root (g.H.Host.told m.host) is.deeds;
}

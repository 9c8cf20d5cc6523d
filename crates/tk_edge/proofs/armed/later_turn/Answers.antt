use Rattle.tk_edge.proofs.Turns.{turn_behind}
use Rattle.tk_edge.proofs.armed.later_turn.Goals as goal

pub returns-in_err-post_exit-clause-others : goal.returns-in_err-post_exit-clause-others
returns-in_err-post_exit-clause-others g c = turn_behind c.args.armed.now (g.H.Host.told c.args.host.now) c.args.child (g.H.Host.files c.args.host.now) (g.H.Host.files c.find_exit.new.host) (g.H.Host.files c.post_exit.new.host) c.requires.its_child c.in_ok-exit.ensures.others c.in_err-post_exit.ensures.others

pub returns-clause-others : goal.returns-clause-others
returns-clause-others g c = turn_behind c.args.armed.now (g.H.Host.told c.args.host.now) c.args.child (g.H.Host.files c.args.host.now) (g.H.Host.files c.find_exit.new.host) (g.H.Host.files c.post_exit.new.host) c.requires.its_child c.in_ok-exit.ensures.others c.in_ok-post_exit.ensures.others

use Rattle.std.proofs.Common.{◌≡◌, List, []}
use Rattle.tk_cache.specs.Views.{seen}
use Rattle.tk_types.specs.declared.run.Outcome.TheVariants as outcomes
use Rattle.tk_journal.specs.declared.act.Act.TheVariants as acts
use Rattle.tk_kubelet.proofs.Entered.{answered_same, end_is, may_same}
use Rattle.tk_kubelet.proofs.Rows.{lost_may}
use Rattle.tk_kubelet.proofs.lost.end_lost.Goals as goal

pub try_entry-requires-clause-may : goal.try_entry-requires-clause-may
try_entry-requires-clause-may c =
    may_same c.args.me (seen c.args.cache.now) c.args.moment (acts.EndPod c.in_ok-from_str.field-0 c.new.result outcomes.Lost) (acts.EndPod c.args.name.now [] outcomes.Lost) (end_is c.in_ok-from_str.field-0 c.args.name.now c.new.result [] outcomes.Lost c.in_ok-from_str.ensures c.new.ensures) (lost_may c.args.me (seen c.args.cache.now).view c.args.moment c.args.name.now c.requires.lost)

pub returns-clause-answered : goal.returns-clause-answered
returns-clause-answered c =
    answered_same c.args.me (seen c.args.cache.now) c.args.moment (acts.EndPod c.in_ok-from_str.field-0 c.new.result outcomes.Lost) (acts.EndPod c.args.name.now [] outcomes.Lost) (end_is c.in_ok-from_str.field-0 c.args.name.now c.new.result [] outcomes.Lost c.in_ok-from_str.ensures c.new.ensures) c.args.store.now c.try_entry.new.store c.try_entry.result c.try_entry.ensures.answered

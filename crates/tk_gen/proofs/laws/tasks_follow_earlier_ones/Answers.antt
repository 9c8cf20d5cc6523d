use Rattle.std.proofs.Common.{◌<◌}
use Rattle.std.specs.Option.{ForSome}
use Rattle.std.proofs.lemmas.List.Elements.{All-from_recursion}
use Rattle.tk_gen.specs.Generate.{tasks}
use Rattle.tk_gen.proofs.Drawn.{all_earlier, all_places, all_retries}
use Rattle.tk_gen.proofs.laws.tasks_follow_earlier_ones.Goals as goal

pub returns-clause-places : goal.returns-clause-places
returns-clause-places c = λ number size. all_places size 0 number

pub returns-clause-earlier : goal.returns-clause-earlier
returns-clause-earlier c = λ number size. All-from_recursion (λ t. ForSome t.parent (λ parent. parent < t.place)) (tasks number size) (all_earlier size 0 number)

pub returns-clause-retries : goal.returns-clause-retries
returns-clause-retries c = λ number size. All-from_recursion (λ t. t.retries < 3) (tasks number size) (all_retries size 0 number)

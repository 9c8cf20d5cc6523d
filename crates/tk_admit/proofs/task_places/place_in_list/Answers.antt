use Rattle.std.proofs.Common.{◌∙◌, sym}
use Rattle.tk_admit.proofs.Children.{place_in_below}
use Rattle.tk_admit.proofs.task_places.place_in_list.Goals as goal

pub returns-clause-within : goal.returns-clause-within
returns-clause-within c = λ place e. place_in_below c.args.tasks.now c.args.name.now place (sym c.first_place.ensures ∙ e)

use Rattle.std.proofs.Common.{sym, ◌∙◌}
use Rattle.tk_early.specs.Possible.{possible_children}
use Rattle.tk_spec_sound.proofs.Answers.{told_as, yes_is}
use Rattle.tk_spec_sound.proofs.Counts.{few_none, few_some}
use Rattle.tk_spec_sound.proofs.Readings.{matrix_reads}
use Rattle.tk_spec_sound.proofs.children.has_few_children.Goals as goal

pub possible_children-requires : goal.possible_children-requires
possible_children-requires c = matrix_reads c.args.task.now c.requires

pub returns-in-Some : goal.returns-in-Some
returns-in-Some c =
    let tells = few_some (possible_children c.args.values.now c.args.task.now) c.in-Some.count (sym c.in-Some.is ∙ c.in_ok-count.ensures) in
    told_as c.are_few.result tells.0 tells.1 c.are_few.ensures

pub returns-in-None : goal.returns-in-None
returns-in-None c = yes_is (few_none (possible_children c.args.values.now c.args.task.now) (sym c.in-None.is ∙ c.in_ok-count.ensures))

use Rattle.tk_commands.proofs.answer.decided_there.Goals as goal

pub decided_run-requires : goal.decided_run-requires
decided_run-requires c = c.requires.well_formed c.in-Some.facts c.in-Some.is

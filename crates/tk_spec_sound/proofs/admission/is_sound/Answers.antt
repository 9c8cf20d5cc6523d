use Rattle.std.proofs.Common.{IfOk, IsTrue, ◌↔◌, subst, sym}
use Rattle.tk_journal.specs.declared.act.Admission.{Admission}
use Rattle.tk_journal.specs.Sound.{IsSound}
use Rattle.tk_spec_sound.proofs.admission.is_sound.Goals as goal

pub returns-in-Run : goal.returns-in-Run
returns-in-Run c =
    subst (λ (a : Admission). IfOk c.is_sound_run.result (λ yes. IsTrue yes ↔ IsSound c.args.name.now c.args.asked.now a)) (sym c.in-Run.is)
    c.is_sound_run.ensures

pub returns-in-Task : goal.returns-in-Task
returns-in-Task c =
    subst (λ (a : Admission). IfOk c.is_sound_task_run.result (λ yes. IsTrue yes ↔ IsSound c.args.name.now c.args.asked.now a)) (sym c.in-Task.is)
    c.is_sound_task_run.ensures

use Rattle.std.proofs.Common.{refl, ◌∙◌, ap}
use Rattle.tk_script.specs.ScriptHost.{Playing, script_file}
use Rattle.tk_script.proofs.script_host.ScriptHostHost.poll.Goals as goal

pub returns-clause-others : goal.returns-clause-others
returns-clause-others c = (_, refl, λ path differ. c.in_ok-poll.ensures.files path ∙ ap (λ (p : Playing). script_file p.scripts path p.log.told) c.self.view_is)

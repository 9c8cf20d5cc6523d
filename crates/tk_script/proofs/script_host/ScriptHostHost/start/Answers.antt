use Rattle.std.proofs.Common.{refl, ◌∙◌, ap}
use Rattle.tk_script.specs.ScriptHost.{Playing, script_file}
use Rattle.tk_script.proofs.ScriptFiles.{start_rest}
use Rattle.tk_script.proofs.script_host.ScriptHostHost.start.Goals as goal

pub returns-clause-others : goal.returns-clause-others
returns-clause-others c = (_, refl, λ path differ. start_rest _ _ _ _ path _ _ c.in_ok-start.ensures.scripts c.in_ok-start.ensures.told differ ∙ ap (λ (p : Playing). script_file p.scripts path p.log.told) c.self.view_is)

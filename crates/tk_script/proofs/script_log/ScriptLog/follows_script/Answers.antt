use Rattle.std.proofs.Common.{sym, ◌∙◌, subst}
use Rattle.tk_script.specs.ScriptHost.{Played, EndAsScripted, RefuseAsScripted}
use Rattle.tk_script.proofs.script_log.ScriptLog.follows_script.Goals as goal

pub returns-clause-exits : goal.returns-clause-exits
returns-clause-exits c =
    subst (λ (p : Played). EndAsScripted p.scripts p.log.told) c.self.view_is
    (λ child exit order ends starts. sym (c.self.invariant.ends child exit ends) ∙ c.self.invariant.orders child order starts)

pub returns-clause-refusals : goal.returns-clause-refusals
returns-clause-refusals c = subst (λ (p : Played). RefuseAsScripted p.scripts p.log.told) c.self.view_is c.self.invariant.refuses

use Rattle.tk_script.proofs.Played.{played_armed, pushed_after}
use Rattle.tk_script.proofs.script_log.ScriptLog.arm.Goals as goal

pub invariant_of-self-2 : goal.invariant_of-self-2
invariant_of-self-2 c = played_armed _ _ _ _ _ _ _ c.self.invariant _ _ _ _ _ _ c.in_ok-child.ensures.told c.in_ok-child.ensures.count c.in_ok-child.ensures.number c.in_ok-child.ensures.fresh c.exit_for-exit.ensures
    (pushed_after _ _ _ _ c.push_within.ensures c.in_ok-widen_exits.ensures.same)

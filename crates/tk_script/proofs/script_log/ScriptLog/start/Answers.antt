use Rattle.std.proofs.Common.{◌∙◌, ◌+◌, ap, refl}
use Rattle.std.specs.Prelude.{is_some}
use Rattle.std.specs.HashMap.{get_by_text}
use Rattle.tk_script.proofs.Played.{played_started, settled, widened, after_room, new_after, pushed_after}
use Rattle.tk_script.proofs.script_log.ScriptLog.start.Goals as goal

pub invariant_of-self-2 : goal.invariant_of-self-2
invariant_of-self-2 c = played_started _ _ (get_by_text c.widen-2.new.self.held) (λ pod. is_some (get_by_text c.widen.new.table pod)) _ _ _
    (widened _ _ _ _ _ _ _ _ _ c.in_ok-widen-2.ensures.same (λ q. ap is_some (c.in_ok-widen.ensures.same q)) c.self.invariant) _ _ _ _ _ _ _ _ _ _
    (after_room _ _ _ _ c.start.ensures.told c.in_ok-make_room.ensures.told)
    (c.start.ensures.count ∙ ap (λ k. k + 1) c.in_ok-make_room.ensures.count)
    (c.start.ensures.number ∙ c.in_ok-make_room.ensures.count)
    (new_after _ _ _ c.start.ensures.fresh c.in_ok-make_room.ensures.told)
    (c.in_ok-pod.ensures.ok ∙ c.as_str.ensures) c.in_ok-left.ensures c.write_all.ensures.bytes c.write_all.ensures.puts c.add_within.ensures c.exit_for-exit.ensures
    (pushed_after _ _ _ _ c.push_within.ensures c.in_ok-widen_exits.ensures.same)

pub invariant_of-self-in_err-left : goal.invariant_of-self-in_err-left
invariant_of-self-in_err-left c = settled _ _ _ _ _ _ (λ pod. is_some (get_by_text c.widen.new.table pod)) _ _ _ _ _ c.self.invariant c.in_ok-make_room.ensures.told c.in_ok-widen_exits.ensures.same c.in_ok-make_room.ensures.count (λ q. refl) (λ q. ap is_some (c.in_ok-widen.ensures.same q))

pub invariant_of-self-in_err-widen-2 : goal.invariant_of-self-in_err-widen-2
invariant_of-self-in_err-widen-2 c = settled _ _ _ _ (get_by_text c.widen-2.new.self.held) _ (λ pod. is_some (get_by_text c.widen.new.table pod)) _ _ _ _ _ c.self.invariant c.in_ok-make_room.ensures.told c.in_ok-widen_exits.ensures.same c.in_ok-make_room.ensures.count c.in_err-widen-2.ensures.same (λ q. ap is_some (c.in_ok-widen.ensures.same q))

use Rattle.std.proofs.Common.{◌∙◌, ap, refl, sym}
use Rattle.std.specs.Prelude.{is_some}
use Rattle.std.specs.Option.{option_map}
use Rattle.std.specs.HashMap.{get_by_text}
use Rattle.tk_script.proofs.Played.{played_begun, settled, widened, after_room}
use Rattle.tk_script.proofs.script_log.ScriptLog.begin.Goals as goal

pub invariant_of-self-2 : goal.invariant_of-self-2
invariant_of-self-2 c = played_begun _ _ (get_by_text c.widen-2.new.self.held) (λ pod. is_some (get_by_text c.widen.new.table pod)) _ _ _
    (widened _ _ _ _ _ _ _ _ _ c.in_ok-widen-2.ensures.same (λ q. ap is_some (c.in_ok-widen.ensures.same q)) c.self.invariant) _ _ _ _ _ _ _ _ _
    (after_room _ _ _ _ c.started.ensures.told c.in_ok-make_room.ensures.told) (c.started.ensures.count ∙ c.in_ok-make_room.ensures.count)
    (sym c.arming.ensures.armed ∙ ap (option_map (λ a. a.now)) c.in-Some.is) c.in_ok-told.ensures
    (c.in_ok-pod.ensures.ok ∙ c.as_str.ensures) c.in_ok-left.ensures c.write_all.ensures.bytes c.write_all.ensures.puts c.add_within.ensures

pub invariant_of-self-in_err-widen-2 : goal.invariant_of-self-in_err-widen-2
invariant_of-self-in_err-widen-2 c = settled _ _ _ _ (get_by_text c.widen-2.new.self.held) _ (λ pod. is_some (get_by_text c.widen.new.table pod)) _ _ _ _ _ c.self.invariant c.in_ok-make_room.ensures.told refl c.in_ok-make_room.ensures.count c.in_err-widen-2.ensures.same (λ q. ap is_some (c.in_ok-widen.ensures.same q))

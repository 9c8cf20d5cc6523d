use Rattle.std.proofs.Common.{◌∙◌, sym, refl}
use Rattle.std.specs.HashMap.{get_by_text}
use Rattle.tk_script.proofs.Played.{played_put, widened, after_room}
use Rattle.tk_script.proofs.script_log.ScriptLog.put.Goals as goal

pub invariant_of-self-2 : goal.invariant_of-self-2
invariant_of-self-2 c = played_put _ _ (get_by_text c.widen.new.self.held) _ _ _ _ (widened _ _ _ _ _ _ _ _ _ c.in_ok-widen.ensures.same (λ q. refl) c.self.invariant) _ _ _ _ _ _ _
    (after_room _ _ _ _ c.note_put.ensures.told c.in_ok-make_room.ensures.told) (c.note_put.ensures.count ∙ c.in_ok-make_room.ensures.count)
    (c.in_ok-told.ensures ∙ sym c.in_ok-path.ensures.ok) (c.in_ok-kept.ensures ∙ sym c.in_ok-bytes.ensures) c.write_within.ensures.bytes c.write_within.ensures.puts

use Rattle.std.proofs.Common.{◌∙◌}
use Rattle.tk_script.proofs.Played.{played_clear, after_room}
use Rattle.tk_script.proofs.script_log.ScriptLog.clear.Goals as goal

pub invariant_of-self-2 : goal.invariant_of-self-2
invariant_of-self-2 c = played_clear _ _ _ _ _ _ _ c.self.invariant _ _ _ _ _ (after_room _ _ _ _ c.note_clear.ensures.told c.in_ok-make_room.ensures.told) (c.note_clear.ensures.count ∙ c.in_ok-make_room.ensures.count) c.in_ok-told.ensures c.clear_below.ensures.bytes c.clear_below.ensures.puts

use Rattle.std.proofs.Common.{◌∙◌}
use Rattle.tk_script.proofs.Played.{played_fetch, after_room}
use Rattle.tk_script.proofs.script_log.ScriptLog.fetch.Goals as goal

pub invariant_of-self-2 : goal.invariant_of-self-2
invariant_of-self-2 c = played_fetch _ _ _ _ _ _ _ c.self.invariant _ _ _ _ (after_room _ _ _ _ c.note_fetched.ensures.told c.in_ok-make_room.ensures.told) (c.note_fetched.ensures.count ∙ c.in_ok-make_room.ensures.count)

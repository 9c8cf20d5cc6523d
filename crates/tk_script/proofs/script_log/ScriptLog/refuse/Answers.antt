use Rattle.std.proofs.Common.{◌∙◌, ap, sym, subst, refl, string_bytes}
use Rattle.std.specs.Prelude.{None}
use Rattle.std.specs.Option.{option_map}
use Rattle.std.specs.HashMap.{get_by_text}
use Rattle.tk_script.specs.FileTable.{is_at}
use Rattle.tk_edge.specs.History.{arming_of}
use Rattle.tk_edge.specs.Memory.{leaves}
use Rattle.tk_edge.specs.declared.event.Event.TheVariants as events
use Rattle.tk_script.specs.ScriptHost.{Played, RefusesScripted}
use Rattle.tk_script.proofs.Played.{played_refused, widened, after_room}
use Rattle.tk_script.proofs.script_log.ScriptLog.refuse.Goals as goal

pub invariant_of-self-2 : goal.invariant_of-self-2
invariant_of-self-2 c = played_refused _ _ (get_by_text c.widen.new.self.held) _ _ _ _ (widened _ _ _ _ _ _ _ _ _ c.in_ok-widen.ensures.same (λ q. refl) c.self.invariant) _ (λ q. is_at q (option_map string_bytes c.in_ok-post.post)) _ _ _
    (after_room _ _ _ _ c.refused.ensures.told c.in_ok-make_room.ensures.told) (c.refused.ensures.count ∙ c.in_ok-make_room.ensures.count)
    (λ q. c.in_ok-post.ensures q ∙ ap (λ (p : Played). leaves q None (arming_of c.args.child p.log.told)) (sym c.self.view_is))
    c.leave_within.ensures.bytes c.leave_within.ensures.puts
    (subst (λ (p : Played). RefusesScripted p.scripts (events.Refused c.args.child) p.log.told) (sym c.self.view_is) c.requires.found)

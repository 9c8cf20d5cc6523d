use Rattle.std.proofs.Common.{◌∙◌, ap, sym, refl, string_bytes}
use Rattle.std.specs.Prelude.{Some, slice_index_or}
use Rattle.std.specs.Option.{option_map}
use Rattle.std.specs.HashMap.{get_by_text}
use Rattle.tk_script.specs.FileTable.{is_at, is_pass}
use Rattle.tk_edge.specs.History.{arming_of, exit_of}
use Rattle.tk_edge.specs.Memory.{has_passed_with, leaves}
use Rattle.tk_script.specs.ScriptHost.{Played}
use Rattle.tk_script.proofs.Played.{played_exited, widened, after_room}
use Rattle.tk_script.proofs.script_log.ScriptLog.end.Goals as goal

pub invariant_of-self-2 : goal.invariant_of-self-2
invariant_of-self-2 c = played_exited _ _ (get_by_text c.widen.new.self.held) _ _ _ _ (widened _ _ _ _ _ _ _ _ _ c.in_ok-widen.ensures.same (λ q. refl) c.self.invariant) _ c.exit_at-exit.result
    (λ q. is_at q (option_map string_bytes c.in_ok-post.post)) (λ pod q. is_pass pod q (option_map (λ p. (string_bytes p.0, p.1)) c.in_ok-pass.pass)) _ _ _ _
    (after_room _ _ _ _ c.exited.ensures.told c.in_ok-make_room.ensures.told) (c.exited.ensures.count ∙ c.in_ok-make_room.ensures.count)
    (sym (c.exit_at-exit.ensures ∙ ap (λ xs. slice_index_or xs c.args.child 0) c.deref.ensures.value))
    (ap (λ (p : Played). exit_of c.args.child p.log.told) c.self.view_is ∙ c.requires.runs)
    (λ pod q. c.in_ok-pass.ensures pod q ∙ ap (λ (p : Played). has_passed_with pod q (arming_of c.args.child p.log.told) (Some c.exit_at-exit.result)) (sym c.self.view_is))
    c.in_ok-add_pass.ensures.added
    (λ q. c.in_ok-post.ensures q ∙ ap (λ (p : Played). leaves q (Some c.exit_at-exit.result) (arming_of c.args.child p.log.told)) (sym c.self.view_is))
    c.leave_within.ensures.bytes c.leave_within.ensures.puts

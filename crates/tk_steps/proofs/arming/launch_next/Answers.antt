use Rattle.std.proofs.Common.{rules, ◌≡◌, refl, None, false, length, slice_get, Some}
use Rattle.std.proofs.lemmas.Option.{slice_get_read}
use Rattle.tk_pod.specs.Exits.{continues}
use Rattle.tk_edge.specs.declared.event.Arming.{Arming}
use Rattle.tk_steps.specs.Paths.{wait_path, post_path}
use Rattle.tk_steps.specs.declared.held.HeldStep.{HeldStep}
use Rattle.tk_steps.proofs.Moved.{launch_moves}
use Rattle.tk_steps.proofs.arming.launch_next.Goals as goal

pub returns-clause-moves : goal.returns-clause-moves
returns-clause-moves g c =
    let arming : Arming = record { order = c.index-as_slice-place.result; wait = c.as_str.result.now; post = c.as_str-2.result.now; keep_going = c.keeps_going-keep_going.result } in
    let step : HeldStep = record { child = c.in_ok-child.child; exit = None; refused = false } in
    let order : slice_get c.args.pod.now.plan.orders (length c.args.pod.now.steps.items) ≡ Some arming.order = slice_get_read c.args.pod.now.plan.orders (length c.args.pod.now.plan.orders) (length c.args.pod.now.steps.items) arming.order refl c.requires.more (search rules) in
    let keeps : arming.keep_going ≡ continues c.args.pod.now.plan.keep (length c.args.pod.now.steps.items) = search rules in
    let waits : arming.wait ≡ wait_path c.args.root.now c.args.pod.now.name (length c.args.pod.now.steps.items) = search rules in
    let posts : arming.post ≡ post_path c.args.root.now c.args.pod.now.name (length c.args.pod.now.steps.items) = search rules in
    launch_moves c.args.root.now c.args.pod.now _ _ _ c.in_ok-child.child arming step c.requires.plan c.requires.holds c.in_ok-child.ensures.told.0 c.in_ok-child.ensures.told.1 order keeps waits posts refl refl refl refl refl c.requires.ready (search rules)

use Rattle.std.proofs.Common.{◌≡◌, ◌++◌, ◌-◌, ◌∙◌, ap, arith}
use Rattle.std.specs.Prelude.{flat_map, string_bytes}
use Rattle.tk_gen.specs.Generate.{tasks_from}
use Rattle.tk_gen.proofs.Joined.{all_joined, goes_on, placed_text}
use Rattle.tk_gen.proofs.generating.write_tasks.Goals as goal

pub loop-place-init : goal.loop-place-init
loop-place-init c =
    let size = c.args.size in
    let none : size - 0 ≡ size = omega arith in
    let state = c.args.draws.now.state in
    ap (λ tasks. string_bytes c.args.text.now ++ tasks) (ap (λ left. flat_map placed_text (tasks_from left 0 state)) none ∙ all_joined size state)

pub loop-place-preserved : goal.loop-place-preserved
loop-place-preserved c = grind (arith, goes_on)

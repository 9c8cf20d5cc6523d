use Rattle.std.proofs.Common.{◌≡◌, ◌+◌, take, cond, ap, sym, ◌∙◌, arith, bytes_eq, find, Some, None}
use Rattle.std.specs.Option.{option_or}
use Rattle.std.proofs.lemmas.Grind.{text_groups}
use Rattle.tk_types.proofs.FirstFound.{find_more, bytes_eq-swap}
use Rattle.tk_types.proofs.first_named.first_found.Goals as goal

pub loop-item-preserved : goal.loop-item-preserved
loop-item-preserved g c = λ name.
    let before = find (λ item. bytes_eq (g.T.Named.name item) name) (take c.loop-item.item-index c.args.items.now) in
    let step : find (λ item. bytes_eq (g.T.Named.name item) name) (take (c.loop-item.item-index + 1) c.args.items.now) ≡ option_or before (cond (bytes_eq name c.name.result.now) (Some c.item-item.result) None) =
    find_more (λ item. bytes_eq (g.T.Named.name item) name) c.args.items.now c.loop-item.item-index c.item-item.result c.loop-item-test.true c.item-item.is
    ∙ ap (λ b. option_or before (cond b (Some c.item-item.result) None)) (bytes_eq-swap (g.T.Named.name c.item-item.result) name ∙ ap (bytes_eq name) (sym c.name.ensures)) in
    rw step (grind (arith, text_groups, c.loop-item.invariant name))

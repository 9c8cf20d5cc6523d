use Rattle.std.proofs.Common.{◌<◌, length, ap, sym, ◌∙◌, arith}
use Rattle.std.proofs.lemmas.Result.{err_from_is_err_and}
use Rattle.tk_payload.specs.Steps.{value_here, items_at}
use Rattle.tk_payload.proofs.Items.{is_done, read_next, enough_next, refused}
use Rattle.tk_payload.proofs.list.read_items.Goals as goal

pub returns-in_err-item-clause-gives : goal.returns-in_err-item-clause-gives
returns-in_err-item-clause-gives g c =
    let at = g.T.Part.at in
    let n = length c.args.reader.now in
    let same = c.items-test.ensures.1 in
    let p = err_from_is_err_and c.from_residual.result c.from_residual.ensures.1 in
    rw (p.1, p.2)
    (refused at c.items.items.items n c.items.reader c.read_value.new.reader (items_at at n c.args.reader.now) c.in_err-item.field-0.0 c.items.invariant.so_far c.items-test.ensures.0
    (rw (← same) c.in_err-item.ensures.gives))

pub items-preserved : goal.items-preserved
items-preserved g c =
    let at = g.T.Part.at in
    let n = length c.args.reader.now in
    let ts = c.items.reader in
    let rest = c.read_value.new.reader in
    let x = c.in_ok-item.item in
    let same = c.items-test.ensures.1 in
    let shorter : length rest < length ts = omega (arith, ap length same, c.in_ok-item.ensures.shorter) in
    let pushed = c.in_ok-push.ensures.items in
    record {
      so_far = read_next at c.items.items.items c.push.new.self.items n ts rest x pushed _ c.items.invariant.so_far shorter c.items.invariant.enough c.items-test.ensures.0
          (ap (value_here at) (sym same) ∙ c.in_ok-item.ensures.gives);
      enough = enough_next at c.items.items.items c.push.new.self.items n ts rest x pushed shorter c.items.invariant.enough;
    }

pub returns-clause-gives : goal.returns-clause-gives
returns-clause-gives g c =
    is_done g.T.Part.at c.items.items.items (length c.args.reader.now) c.items.reader _ c.items.invariant.so_far c.take_end_array.new.self c.items.invariant.enough c.items-test.ensures

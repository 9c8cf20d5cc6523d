use Rattle.std.proofs.Common.{length, ap, ◌∙◌, arith}
use Rattle.tk_matrix.proofs.Digits.{product_count_step}
use Rattle.tk_matrix.proofs.product.count_product.Goals as goal

pub loop-param-preserved : goal.loop-param-preserved
loop-param-preserved c =
    c.saturating_mul-count.ensures ∙ product_count_step c.args.params.now c.loop-param.param-index c.param-item.result c.loop-param.count _ _ (omega arith) c.param-item.is c.loop-param.invariant (ap length c.texts_of.ensures)

use Rattle.std.proofs.Common.{◌+◌, arith, sym, ap, ◌∙◌}
use Rattle.std.specs.Prelude.{sum}
use Rattle.tk_shape.specs.ShapeEnv.{shape_env}
use Rattle.tk_shape.specs.Substituted.{element_count, texts_count}
use Rattle.tk_shape.proofs.Counting.{turn, sum_more}
use Rattle.tk_shape.proofs.values.texts_count.Goals as goal

pub loop-text-preserved : goal.loop-text-preserved
loop-text-preserved c =
    let count = element_count (shape_env c.args.lookup.now) in
    record {
      so_far =
          turn count (λ rest. c.loop-text.count + sum rest) (λ rest. (c.loop-text.count + c.in-Some.more) + sum rest) c.args.texts.now c.loop-text.text-index c.text-item.result c.in-Some.more
          (texts_count (shape_env c.args.lookup.now) c.args.texts.now)
          c.loop-text-test.true
          c.text-item.is
          (ap count (sym c.as_str.ensures) ∙ (sym c.in_ok-more.ensures ∙ c.in-Some.is))
          (sum_more c.loop-text.count c.in-Some.more)
          c.loop-text.invariant.so_far;
      small = omega arith;
    }

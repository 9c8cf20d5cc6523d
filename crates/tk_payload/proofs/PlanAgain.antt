-- What is written of a part of an entry is read again: Order, Plan.
use Rattle.std.proofs.Common.{◌≡◌, List, Some, codes, refl}
use Rattle.json.specs.Token.{Token}
use Rattle.tk_payload.specs.Forms.{order_json, plan_json}
use Rattle.tk_payload.specs.Fits.{OrderFits, PlanFits}
use Rattle.tk_payload.specs.Reading.{order_at, plan_at}
use Rattle.tk_payload.proofs.Again.{Again, field, before, is_plain, all_plain, text_again, count_again_32, listed_again}
use Rattle.tk_payload.proofs.ValueAgain.{pair_again, result_spec_again}
use Rattle.tk_edge.specs.declared.order.Order.{Order}
use Rattle.tk_journal.specs.declared.object.Plan.{Plan}

order_read : (x : Order) (rest : List Token) → OrderFits x → order_at (before (order_json x) rest) ≡ Some (x, rest)
unfolding order_at
order_read x rest fits =
    rw (
      field (listed_again text_again) (codes "argv") x.argv _ (all_plain is_plain x.argv),
      field text_again (codes "dir") x.dir _ tt,
      field (listed_again pair_again) (codes "env") x.env _ (all_plain is_plain x.env),
      field text_again (codes "pod") x.pod _ tt,
      field count_again_32 (codes "step") x.step _ fits,
      order_at,
    ) refl

pub order_again : Again OrderFits order_json order_at
order_again = record { again = order_read }

plan_read : (x : Plan) (rest : List Token) → PlanFits x → plan_at (before (plan_json x) rest) ≡ Some (x, rest)
unfolding plan_at
plan_read x rest fits =
    rw (
      field (listed_again text_again) (codes "folders") x.folders _ (all_plain is_plain x.folders),
      field count_again_32 (codes "keep") x.keep _ fits.1,
      field (listed_again order_again) (codes "orders") x.orders _ fits.0,
      field (listed_again result_spec_again) (codes "results") x.results _ (all_plain is_plain x.results),
      field (listed_again text_again) (codes "scripts") x.scripts _ (all_plain is_plain x.scripts),
      plan_at,
    ) refl

pub plan_again : Again PlanFits plan_json plan_at
plan_again = record { again = plan_read }

-- What is written of a part of an entry is read again: SkipReason, Condition, Binding.
use Rattle.std.proofs.Common.{◌≡◌, List, Some, codes, refl}
use Rattle.json.specs.Token.{Token}
use Rattle.tk_payload.specs.Forms.{stop_json, skip_reason_json, condition_json, binding_json}
use Rattle.tk_payload.specs.Fits.{Plain}
use Rattle.tk_payload.specs.Steps.{word_at}
use Rattle.tk_payload.specs.Reading.{skip_reason_at, condition_at, binding_at, skip_reason_under}
use Rattle.tk_payload.proofs.Again.{Again, field, key_known, before, is_plain, all_plain, text_again, boolean_again, listed_again}
use Rattle.tk_payload.proofs.ValueAgain.{param_again}
use Rattle.tk_payload.proofs.RunAgain.{stop_again}
use Rattle.tk_types.specs.declared.verdict.SkipReason.{SkipReason}
use Rattle.tk_types.specs.declared.verdict.SkipReason.TheVariants as reasons
use Rattle.tk_types.specs.declared.verdict.Condition.{Condition}
use Rattle.tk_types.specs.declared.verdict.Binding.{Binding}

skip_reason_read : (x : SkipReason) (rest : List Token) → Plain x → skip_reason_at (before (skip_reason_json x) rest) ≡ Some (x, rest)
unfolding skip_reason_at word_at skip_reason_under
skip_reason_read reasons.Parent rest fits = refl
skip_reason_read reasons.Missing rest fits = refl
skip_reason_read reasons.Broken rest fits = refl
skip_reason_read reasons.When rest fits = refl
skip_reason_read reasons.EmptyMatrix rest fits = refl
skip_reason_read (reasons.Stopped x) rest fits = rw (key_known (codes "Stopped") (stop_json x) _, stop_again.again x _ tt, skip_reason_at, skip_reason_under) refl

pub skip_reason_again : Again Plain skip_reason_json skip_reason_at
skip_reason_again = record { again = skip_reason_read }

condition_read : (x : Condition) (rest : List Token) → Plain x → condition_at (before (condition_json x) rest) ≡ Some (x, rest)
unfolding condition_at
condition_read x rest fits =
    rw (
      field boolean_again (codes "holds") x.holds _ tt,
      field text_again (codes "reason") x.reason _ tt,
      condition_at,
    ) refl

pub condition_again : Again Plain condition_json condition_at
condition_again = record { again = condition_read }

binding_read : (x : Binding) (rest : List Token) → Plain x → binding_at (before (binding_json x) rest) ≡ Some (x, rest)
unfolding binding_at
binding_read x rest fits =
    rw (
      field (listed_again param_again) (codes "params") x.params _ (all_plain is_plain x.params),
      binding_at,
    ) refl

pub binding_again : Again Plain binding_json binding_at
binding_again = record { again = binding_read }

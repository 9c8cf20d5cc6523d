-- What is written of a part of an entry is read again: Pair, Value, ParamType, Param, ParamSpec, ResultSpec.
use Rattle.std.proofs.Common.{◌≡◌, List, Some, codes, refl}
use Rattle.json.specs.Token.{Token}
use Rattle.json.specs.Json.{string}
use Rattle.tk_payload.specs.Forms.{listed, pair_json, value_json, param_type_json, param_json, param_spec_json, result_spec_json}
use Rattle.tk_payload.specs.Fits.{Plain}
use Rattle.tk_payload.specs.Steps.{word_at}
use Rattle.tk_payload.specs.Reading.{pair_at, value_at, param_type_at, param_at, param_spec_at, result_spec_at, value_under}
use Rattle.tk_payload.proofs.Again.{Again, IsNeverNull, field, key_known, before, is_plain, optional_plain, all_plain, text_again, optional_again, listed_again}
use Rattle.tk_types.specs.declared.value.Pair.{Pair}
use Rattle.tk_types.specs.declared.value.Value.{Value}
use Rattle.tk_types.specs.declared.value.Value.TheVariants as value_kinds
use Rattle.tk_types.specs.declared.value.ParamType.{ParamType}
use Rattle.tk_types.specs.declared.value.ParamType.TheVariants as param_types
use Rattle.tk_types.specs.declared.value.Param.{Param}
use Rattle.tk_types.specs.declared.value.ParamSpec.{ParamSpec}
use Rattle.tk_types.specs.declared.value.ResultSpec.{ResultSpec}

pair_read : (x : Pair) (rest : List Token) → Plain x → pair_at (before (pair_json x) rest) ≡ Some (x, rest)
unfolding pair_at
pair_read x rest fits =
    rw (
      field text_again (codes "key") x.key _ tt,
      field text_again (codes "value") x.value _ tt,
      pair_at,
    ) refl

pub pair_again : Again Plain pair_json pair_at
pair_again = record { again = pair_read }

value_read : (x : Value) (rest : List Token) → Plain x → value_at (before (value_json x) rest) ≡ Some (x, rest)
unfolding value_at value_under
value_read (value_kinds.Str x) rest fits = rw (key_known (codes "Str") (string x) _, text_again.again x _ tt, value_at, value_under) refl
value_read (value_kinds.Arr x) rest fits = rw (key_known (codes "Arr") (listed string x) _, (listed_again text_again).again x _ (all_plain is_plain x), value_at, value_under) refl
value_read (value_kinds.Obj x) rest fits = rw (key_known (codes "Obj") (listed pair_json x) _, (listed_again pair_again).again x _ (all_plain is_plain x), value_at, value_under) refl

pub value_again : Again Plain value_json value_at
value_again = record { again = value_read }

pub value_is_some : IsNeverNull value_json
value_is_some (value_kinds.Str x) = refl
value_is_some (value_kinds.Arr x) = refl
value_is_some (value_kinds.Obj x) = refl

param_type_read : (x : ParamType) (rest : List Token) → Plain x → param_type_at (before (param_type_json x) rest) ≡ Some (x, rest)
unfolding param_type_at word_at
param_type_read param_types.Str rest fits = refl
param_type_read param_types.Arr rest fits = refl
param_type_read param_types.Obj rest fits = refl

pub param_type_again : Again Plain param_type_json param_type_at
param_type_again = record { again = param_type_read }

param_read : (x : Param) (rest : List Token) → Plain x → param_at (before (param_json x) rest) ≡ Some (x, rest)
unfolding param_at
param_read x rest fits =
    rw (
      field text_again (codes "name") x.name _ tt,
      field value_again (codes "value") x.value _ tt,
      param_at,
    ) refl

pub param_again : Again Plain param_json param_at
param_again = record { again = param_read }

param_spec_read : (x : ParamSpec) (rest : List Token) → Plain x → param_spec_at (before (param_spec_json x) rest) ≡ Some (x, rest)
unfolding param_spec_at
param_spec_read x rest fits =
    rw (
      field (optional_again value_again value_is_some) (codes "default_value") x.default_value _ (optional_plain is_plain x.default_value),
      field param_type_again (codes "kind") x.kind _ tt,
      field text_again (codes "name") x.name _ tt,
      field (listed_again text_again) (codes "properties") x.properties _ (all_plain is_plain x.properties),
      param_spec_at,
    ) refl

pub param_spec_again : Again Plain param_spec_json param_spec_at
param_spec_again = record { again = param_spec_read }

result_spec_read : (x : ResultSpec) (rest : List Token) → Plain x → result_spec_at (before (result_spec_json x) rest) ≡ Some (x, rest)
unfolding result_spec_at
result_spec_read x rest fits =
    rw (
      field param_type_again (codes "kind") x.kind _ tt,
      field text_again (codes "name") x.name _ tt,
      result_spec_at,
    ) refl

pub result_spec_again : Again Plain result_spec_json result_spec_at
result_spec_again = record { again = result_spec_read }

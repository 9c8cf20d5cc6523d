use Rattle.std.proofs.Common.{◌≡◌, ◌+◌, ◌-◌, ◌*◌, ◌^◌, ◌≤◌, map, drop}
use Rattle.std.specs.Prelude.{option_map, sum}
use Rattle.tk_types.specs.Lists.{all_some}
use Rattle.tk_shape.specs.ShapeEnv.{shape_env}
use Rattle.tk_shape.specs.Substituted.{element_count, texts_count}
use Rattle.tk_shape.proofs.values.texts_count.Given as goal

-- the count so far, and what those that are left give, are the whole; each gives less than a machine word can't say
abbrev pub invariant-loop-text : goal.invariant-loop-text
invariant-loop-text l = record {
  so_far : option_map (λ rest. l.count + sum rest) (all_some (map (element_count (shape_env l.lookup)) (drop l.text-index l.texts))) ≡ texts_count (shape_env l.lookup) l.texts;
  small : l.count ≤ l.text-index * (2 ^ 64 - 1);
}

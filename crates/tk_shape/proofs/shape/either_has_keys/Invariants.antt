use Rattle.std.proofs.Common.{◌≡◌, drop}
use Rattle.std.specs.Prelude.{fold, option_copied}
use Rattle.std.specs.List.{list_all}
use Rattle.tk_shape.specs.Bound.{default_keys, with_key}
use Rattle.tk_shape.specs.Shape.{has_key, keys_of}
use Rattle.tk_shape.proofs.shape.either_has_keys.Given as goal

-- the keys that are left decide
abbrev pub invariant-loop-key : goal.invariant-loop-key
invariant-loop-key l =
    list_all (λ key. has_key key (fold with_key (keys_of l.pairs) (default_keys (option_copied l.default_shape)))) (drop l.key-index l.keys)
    ≡ list_all (λ key. has_key key (fold with_key (keys_of l.pairs) (default_keys (option_copied l.default_shape)))) l.keys

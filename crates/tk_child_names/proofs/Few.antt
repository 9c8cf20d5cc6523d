-- A few children are told as they are counted.
use Rattle.std.proofs.Common.{◌≡◌, ◌≤◌, ℕ, Option, Some, None, option_map, refl, ap, arith}
use Rattle.std.specs.Prelude.{unwrap_or}
use Rattle.std.specs.Option.{ForSome}
use Rattle.std.proofs.lemmas.Option.{none-some, same_Some}
use Rattle.tk_types.specs.Limits.{most_combinations}
use Rattle.tk_early.specs.Possible.{told_count}

told_few : (count : ℕ) → count ≤ most_combinations → told_count count ≡ count
told_few count few = omega arith

pub few_told : (o : Option ℕ) → unwrap_or o 1 ≤ most_combinations → option_map told_count o ≡ o
few_told None few = refl
few_told (Some count) few = ap Some (told_few count few)

pub few_there : (o : Option ℕ) → unwrap_or o 1 ≤ most_combinations → ForSome o (λ count. count ≤ most_combinations)
few_there None few = λ count is. absurd (none-some count is)
few_there (Some count) few = λ other is. let same = same_Some count other is in omega (arith, same)

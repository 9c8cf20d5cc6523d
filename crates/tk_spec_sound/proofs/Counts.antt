-- Whether children are few can be seen by their number as it is told; and what is asked of what can't start.
use Rattle.std.proofs.Common.{◌≡◌, ◌≤◌, ℕ, List, Option, Some, None, option_map, sym, arith, ◌↔◌}
use Rattle.std.specs.Prelude.{unwrap_or}
use Rattle.std.proofs.lemmas.Option.{none-some, same_Some}
use Rattle.tk_types.specs.Limits.{most_combinations}
use Rattle.tk_types.specs.declared.run.Start.{Start}
use Rattle.tk_types.specs.declared.run.Start.TheVariants.{Ready, Unstartable}
use Rattle.tk_early.specs.Possible.{told_count}

pub few_some : (children : Option ℕ) (count : ℕ) → Some count ≡ option_map told_count children → (count ≤ most_combinations) ↔ (unwrap_or children 1 ≤ most_combinations)
few_some None count is = absurd (none-some count (sym is))
few_some (Some children) count is =
    let same : count ≡ told_count children = same_Some count (told_count children) is in
    (λ few. omega (arith, same), λ few. omega (arith, same))

pub few_none : (children : Option ℕ) → None ≡ option_map told_count children → unwrap_or children 1 ≤ most_combinations
few_none None is = omega arith
few_none (Some children) is = absurd (none-some (told_count children) is)

-- a body that can't start needs no step
pub not_ready : (start : Start) (why : List ℕ) → start ≡ Unstartable why → start ≡ Ready → ⊥
not_ready start why is ready = cc

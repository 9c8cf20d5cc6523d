-- Environments that differ at most in the texts of their words.
use Rattle.std.specs.Prelude.{◌≡◌, ℕ, List, is_some}
use Rattle.tk_types.specs.Value.{text_at}
use Rattle.tk_bind.specs.declared.env.Env.{Env}

-- the same parameters and results, and words of the same keys
pub record IsAlike (a b : Env) : Type 0 where
  pub params : a.params ≡ b.params
  pub results : a.results ≡ b.results
  pub words : (key : List ℕ) → is_some (text_at key a.words) ≡ is_some (text_at key b.words)

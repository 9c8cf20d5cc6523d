use Rattle.std.proofs.Common.{◌≡◌, ℕ, List, None, sym, ap, subst, arith, true, not}
use Rattle.std.specs.Prelude.{◌==◌}
use Rattle.std.specs.List.{list_all}
use Rattle.memchr.specs.Find.{IsFirstByte, is_byte}
use Rattle.tk_vars.proofs.StandFacts.{none_is}
use Rattle.tk_vars.proofs.scanner.has_no_dollar.Goals as goal

absent : (text : List ℕ) → IsFirstByte (is_byte 36) text None → list_all (λ c. not (c == 36)) text ≡ true
absent text nowhere = none_is 36 text (λ i below is. nowhere i (omega arith) below (ap (λ b. b == 36) is))

pub returns-in-None : goal.returns-in-None
returns-in-None c = sym (absent c.args.text.now (subst (λ bytes. IsFirstByte (is_byte 36) bytes None) c.as_bytes.ensures.value c.in-None.ensures))

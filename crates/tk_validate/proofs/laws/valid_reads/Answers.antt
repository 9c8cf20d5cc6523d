use Rattle.std.proofs.Common.{◌≡◌, Some, inl, inr}
use Rattle.tk_vars.specs.Offset.{bad_offset}
use Rattle.tk_validate.proofs.ValidReads.{KnowsReadings, valid_reads}
use Rattle.tk_validate.proofs.laws.valid_reads.Goals as goal

pub returns : goal.returns
returns c =
    let knows : KnowsReadings =
    λ text good. elim (c.reading_or_bad_offset.ensures.one text) [
      | inl reading ↦ reading
      | inr bad ↦ let found : bad_offset text ≡ Some bad.0 = c.one_bad_offset.ensures.bad text bad.0 bad.1 in cc
    ] in
    λ item e. valid_reads knows item e

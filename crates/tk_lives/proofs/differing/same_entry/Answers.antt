use Rattle.std.proofs.Common.{sym, ◌∙◌}
use Rattle.tk_lives.proofs.Taken.{same_by}
use Rattle.tk_lives.proofs.differing.same_entry.Goals as goal

pub returns-clause-one : goal.returns-clause-one
returns-clause-one c is =
    same_by c.args.one.now c.args.other.now c.as_slice.result.now c.as_slice-2.result.now (c.as_slice.ensures ∙ c.in_ok-first.ensures.text) (c.as_slice-2.ensures ∙ c.in_ok-second.ensures.text)
    c.in_ok-first.ensures.entry c.in_ok-second.ensures.entry (sym c.eq.ensures ∙ is)

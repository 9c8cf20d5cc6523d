use Rattle.tk_taken_names.proofs.Answers.{no_is, refused_by, told_as}
use Rattle.tk_taken_names.proofs.taken.TakenNames.are_new.Goals as goal

pub returns-then-not-branch : goal.returns-then-not-branch
returns-then-not-branch c = no_is (λ new. refused_by c.in_ok-all_differ.field-0 c.in_ok-all_differ.ensures c.if-not-branch.true new.differ)

pub returns : goal.returns
returns c =
    told_as c.each_is_new.result (λ apart. record { differ = c.in_ok-all_differ.ensures.0 c.if-not-branch.false; apart = apart }) (λ new. new.apart)
    c.each_is_new.ensures

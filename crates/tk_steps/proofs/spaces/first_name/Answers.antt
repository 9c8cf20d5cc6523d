use Rattle.std.proofs.Common.{Some, arith, inr}
use Rattle.std.proofs.lemmas.Str.Pattern.{split_parts}
use Rattle.tk_steps.proofs.Behind.{lies_behind}
use Rattle.tk_steps.proofs.spaces.first_name.Goals as goal

pub returns-in-Some : goal.returns-in-Some
returns-in-Some c =
    let parts = split_parts 47 c.args.path.now (Some (c.in-Some.name, c.in-Some.field-0-1)) c.in-Some.ensures.cases (omega arith) in
    inr (lies_behind c.in-Some.name.now c.in-Some.field-0-1.now c.args.path.now parts.0)

use Rattle.std.proofs.Common.{◌≡◌, ◌+◌, ◌-◌, length, ◌∙◌, ap, subst, arith, length-append}
use Rattle.std.specs.Str.{IsCharBoundary}
use Rattle.std.proofs.lemmas.Str.{IsCharBoundary-at_seam}
use Rattle.tk_vars.proofs.scanner.in_front.Goals as goal

pub split_at-requires : goal.split_at-requires
split_at-requires c =
    let text = c.args.text.now in
    let rest = c.args.rest.now in
    let long : length text ≡ length c.requires.0 + length rest = ap length c.requires.1 ∙ length-append c.requires.0 rest in
    let at : length c.requires.0 ≡ length text - length rest = omega arith in
    subst (IsCharBoundary text) at (IsCharBoundary-at_seam text c.requires.0 rest c.requires.1 c.utf8.rest)
